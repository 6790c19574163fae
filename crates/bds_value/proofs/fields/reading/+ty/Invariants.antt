use Rattle.std.proofs.Common.{◌+◌, ◌*◌}
use Rattle.bds_value.proofs.fields.reading.+ty.Given as goal

abbrev pub decreases-read_item_ty : goal.decreases-read_item_ty
decreases-read_item_ty l = 2 * l.room

abbrev pub decreases-read_ty_within : goal.decreases-read_ty_within
decreases-read_ty_within l = 2 * l.room + 1
