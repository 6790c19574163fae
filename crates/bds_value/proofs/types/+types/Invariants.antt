use Rattle.std.proofs.Common.{◌+◌, ◌*◌}
use Rattle.bds_value.proofs.types.+types.Given as goal

abbrev pub decreases-fits_inside : goal.decreases-fits_inside
decreases-fits_inside l = 2 * l.room

abbrev pub decreases-fits_within : goal.decreases-fits_within
decreases-fits_within l = 2 * l.room + 1
