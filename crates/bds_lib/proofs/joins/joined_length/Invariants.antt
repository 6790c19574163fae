use Rattle.std.proofs.Common.{◌≡◌, take, length}
use Rattle.std.specs.List.{join_by}
use Rattle.bds_value.specs.TextResult.{held}
use Rattle.bds_lib.specs.Lists.{item_text}
use Rattle.bds_lib.proofs.joins.joined_length.Given as goal

abbrev pub invariant-loop-i : goal.invariant-loop-i
invariant-loop-i l = l.total ≡ held (length (join_by item_text l.separator (take l.i l.items)))
