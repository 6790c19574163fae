use Rattle.std.proofs.Common.{◌≡◌, ◌+◌, drop}
use Rattle.std.specs.List.{position_or_len}
use Rattle.bds_lib.specs.Lists.{is_same}
use Rattle.bds_lib.proofs.changes.place_of.Given as goal

abbrev pub invariant-loop-i : goal.invariant-loop-i
invariant-loop-i l = l.i + position_or_len (λ v. is_same v l.item) (drop l.i l.items) ≡ position_or_len (λ v. is_same v l.item) l.items
