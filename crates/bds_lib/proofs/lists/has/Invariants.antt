use Rattle.std.proofs.Common.{◌≡◌, drop}
use Rattle.std.specs.List.{list_any}
use Rattle.bds_lib.specs.Lists.{is_same}
use Rattle.bds_lib.proofs.lists.has.Given as goal

abbrev pub invariant-loop-other : goal.invariant-loop-other
invariant-loop-other l = list_any (λ v. is_same v l.item) (drop l.other-index l.items) ≡ list_any (λ v. is_same v l.item) l.items
