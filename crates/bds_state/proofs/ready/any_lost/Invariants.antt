use Rattle.std.proofs.Common.{◌≡◌, drop}
use Rattle.std.specs.List.{list_any}
use Rattle.bds_state.specs.Ready.{names_lost}
use Rattle.bds_state.proofs.ready.any_lost.Given as goal

abbrev pub invariant-loop-i : goal.invariant-loop-i
invariant-loop-i l = list_any (names_lost l.tasks) (drop l.i l.ids) ≡ list_any (names_lost l.tasks) l.ids
