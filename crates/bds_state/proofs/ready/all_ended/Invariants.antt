use Rattle.std.proofs.Common.{◌≡◌, ◌≤◌, drop, length, true}
use Rattle.std.specs.List.{list_all}
use Rattle.bds_state.specs.Ready.{names_ended}
use Rattle.bds_state.proofs.ready.all_ended.Given as goal

abbrev pub invariant-loop-i : goal.invariant-loop-i
invariant-loop-i l = (list_all (names_ended l.threads l.tasks) (drop l.i l.ids) ≡ true) × (l.i ≤ length l.ids)
