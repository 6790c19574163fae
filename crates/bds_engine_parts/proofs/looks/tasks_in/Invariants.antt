use Rattle.std.proofs.Common.{◌≡◌, ◌++◌, drop}
use Rattle.bds_state.specs.Waited.{tasks_in}
use Rattle.bds_engine_parts.proofs.looks.tasks_in.Given as goal

abbrev pub invariant-loop-i : goal.invariant-loop-i
invariant-loop-i l = l.numbers ++ tasks_in (drop l.i l.ids) ≡ tasks_in l.ids
