use Rattle.bds_engine_parts.proofs.Naming.{IsOnWay}
use Rattle.bds_engine_parts.proofs.ids.ids_of.Given as goal

abbrev pub invariant-loop-i : goal.invariant-loop-i
invariant-loop-i l = IsOnWay l.tasks l.threads l.texts l.i l.ids
