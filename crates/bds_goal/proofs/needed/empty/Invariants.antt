use Rattle.bds_goal.specs.Marks.{AreEmpty}
use Rattle.bds_goal.proofs.needed.empty.Given as goal

abbrev pub invariant-loop : goal.invariant-loop
invariant-loop l = AreEmpty l.counter l.lists
