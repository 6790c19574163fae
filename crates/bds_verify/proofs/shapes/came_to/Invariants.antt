use Rattle.bds_verify.specs.Marked.{IsBeginning}
use Rattle.bds_verify.proofs.shapes.came_to.Given as goal

abbrev pub invariant-loop-at : goal.invariant-loop-at
invariant-loop-at l = IsBeginning l.unit l.function l.at l.come
