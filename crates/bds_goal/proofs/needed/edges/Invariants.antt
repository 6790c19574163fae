use Rattle.std.proofs.Common.{◌≡◌, ◌++◌, drop}
use Rattle.bds_goal.specs.Edges.{edges, edges_from}
use Rattle.bds_goal.proofs.needed.edges.Given as goal

abbrev pub invariant-loop-rule : goal.invariant-loop-rule
invariant-loop-rule l = l.all ++ edges_from l.rules (drop l.rule-index l.rules) ≡ edges l.rules
