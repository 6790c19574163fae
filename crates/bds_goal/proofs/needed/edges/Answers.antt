use Rattle.std.proofs.Common.{◌≡◌, ◌++◌, ap, arith, drop, length}
use Rattle.std.proofs.lemmas.List.{length-append}
use Rattle.bds_goal.specs.Edges.{edges, edges_from}
use Rattle.bds_goal.proofs.EdgeLaws.{are_edges}
use Rattle.bds_goal.proofs.needed.edges.Goals as goal

pub returns-clause-few : goal.returns-clause-few
returns-clause-few c =
    let rules = c.args.rules.now in
    let long = (are_edges rules c.as_slice-rule-items.ensures.own).long in
    let all : c.loop-rule.all ++ edges_from rules (drop c.loop-rule.rule-index rules) ≡ edges rules = c.loop-rule.invariant in
    omega (arith, ap length all, length-append c.loop-rule.all (edges_from rules (drop c.loop-rule.rule-index rules)), ap length c.as_slice-rule-items.ensures.same)
