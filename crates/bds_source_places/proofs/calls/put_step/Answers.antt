use Rattle.std.proofs.lemmas.Result.{IfOk-weaker}
use Rattle.bds_meaning.specs.OpeningExpressions as expressions
use Rattle.bds_tree.specs.View.{tree_of}
use Rattle.bds_source_places.proofs.PlaceLists.{part_put}
use Rattle.bds_source_places.proofs.calls.put_step.Goals as goal

pub returns-in-Ok : goal.returns-in-Ok
returns-in-Ok c = IfOk-weaker c.push.result _ _ (λ x put. part_put c.args.terms.now c.push.new.self c.in-Ok.term (expressions.term_of c.args.names.now (tree_of c.args.expr.now)) put c.in-Ok.ensures) c.push.ensures.ok
