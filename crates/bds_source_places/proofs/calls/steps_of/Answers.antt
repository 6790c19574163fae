use Rattle.bds_tree.specs.View.{tree_of}
use Rattle.bds_source_places.proofs.PlaceLists.{all_steps}
use Rattle.bds_source_places.proofs.calls.steps_of.Goals as goal

pub returns-in-Ok : goal.returns-in-Ok
returns-in-Ok c = all_steps c.args.names.now (tree_of c.args.expr.now) c.put_steps.new.terms c.new-steps.result c.new-steps.ensures c.in-Ok.ensures
