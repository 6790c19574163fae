use Rattle.std.proofs.Common.{◌∙◌}
use Rattle.bds_tree.specs.View.{tree_of}
use Rattle.bds_gen_stmt_code.proofs.Opening.{each_begun_is, each_opened_is}
use Rattle.bds_gen_stmt_code.proofs.control.begin_each.Goals as goal

pub returns-clause-unit : goal.returns-clause-unit
returns-clause-unit c = each_begun_is c.args.ty.now c.args.name.now (tree_of c.args.items.now) c.args.at c.args.unit.now c.write_head.new.body c.replace-around.new.dest c.in_ok-head.ensures.code (c.replace-around.ensures.after ∙ c.new.ensures)

pub returns-clause-opened : goal.returns-clause-opened
returns-clause-opened c =
    each_opened_is c.args.ty.now c.args.name.now (tree_of c.args.items.now) c.args.at c.args.unit.now c.write_head.new.body c.in_ok-head.head c.replace-around.result c.in_ok-head.ensures.code c.in_ok-head.ensures.head c.replace-around.ensures.value
