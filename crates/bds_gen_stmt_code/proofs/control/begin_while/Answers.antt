use Rattle.std.proofs.Common.{◌∙◌}
use Rattle.bds_tree.specs.View.{tree_of}
use Rattle.bds_gen_stmt_code.proofs.Opening.{while_begun_is, while_opened_is}
use Rattle.bds_gen_stmt_code.proofs.control.begin_while.Goals as goal

pub returns-clause-unit : goal.returns-clause-unit
returns-clause-unit c =
    while_begun_is (tree_of c.args.condition.now) c.args.at c.args.unit.now c.begin_loop.new.function c.write_test.new.function c.replace-around.new.dest c.in_ok-top.ensures.code c.in_ok-test.ensures.code (c.replace-around.ensures.after ∙ c.new.ensures)

pub returns-clause-opened : goal.returns-clause-opened
returns-clause-opened c =
    while_opened_is (tree_of c.args.condition.now) c.args.at c.args.unit.now c.begin_loop.new.function c.in_ok-top.top c.in_ok-test.test c.replace-around.result c.in_ok-top.ensures.code c.in_ok-top.ensures.place c.in_ok-test.ensures.place c.replace-around.ensures.value
