use Rattle.std.proofs.Common.{◌∙◌}
use Rattle.std.specs.Option.{option_map}
use Rattle.bds_tree.specs.StmtView.{small_of}
use Rattle.bds_tree.specs.View.{tree_of}
use Rattle.bds_gen_stmt_code.proofs.Opening.{for_begun_is, for_opened_is}
use Rattle.bds_gen_stmt_code.proofs.control.begin_for.Goals as goal

pub returns-clause-unit : goal.returns-clause-unit
returns-clause-unit c =
    for_begun_is (option_map small_of c.args.first.now) (option_map tree_of c.args.condition.now) c.args.at c.args.unit.now c.write_small.new.body c.begin_loop.new.function c.write_condition.new.function c.replace-around.new.dest
    c.in_ok-write_small.ensures c.in_ok-top.ensures.code c.in_ok-test.ensures.code (c.replace-around.ensures.after ∙ c.new.ensures)

pub returns-clause-opened : goal.returns-clause-opened
returns-clause-opened c =
    for_opened_is (option_map small_of c.args.first.now) (option_map tree_of c.args.condition.now) c.args.at c.args.unit.now c.write_small.new.body c.begin_loop.new.function c.in_ok-top.top c.in_ok-test.test c.replace-around.result
    c.in_ok-write_small.ensures c.in_ok-top.ensures.code c.in_ok-top.ensures.place c.in_ok-test.ensures.place c.replace-around.ensures.value
