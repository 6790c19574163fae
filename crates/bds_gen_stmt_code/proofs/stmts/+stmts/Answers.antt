use Rattle.std.proofs.Common.{arith}
use Rattle.std.proofs.lemmas.Result.{on_ok_weaker}
use Rattle.std.specs.Option.{option_map}
use Rattle.bds_tree.specs.declared.stmt.Block.{out-Block}
use Rattle.bds_tree.specs.StmtView.{stmt_of, line_of, small_of, place_of, right_of, act_of, block_of, cases_of}
use Rattle.bds_tree.specs.View.{tree_of}
use Rattle.bds_gen_stmt_code.proofs.Walks.{inner_is, within_is, if_is, if_else_is, while_is, for_is, each_is, taking_is, declared_is, inferred_is, returned_is, alone_is, par_is, stmt_is, block_is, block_at, form_block, form_empty, form_line, right_expr_is, right_act_is, act_par_is, act_plain_is, line_plain_is, line_assign_is, line_update_is, stmts_none, stmts_next, switch_is, case_is, form_switch, jumps_fit, cases_none, cases_next}
use Rattle.bds_gen_stmt_code.proofs.stmts.+stmts.Goals as goal

pub write_stmt-returns : goal.write_stmt-returns
write_stmt-returns t c = on_ok_weaker c.write_form.result (λ e. stmt_is c.args.stmt.now c.args.unit.now c.write_form.new.unit e) c.write_form.ensures

pub write_inner-returns : goal.write_inner-returns
write_inner-returns t c =
    inner_is (stmt_of c.args.stmt.now) c.args.unit.now c.write_stmt.new.unit c.enter-before.new.body c.leave.new.body c.enter-before.result c.enter-before.ensures.body c.enter-before.ensures.before c.in_ok-write_stmt.ensures c.leave.ensures

pub write_within-returns : goal.write_within-returns
write_within-returns t c =
    within_is (block_of c.args.block.now) c.args.unit.now c.write_block.new.unit c.enter-before.new.body c.leave.new.body c.enter-before.result c.enter-before.ensures.body c.enter-before.ensures.before c.in_ok-write_block.ensures c.leave.ensures

pub write_block-returns : goal.write_block-returns
write_block-returns t c = on_ok_weaker c.write_stmts.result (λ e. block_is c.args.block.now c.as_slice.result.now c.args.unit.now c.write_stmts.new.unit c.as_slice.ensures e) c.write_stmts.ensures

pub write_if-returns : goal.write_if-returns
write_if-returns t c =
    on_ok_weaker c.end_if.result
    (λ e. if_is (tree_of c.args.condition.now) (stmt_of c.args.way.now) c.args.at c.args.unit.now c.begin_if.new.unit c.write_inner.new.unit c.end_if.new.unit c.in_ok-test.test c.in_ok-test.ensures.unit c.in_ok-test.ensures.place c.in_ok-write_inner.ensures e)
    c.end_if.ensures

pub write_if_else-returns : goal.write_if_else-returns
write_if_else-returns t c =
    on_ok_weaker c.end_else.result
    (λ e. if_else_is (tree_of c.args.condition.now) (stmt_of c.args.way.now) (stmt_of c.args.other.now) c.args.at c.args.unit.now c.begin_if.new.unit c.write_inner.new.unit c.begin_else.new.unit c.write_inner-2.new.unit c.end_else.new.unit c.in_ok-test.test c.in_ok-jump.jump
    c.in_ok-test.ensures.unit c.in_ok-test.ensures.place c.in_ok-write_inner.ensures c.in_ok-jump.ensures.unit c.in_ok-jump.ensures.place c.in_ok-write_inner-2.ensures e)
    c.end_else.ensures

pub write_while-returns : goal.write_while-returns
write_while-returns t c =
    on_ok_weaker c.end_while.result
    (λ e. while_is (tree_of c.args.condition.now) (stmt_of c.args.inner.now) c.args.at c.args.unit.now c.begin_while.new.unit c.write_inner.new.unit c.end_while.new.unit c.in_ok-opened.opened c.in_ok-opened.ensures.unit c.in_ok-opened.ensures.opened c.in_ok-write_inner.ensures e)
    c.end_while.ensures

pub write_for-returns : goal.write_for-returns
write_for-returns t c =
    on_ok_weaker c.end_for.result
    (λ e. for_is (option_map small_of c.args.first.now) (option_map tree_of c.args.condition.now) (option_map small_of c.args.step.now) (stmt_of c.args.inner.now) c.args.at c.args.unit.now c.begin_for.new.unit c.write_inner.new.unit c.end_for.new.unit c.in_force-before.result c.in_ok-opened.opened
    c.in_force-before.ensures c.in_ok-opened.ensures.unit c.in_ok-opened.ensures.opened c.in_ok-write_inner.ensures e)
    c.end_for.ensures

pub write_each-returns : goal.write_each-returns
write_each-returns t c =
    on_ok_weaker c.end_each.result
    (λ e. each_is c.args.ty.now c.args.name.now (tree_of c.args.items.now) (stmt_of c.args.inner.now) c.args.at c.args.unit.now c.begin_each.new.unit c.write_inner.new.unit c.end_each.new.unit c.in_force-before.result c.in_ok-opened.opened
    c.in_force-before.ensures c.in_ok-opened.ensures.unit c.in_ok-opened.ensures.opened c.in_ok-write_inner.ensures e)
    c.end_each.ensures

pub write_switch-returns : goal.write_switch-returns
write_switch-returns t c =
    on_ok_weaker c.end_switch.result
    (λ e. switch_is (tree_of c.args.value.now) (cases_of c.args.cases.now) c.args.at c.args.unit.now c.begin_switch.new.unit c.write_cases.new.unit c.end_switch.new.unit c.in_ok-opened.opened c.as_slice.result.now c.in_ok-opened.ensures.unit c.in_ok-opened.ensures.opened
    c.as_slice.ensures c.in_ok-write_cases.ensures e)
    c.end_switch.ensures

pub write_switch-write_cases-requires : goal.write_switch-write_cases-requires
write_switch-write_cases-requires t c =
    (omega (arith, c.decreases), jumps_fit (tree_of c.args.value.now) c.args.cases.now c.args.at c.args.unit.now c.in_ok-opened.opened c.as_slice.result.now c.in_ok-opened.ensures.opened c.as_slice.ensures)

pub write_case-returns : goal.write_case-returns
write_case-returns t c =
    case_is c.args.case.now c.as_slice.result.now c.args.jump c.args.unit.now c.begin_case.new.unit c.write_stmts.new.unit c.enter-before.new.body c.leave.new.body c.enter-before.result c.in_ok-begin_case.ensures c.enter-before.ensures.body c.enter-before.ensures.before c.as_slice.ensures
    c.in_ok-write_stmts.ensures c.leave.ensures

pub write_taking-returns : goal.write_taking-returns
write_taking-returns t c =
    on_ok_weaker c.end_taking.result
    (λ e. taking_is (place_of c.args.place.now) c.args.what (right_of c.args.right.now) c.args.at c.args.unit.now c.begin_taking.new.unit c.write_right.new.unit c.end_taking.new.unit c.begin_taking.new.shape c.in_ok-kinds.ensures.unit c.in_ok-kinds.ensures.shape c.in_ok-write_right.ensures e)
    c.end_taking.ensures

pub write_declared-returns : goal.write_declared-returns
write_declared-returns t c =
    on_ok_weaker c.declare_with.result
    (λ e. declared_is c.args.ty.now c.args.name.now (right_of c.args.right.now) c.args.at c.args.unit.now c.write_right.new.unit c.declare_with.new.unit c.new.result c.new.ensures c.in_ok-write_right.ensures e)
    c.declare_with.ensures

pub write_inferred-returns : goal.write_inferred-returns
write_inferred-returns t c =
    on_ok_weaker c.declare_with.result
    (λ e. inferred_is c.in_ok-ty.ty c.args.name.now (right_of c.args.right.now) c.args.at c.args.unit.now c.write_right.new.unit c.declare_with.new.unit c.new.result c.new.ensures c.in_ok-write_right.ensures c.in_ok-ty.ensures e)
    c.declare_with.ensures

pub write_returned-returns : goal.write_returned-returns
write_returned-returns t c =
    on_ok_weaker c.write_return.result
    (λ e. returned_is (right_of c.args.right.now) c.args.at c.args.unit.now c.write_right.new.unit c.write_return.new.unit c.new.result c.new.ensures c.in_ok-write_right.ensures e)
    c.write_return.ensures

pub write_alone-returns : goal.write_alone-returns
write_alone-returns t c =
    on_ok_weaker c.drop_act.result
    (λ e. alone_is (act_of c.args.act.now) c.args.at c.args.unit.now c.write_act.new.unit c.drop_act.new.unit c.new.result c.new.ensures c.in_ok-write_act.ensures e)
    c.drop_act.ensures

pub write_par_block-returns : goal.write_par_block-returns
write_par_block-returns t c =
    on_ok_weaker c.close.result
    (λ e. par_is (block_of c.args.block.now) c.args.at (out-Block c.args.block.now).at c.args.unit.now c.open.new.unit c.write_block.new.unit c.close.new.unit c.in_ok-outer.outer c.in_ok-outer.ensures.unit c.in_ok-outer.ensures.outer c.in_ok-write_block.ensures (block_at c.args.block.now) e)
    c.close.ensures

pub write_form-returns-in-Block : goal.write_form-returns-in-Block
write_form-returns-in-Block t c = on_ok_weaker c.write_within.result (λ e. form_block c.args.form.now c.in-Block.block c.args.at c.args.unit.now c.write_within.new.unit c.in-Block.is e) c.write_within.ensures

pub write_form-returns-in-Empty : goal.write_form-returns-in-Empty
write_form-returns-in-Empty t c = form_empty c.args.form.now c.args.at c.args.unit.now c.in-Empty.is

pub write_form-returns-in-Line : goal.write_form-returns-in-Line
write_form-returns-in-Line t c = on_ok_weaker c.write_line.result (λ e. form_line c.args.form.now c.in-Line.line c.args.at c.args.unit.now c.write_line.new.unit c.in-Line.is e) c.write_line.ensures

pub write_form-returns-in-Switch : goal.write_form-returns-in-Switch
write_form-returns-in-Switch t c =
    on_ok_weaker c.write_switch.result (λ e. form_switch c.args.form.now c.in-Switch.value c.in-Switch.cases c.as_slice.result.now c.args.at c.args.unit.now c.write_switch.new.unit c.in-Switch.is c.as_slice.ensures e) c.write_switch.ensures

pub write_right-returns-in-Expr : goal.write_right-returns-in-Expr
write_right-returns-in-Expr t c = on_ok_weaker c.write_expr.result (λ e. right_expr_is c.args.right.now c.in-Expr.expr c.args.shape.now c.args.unit.now c.write_expr.new.function c.in-Expr.is e) c.write_expr.ensures.code

pub write_right-returns-in-Act : goal.write_right-returns-in-Act
write_right-returns-in-Act t c = on_ok_weaker c.write_act.result (λ e. right_act_is c.args.right.now c.in-Act.act c.args.shape.now c.args.unit.now c.write_act.new.unit c.in-Act.is e) c.write_act.ensures

pub write_line-returns-in-Assign : goal.write_line-returns-in-Assign
write_line-returns-in-Assign t c = on_ok_weaker c.write_taking.result (λ e. line_assign_is c.args.line.now c.in-Assign.place c.in-Assign.right c.args.at c.args.unit.now c.write_taking.new.unit c.in-Assign.is e) c.write_taking.ensures

pub write_line-returns-in-Update : goal.write_line-returns-in-Update
write_line-returns-in-Update t c =
    on_ok_weaker c.write_taking-in-Update.result
    (λ e. line_update_is c.args.line.now c.in-Update.place c.in-Update.op c.in-Update.right c.args.at c.args.unit.now c.write_taking-in-Update.new.unit c.change_number.result c.in-Update.is c.change_number.ensures e)
    c.write_taking-in-Update.ensures

pub write_line-returns-in-Declare-default-default-None : goal.write_line-returns-in-Declare-default-default-None
write_line-returns-in-Declare-default-default-None t c = on_ok_weaker c.write_plain.result (λ e. line_plain_is (line_of c.args.line.now) c.args.at c.args.unit.now c.write_plain.new.unit c.write_plain.ensures.plain e) c.write_plain.ensures.unit

pub write_act-returns-in-ParBlock : goal.write_act-returns-in-ParBlock
write_act-returns-in-ParBlock t c = on_ok_weaker c.write_par_block.result (λ e. act_par_is c.args.act.now c.in-ParBlock.block c.args.shape.now c.args.unit.now c.write_par_block.new.unit c.in-ParBlock.is e) c.write_par_block.ensures

pub write_act-returns-in-Sys : goal.write_act-returns-in-Sys
write_act-returns-in-Sys t c = on_ok_weaker c.write_plain_act.result (λ e. act_plain_is c.args.act.now c.args.shape.now c.args.unit.now c.write_plain_act.new.unit c.write_plain_act.ensures.plain e) c.write_plain_act.ensures.unit

pub write_stmts-loop-stmt-preserved : goal.write_stmts-loop-stmt-preserved
write_stmts-loop-stmt-preserved t c =
    stmts_next c.args.stmts.now c.loop-stmt.stmt-index c.stmt-item.result c.loop-stmt.unit c.write_stmt.new.unit _ (omega arith) c.stmt-item.is c.in_ok-write_stmt.ensures c.loop-stmt.invariant

pub write_stmts-returns : goal.write_stmts-returns
write_stmts-returns t c = stmts_none c.args.stmts.now c.loop-stmt.stmt-index c.loop-stmt.unit _ (omega arith) c.loop-stmt.invariant

pub write_cases-loop-i-preserved : goal.write_cases-loop-i-preserved
write_cases-loop-i-preserved t c =
    cases_next c.args.cases.now c.args.jumps.now c.loop-i.i c.index-cases-i.result c.loop-i.open c.jump_of-jump.new.other c.jump_of-jump.result c.loop-i.unit c.write_case.new.unit _ (omega arith) (omega (arith, c.requires)) c.index-cases-i.is c.jump_of-jump.ensures.jump c.jump_of-jump.ensures.other
    c.in_ok-write_case.ensures c.loop-i.invariant

pub write_cases-returns : goal.write_cases-returns
write_cases-returns t c = cases_none c.args.cases.now c.args.jumps.now c.loop-i.i c.loop-i.open c.loop-i.unit _ (omega arith) c.loop-i.invariant
