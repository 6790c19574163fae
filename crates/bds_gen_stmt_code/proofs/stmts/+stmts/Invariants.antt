use Rattle.std.proofs.Common.{◌≡◌, ◌+◌, ◌*◌, max, drop, Some}
use denote.Param.Weighed.{most}
use Rattle.bds_tree.proofs.stmt.Stmt.TheLaws.{the_size as stmt_size}
use Rattle.bds_tree.proofs.stmt.StmtForm.TheLaws.{the_size as form_size}
use Rattle.bds_tree.proofs.stmt.Block.TheLaws.{the_size as block_size}
use Rattle.bds_tree.proofs.stmt.Case.TheLaws.{the_size as case_size}
use Rattle.bds_tree.proofs.stmt.Line.TheLaws.{the_size as line_size}
use Rattle.bds_tree.proofs.stmt.RightSide.TheLaws.{the_size as right_size}
use Rattle.bds_tree.proofs.stmt.Act.TheLaws.{the_size as act_size}
use Rattle.bds_tree.specs.StmtView.{stmts_of, cases_of}
use Rattle.bds_gen_stmt_code.specs.GenStmts.{gen_stmts, gen_cases}
use Rattle.bds_gen_stmt_code.proofs.stmts.+stmts.Given as goal

abbrev pub decreases-write_stmt : goal.decreases-write_stmt
decreases-write_stmt l = 8 * stmt_size l.stmt.now + 0

abbrev pub decreases-write_form : goal.decreases-write_form
decreases-write_form l = 8 * form_size l.form.now + 0

abbrev pub decreases-write_inner : goal.decreases-write_inner
decreases-write_inner l = 8 * stmt_size l.stmt.now + 1

abbrev pub decreases-write_within : goal.decreases-write_within
decreases-write_within l = 8 * block_size l.block.now + 1

abbrev pub decreases-write_block : goal.decreases-write_block
decreases-write_block l = 8 * block_size l.block.now + 0

abbrev pub decreases-write_stmts : goal.decreases-write_stmts
decreases-write_stmts l = 8 * most stmt_size l.stmts.now + 1

abbrev pub decreases-write_if : goal.decreases-write_if
decreases-write_if l = 8 * stmt_size l.way.now + 2

abbrev pub decreases-write_if_else : goal.decreases-write_if_else
decreases-write_if_else l = 8 * max (stmt_size l.way.now) (stmt_size l.other.now) + 2

abbrev pub decreases-write_while : goal.decreases-write_while
decreases-write_while l = 8 * stmt_size l.inner.now + 3

abbrev pub decreases-write_for : goal.decreases-write_for
decreases-write_for l = 8 * stmt_size l.inner.now + 3

abbrev pub decreases-write_each : goal.decreases-write_each
decreases-write_each l = 8 * stmt_size l.inner.now + 3

abbrev pub decreases-write_switch : goal.decreases-write_switch
decreases-write_switch l = 8 * most case_size l.cases.now + 3

abbrev pub decreases-write_cases : goal.decreases-write_cases
decreases-write_cases l = 8 * most case_size l.cases.now + 2

abbrev pub decreases-write_case : goal.decreases-write_case
decreases-write_case l = 8 * case_size l.case.now + 1

abbrev pub decreases-write_right : goal.decreases-write_right
decreases-write_right l = 8 * right_size l.right.now + 0

abbrev pub decreases-write_taking : goal.decreases-write_taking
decreases-write_taking l = 8 * right_size l.right.now + 1

abbrev pub decreases-write_declared : goal.decreases-write_declared
decreases-write_declared l = 8 * right_size l.right.now + 1

abbrev pub decreases-write_inferred : goal.decreases-write_inferred
decreases-write_inferred l = 8 * right_size l.right.now + 1

abbrev pub decreases-write_returned : goal.decreases-write_returned
decreases-write_returned l = 8 * right_size l.right.now + 1

abbrev pub decreases-write_alone : goal.decreases-write_alone
decreases-write_alone l = 8 * act_size l.act.now + 1

abbrev pub decreases-write_line : goal.decreases-write_line
decreases-write_line l = 8 * line_size l.line.now + 0

abbrev pub decreases-write_act : goal.decreases-write_act
decreases-write_act l = 8 * act_size l.act.now + 0

abbrev pub decreases-write_par_block : goal.decreases-write_par_block
decreases-write_par_block l = 8 * block_size l.block.now + 1

abbrev pub invariant-write_stmts-loop-stmt : goal.invariant-write_stmts-loop-stmt
invariant-write_stmts-loop-stmt l = gen_stmts (stmts_of (drop l.stmt-index l.stmts)) l.unit ≡ gen_stmts (stmts_of l.stmts) l.fn.unit

abbrev pub invariant-write_cases-loop-i : goal.invariant-write_cases-loop-i
invariant-write_cases-loop-i l = gen_cases (cases_of (drop l.i l.cases)) (drop l.i l.jumps) l.open l.unit ≡ gen_cases (cases_of l.cases) l.jumps (Some l.other) l.fn.unit
