use Rattle.std.proofs.Common.{ℕ, ◌+◌, ◌*◌, Option, Some, None}
use denote.Param.Weighed.{most}
use Rattle.bds_tree.specs.declared.stmt.Stmt.{Stmt}
use Rattle.bds_tree.specs.declared.stmt.RightSide.{RightSide}
use Rattle.bds_tree.proofs.stmt.Stmt.TheLaws.{the_size as stmt_size}
use Rattle.bds_tree.proofs.stmt.StmtForm.TheLaws.{the_size as form_size}
use Rattle.bds_tree.proofs.stmt.Block.TheLaws.{the_size as block_size}
use Rattle.bds_tree.proofs.stmt.Case.TheLaws.{the_size as case_size}
use Rattle.bds_tree.proofs.stmt.Line.TheLaws.{the_size as line_size}
use Rattle.bds_tree.proofs.stmt.RightSide.TheLaws.{the_size as right_size}
use Rattle.bds_tree.proofs.stmt.Act.TheLaws.{the_size as act_size}
use Rattle.bds_tree.proofs.stmt.ActForm.TheLaws.{the_size as act_form_size}
use Rattle.bds_tree.specs.StmtView.{stmt_of, case_of}
use Rattle.bds_front_numbers.proofs.InPlace.{Halfway, wanted_stmt, wanted_case}
use Rattle.bds_front_numbers.proofs.stmts.+stmts.Given as goal

-- the depth of what may be missing
abbrev pub else_size : Option Stmt → ℕ
else_size None = 0
else_size (Some s) = stmt_size s

abbrev pub maybe_right_size : Option RightSide → ℕ
maybe_right_size None = 0
maybe_right_size (Some r) = right_size r

abbrev pub decreases-number_stmt : goal.decreases-number_stmt
decreases-number_stmt l = 4 * stmt_size l.stmt.now + 0

abbrev pub decreases-number_stmt_form : goal.decreases-number_stmt_form
decreases-number_stmt_form l = 4 * form_size l.form.now + 0

abbrev pub decreases-number_boxed : goal.decreases-number_boxed
decreases-number_boxed l = 4 * stmt_size l.stmt.now + 1

abbrev pub decreases-number_else : goal.decreases-number_else
decreases-number_else l = 4 * else_size l.else_part.now + 2

abbrev pub decreases-number_line : goal.decreases-number_line
decreases-number_line l = 4 * line_size l.line.now + 0

abbrev pub decreases-number_right : goal.decreases-number_right
decreases-number_right l = 4 * right_size l.right.now + 0

abbrev pub decreases-number_maybe_right : goal.decreases-number_maybe_right
decreases-number_maybe_right l = 4 * maybe_right_size l.right.now + 1

abbrev pub decreases-number_act : goal.decreases-number_act
decreases-number_act l = 4 * act_size l.act.now + 0

abbrev pub decreases-number_act_form : goal.decreases-number_act_form
decreases-number_act_form l = 4 * act_form_size l.form.now + 0

abbrev pub decreases-number_block : goal.decreases-number_block
decreases-number_block l = 4 * block_size l.block.now + 0

abbrev pub decreases-number_stmts : goal.decreases-number_stmts
decreases-number_stmts l = 4 * most stmt_size l.stmts.now + 1

abbrev pub decreases-number_case : goal.decreases-number_case
decreases-number_case l = 4 * case_size l.case.now + 0

abbrev pub decreases-number_cases : goal.decreases-number_cases
decreases-number_cases l = 4 * most case_size l.cases.now + 1

abbrev pub invariant-number_cases-loop-i : goal.invariant-number_cases-loop-i
invariant-number_cases-loop-i l = Halfway case_of (wanted_case l.file) l.fn.cases l.i l.cases

abbrev pub invariant-number_stmts-loop-i : goal.invariant-number_stmts-loop-i
invariant-number_stmts-loop-i l = Halfway stmt_of (wanted_stmt l.file) l.fn.stmts l.i l.stmts
