use Rattle.std.proofs.Common.{◌≡◌, ℕ, ◌+◌, ◌*◌, max, Option, Some, None}
use denote.Param.Weighed.{most}
use Rattle.bds_tree.specs.declared.stmt.Stmt.{Stmt}
use Rattle.bds_tree.specs.declared.stmt.RightSide.{RightSide}
use Rattle.bds_tree.proofs.stmt.Stmt.TheLaws.{the_size as stmt_size}
use Rattle.bds_tree.proofs.stmt.StmtForm.TheLaws.{the_size as form_size}
use Rattle.bds_tree.proofs.stmt.Block.TheLaws.{the_size as block_size}
use Rattle.bds_tree.proofs.stmt.Case.TheLaws.{the_size as case_size}
use Rattle.bds_tree.proofs.stmt.Line.TheLaws.{the_size as line_size}
use Rattle.bds_tree.proofs.stmt.RightSide.TheLaws.{the_size as right_size}
use Rattle.bds_tree.proofs.stmt.Act.TheLaws.{the_size as act_size}
use Rattle.bds_tree.proofs.stmt.ActForm.TheLaws.{the_size as act_form_size}
use Rattle.bds_check_stmts.proofs.Walked.{CasesWalking, StmtsWalking}
use Rattle.bds_check_names.specs.Scopes.{Extends}
use Rattle.bds_check_stmts.proofs.+statements.Given as goal

-- the depth of what may be missing
abbrev pub else_size : Option Stmt → ℕ
else_size None = 0
else_size (Some s) = stmt_size s

abbrev pub maybe_right_size : Option RightSide → ℕ
maybe_right_size None = 0
maybe_right_size (Some r) = right_size r

abbrev pub decreases-stmts::walk_stmt : goal.decreases-stmts::walk_stmt
decreases-stmts::walk_stmt l = 8 * stmt_size l.stmt.now + 0

abbrev pub decreases-stmts::walk_stmt_form : goal.decreases-stmts::walk_stmt_form
decreases-stmts::walk_stmt_form l = 8 * form_size l.form.now + 0

abbrev pub decreases-stmts::walk_inner : goal.decreases-stmts::walk_inner
decreases-stmts::walk_inner l = 8 * block_size l.block.now + 1

abbrev pub decreases-stmts::walk_if : goal.decreases-stmts::walk_if
decreases-stmts::walk_if l = 8 * (max (stmt_size l.then_part.now) (else_size l.else_part.now)) + 3

abbrev pub decreases-stmts::walk_else : goal.decreases-stmts::walk_else
decreases-stmts::walk_else l = 8 * else_size l.else_part.now + 2

abbrev pub decreases-stmts::walk_while : goal.decreases-stmts::walk_while
decreases-stmts::walk_while l = 8 * stmt_size l.body.now + 3

abbrev pub decreases-stmts::walk_body : goal.decreases-stmts::walk_body
decreases-stmts::walk_body l = 8 * stmt_size l.body.now + 2

abbrev pub decreases-stmts::walk_for : goal.decreases-stmts::walk_for
decreases-stmts::walk_for l = 8 * stmt_size l.body.now + 5

abbrev pub decreases-stmts::walk_head : goal.decreases-stmts::walk_head
decreases-stmts::walk_head l = 8 * stmt_size l.body.now + 4

abbrev pub decreases-stmts::walk_loop : goal.decreases-stmts::walk_loop
decreases-stmts::walk_loop l = 8 * stmt_size l.body.now + 3

abbrev pub decreases-stmts::walk_each : goal.decreases-stmts::walk_each
decreases-stmts::walk_each l = 8 * stmt_size l.body.now + 4

abbrev pub decreases-stmts::walk_each_body : goal.decreases-stmts::walk_each_body
decreases-stmts::walk_each_body l = 8 * stmt_size l.body.now + 3

abbrev pub decreases-stmts::walk_switch : goal.decreases-stmts::walk_switch
decreases-stmts::walk_switch l = 8 * most case_size l.cases.now + 2

abbrev pub decreases-stmts::walk_branch : goal.decreases-stmts::walk_branch
decreases-stmts::walk_branch l = 8 * stmt_size l.stmt.now + 1

abbrev pub decreases-stmts::walk_block : goal.decreases-stmts::walk_block
decreases-stmts::walk_block l = 8 * block_size l.block.now + 0

abbrev pub decreases-stmts::walk_within : goal.decreases-stmts::walk_within
decreases-stmts::walk_within l = 8 * most stmt_size l.stmts.now + 2

abbrev pub decreases-stmts::walk_stmts : goal.decreases-stmts::walk_stmts
decreases-stmts::walk_stmts l = 8 * most stmt_size l.stmts.now + 1

abbrev pub decreases-cases::walk_cases : goal.decreases-cases::walk_cases
decreases-cases::walk_cases l = 8 * most case_size l.cases.now + 1

abbrev pub decreases-cases::walk_case : goal.decreases-cases::walk_case
decreases-cases::walk_case l = 8 * case_size l.case.now + 0

abbrev pub decreases-lines::walk_line : goal.decreases-lines::walk_line
decreases-lines::walk_line l = 8 * line_size l.line.now + 0

abbrev pub decreases-lines::walk_declared : goal.decreases-lines::walk_declared
decreases-lines::walk_declared l = 8 * maybe_right_size l.right.now + 2

abbrev pub decreases-lines::walk_returned : goal.decreases-lines::walk_returned
decreases-lines::walk_returned l = 8 * maybe_right_size l.right.now + 2

abbrev pub decreases-lines::walk_assign : goal.decreases-lines::walk_assign
decreases-lines::walk_assign l = 8 * right_size l.right.now + 1

abbrev pub decreases-lines::walk_update : goal.decreases-lines::walk_update
decreases-lines::walk_update l = 8 * right_size l.right.now + 1

abbrev pub decreases-lines::walk_right : goal.decreases-lines::walk_right
decreases-lines::walk_right l = 8 * right_size l.right.now + 0

abbrev pub decreases-lines::walk_maybe_right : goal.decreases-lines::walk_maybe_right
decreases-lines::walk_maybe_right l = 8 * maybe_right_size l.right.now + 1

abbrev pub decreases-lines::walk_act : goal.decreases-lines::walk_act
decreases-lines::walk_act l = 8 * act_size l.act.now + 0

abbrev pub decreases-lines::walk_act_form : goal.decreases-lines::walk_act_form
decreases-lines::walk_act_form l = 8 * act_form_size l.form.now + 0

abbrev pub decreases-lines::walk_par : goal.decreases-lines::walk_par
decreases-lines::walk_par l = 8 * block_size l.block.now + 1

abbrev pub invariant-cases::walk_cases-loop-i : goal.invariant-cases::walk_cases-loop-i
invariant-cases::walk_cases-loop-i l = record {
  walking : CasesWalking l.fn.names l.site l.fn.cases l.i l.cases;
  same : l.names ≡ l.fn.names;
}

abbrev pub invariant-stmts::walk_stmts-loop-i : goal.invariant-stmts::walk_stmts-loop-i
invariant-stmts::walk_stmts-loop-i l = record {
  walking : StmtsWalking l.site l.fn.stmts l.fn.names l.i l.stmts l.names;
  extends : Extends l.fn.names l.names;
}
