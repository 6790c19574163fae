use Rattle.std.proofs.Common.{◌≡◌, ◌+◌, ◌*◌, ◌++◌, max, drop, map}
use denote.Param.Weighed.{most}
use Rattle.bds_tree.proofs.stmt.Stmt.TheLaws.{the_size as stmt_size}
use Rattle.bds_tree.proofs.stmt.StmtForm.TheLaws.{the_size as form_size}
use Rattle.bds_tree.proofs.stmt.Block.TheLaws.{the_size as block_size}
use Rattle.bds_tree.proofs.stmt.Case.TheLaws.{the_size as case_size}
use Rattle.bds_tree.proofs.stmt.Line.TheLaws.{the_size as line_size}
use Rattle.bds_tree.proofs.stmt.RightSide.TheLaws.{the_size as right_size}
use Rattle.bds_tree.proofs.stmt.Act.TheLaws.{the_size as act_size}
use Rattle.bds_tree.specs.StmtView.{stmts_of, cases_of}
use Rattle.bds_check_names.specs.Scopes.{Extends}
use Rattle.bds_check_typing.specs.GivenValues.{set_by}
use Rattle.bds_source.specs.Opened.{opened_stmts, opened_cases}
use Rattle.bds_source_terms.specs.View.{term_of, branch_of}
use Rattle.bds_source.proofs.+stmts.Given as goal

abbrev pub decreases-statements::stmt_term : goal.decreases-statements::stmt_term
decreases-statements::stmt_term l = 8 * stmt_size l.stmt.now + 0

abbrev pub decreases-statements::form_term : goal.decreases-statements::form_term
decreases-statements::form_term l = 8 * form_size l.form.now + 0

abbrev pub decreases-statements::within : goal.decreases-statements::within
decreases-statements::within l = 8 * block_size l.inner_block.now + 1

abbrev pub decreases-statements::part_term : goal.decreases-statements::part_term
decreases-statements::part_term l = 8 * stmt_size l.stmt.now + 1

abbrev pub decreases-statements::if_term : goal.decreases-statements::if_term
decreases-statements::if_term l = 8 * stmt_size l.way.now + 2

abbrev pub decreases-statements::two_parts : goal.decreases-statements::two_parts
decreases-statements::two_parts l = 8 * max (stmt_size l.way.now) (stmt_size l.other.now) + 2

abbrev pub decreases-loops::turn_parts : goal.decreases-loops::turn_parts
decreases-loops::turn_parts l = 8 * stmt_size l.body.now + 2

abbrev pub decreases-statements::if_else_term : goal.decreases-statements::if_else_term
decreases-statements::if_else_term l = 8 * max (stmt_size l.way.now) (stmt_size l.other.now) + 3

abbrev pub decreases-statements::while_term : goal.decreases-statements::while_term
decreases-statements::while_term l = 8 * stmt_size l.body.now + 2

abbrev pub decreases-loops::turns_term : goal.decreases-loops::turns_term
decreases-loops::turns_term l = 8 * stmt_size l.body.now + 3

abbrev pub decreases-loops::turns_behind : goal.decreases-loops::turns_behind
decreases-loops::turns_behind l = 8 * stmt_size l.body.now + 4

abbrev pub decreases-loops::turns_within : goal.decreases-loops::turns_within
decreases-loops::turns_within l = 8 * stmt_size l.body.now + 5

abbrev pub decreases-loops::for_term : goal.decreases-loops::for_term
decreases-loops::for_term l = 8 * stmt_size l.body.now + 6

abbrev pub decreases-loops::body_behind : goal.decreases-loops::body_behind
decreases-loops::body_behind l = 8 * stmt_size l.body.now + 2

abbrev pub decreases-loops::body_within : goal.decreases-loops::body_within
decreases-loops::body_within l = 8 * stmt_size l.body.now + 3

abbrev pub decreases-loops::each_term : goal.decreases-loops::each_term
decreases-loops::each_term l = 8 * stmt_size l.body.now + 4

abbrev pub decreases-rights::line_term : goal.decreases-rights::line_term
decreases-rights::line_term l = 8 * line_size l.line.now + 0

abbrev pub decreases-rights::declared : goal.decreases-rights::declared
decreases-rights::declared l = 8 * right_size l.right.now + 1

abbrev pub decreases-rights::taken : goal.decreases-rights::taken
decreases-rights::taken l = 8 * right_size l.right.now + 1

abbrev pub decreases-rights::returned_right : goal.decreases-rights::returned_right
decreases-rights::returned_right l = 8 * right_size l.right.now + 1

abbrev pub decreases-rights::right_term : goal.decreases-rights::right_term
decreases-rights::right_term l = 8 * right_size l.right.now + 0

abbrev pub decreases-rights::act_term : goal.decreases-rights::act_term
decreases-rights::act_term l = 8 * act_size l.act.now + 0

abbrev pub decreases-rights::par_term : goal.decreases-rights::par_term
decreases-rights::par_term l = 8 * block_size l.inner_block.now + 1

abbrev pub decreases-blocks::put_stmt : goal.decreases-blocks::put_stmt
decreases-blocks::put_stmt l = 8 * stmt_size l.stmt.now + 1

abbrev pub decreases-blocks::put_stmts : goal.decreases-blocks::put_stmts
decreases-blocks::put_stmts l = 8 * most stmt_size l.stmts.now + 2

abbrev pub decreases-blocks::sequence_term : goal.decreases-blocks::sequence_term
decreases-blocks::sequence_term l = 8 * most stmt_size l.stmts.now + 3

abbrev pub decreases-switches::case_body : goal.decreases-switches::case_body
decreases-switches::case_body l = 8 * most stmt_size l.stmts.now + 4

abbrev pub decreases-switches::put_case : goal.decreases-switches::put_case
decreases-switches::put_case l = 8 * case_size l.case.now + 0

abbrev pub decreases-switches::put_cases : goal.decreases-switches::put_cases
decreases-switches::put_cases l = 8 * most case_size l.cases.now + 1

abbrev pub decreases-switches::branches_of : goal.decreases-switches::branches_of
decreases-switches::branches_of l = 8 * most case_size l.cases.now + 2

abbrev pub decreases-switches::switch_term : goal.decreases-switches::switch_term
decreases-switches::switch_term l = 8 * most case_size l.cases.now + 3

abbrev pub decreases-blocks::block_term : goal.decreases-blocks::block_term
decreases-blocks::block_term l = 8 * block_size l.block.now + 0

abbrev pub invariant-blocks::put_stmts-loop-stmt : goal.invariant-blocks::put_stmts-loop-stmt
invariant-blocks::put_stmts-loop-stmt l = record {
  terms : map term_of l.terms ++ opened_stmts (set_by l.settings) l.names l.site (stmts_of (drop l.stmt-index l.stmts)) ≡ map term_of l.fn.terms ++ opened_stmts (set_by l.settings) l.fn.names l.site (stmts_of l.stmts);
  extends : Extends l.fn.names l.names;
}

abbrev pub invariant-switches::put_cases-loop-case : goal.invariant-switches::put_cases-loop-case
invariant-switches::put_cases-loop-case l = record {
  branches : map branch_of l.branches ++ opened_cases (set_by l.settings) l.fn.names l.site (cases_of (drop l.case-index l.cases)) ≡ map branch_of l.fn.branches ++ opened_cases (set_by l.settings) l.fn.names l.site (cases_of l.cases);
  same : l.names ≡ l.fn.names;
}
