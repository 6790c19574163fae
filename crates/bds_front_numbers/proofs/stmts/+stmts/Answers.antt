use Rattle.std.proofs.Common.{ap, ◌∙◌, arith}
use Rattle.bds_tree.specs.StmtTree.{to_stmts, to_cases}
use Rattle.bds_tree.specs.StmtView.{stmt_of, case_of}
use Rattle.bds_tree.proofs.stmt.Case.TheLaws.{the_size as case_size}
use Rattle.bds_tree.proofs.stmt.Stmt.TheLaws.{the_size as stmt_size}
use Rattle.bds_front_numbers.proofs.InPlace.{wanted_stmt, halfway-none, halfway-more, halfway-all, next_depth, stmts_wanted, wanted_case, cases_wanted}
use Rattle.bds_front_numbers.proofs.stmts.+stmts.Goals as goal

pub number_stmts-loop-i-init : goal.number_stmts-loop-i-init
number_stmts-loop-i-init t c = halfway-none stmt_of (wanted_stmt c.args.file) c.args.stmts.now

pub number_stmts-at_mut-requires : goal.number_stmts-at_mut-requires
number_stmts-at_mut-requires t c = let same = c.loop-i.invariant.as_long in omega arith

pub number_stmts-number_stmt-requires : goal.number_stmts-number_stmt-requires
number_stmts-number_stmt-requires t c =
    (omega (arith, next_depth stmt_of (wanted_stmt c.args.file) stmt_size c.args.stmts.now c.loop-i.stmts c.loop-i.i c.at_mut.result.now c.at_mut.ensures.value c.loop-i.invariant, c.decreases), tt)

pub number_stmts-loop-i-preserved : goal.number_stmts-loop-i-preserved
number_stmts-loop-i-preserved t c = halfway-more stmt_of (wanted_stmt c.args.file) c.args.stmts.now c.loop-i.stmts c.loop-i.i c.at_mut.result.now c.number_stmt.new.stmt c.at_mut.ensures.value c.number_stmt.ensures c.loop-i.invariant

pub number_stmts-returns : goal.number_stmts-returns
number_stmts-returns t c =
    ap to_stmts (halfway-all stmt_of (wanted_stmt c.args.file) c.args.stmts.now c.loop-i.stmts c.loop-i.i (omega arith) c.loop-i.invariant)
    ∙ stmts_wanted c.args.file c.args.stmts.now

pub number_cases-loop-i-init : goal.number_cases-loop-i-init
number_cases-loop-i-init t c = halfway-none case_of (wanted_case c.args.file) c.args.cases.now

pub number_cases-at_mut-requires : goal.number_cases-at_mut-requires
number_cases-at_mut-requires t c = let same = c.loop-i.invariant.as_long in omega arith

pub number_cases-number_case-requires : goal.number_cases-number_case-requires
number_cases-number_case-requires t c =
    (omega (arith, next_depth case_of (wanted_case c.args.file) case_size c.args.cases.now c.loop-i.cases c.loop-i.i c.at_mut.result.now c.at_mut.ensures.value c.loop-i.invariant, c.decreases), tt)

pub number_cases-loop-i-preserved : goal.number_cases-loop-i-preserved
number_cases-loop-i-preserved t c = halfway-more case_of (wanted_case c.args.file) c.args.cases.now c.loop-i.cases c.loop-i.i c.at_mut.result.now c.number_case.new.case c.at_mut.ensures.value c.number_case.ensures c.loop-i.invariant

pub number_cases-returns : goal.number_cases-returns
number_cases-returns t c =
    ap to_cases (halfway-all case_of (wanted_case c.args.file) c.args.cases.now c.loop-i.cases c.loop-i.i (omega arith) c.loop-i.invariant)
    ∙ cases_wanted c.args.file c.args.cases.now
