use Rattle.std.proofs.Common.{◌≡◌, ◌∙◌, set, refl, arith, rules}
use Rattle.bds_tree.proofs.stmt.Case.TheLaws.{the_size as case_size}
use Rattle.bds_tree.proofs.stmt.Stmt.TheLaws.{the_size as stmt_size}
use Rattle.bds_tree.specs.StmtView.{stmt_of, stmts_of, case_of, cases_of}
use Rattle.bds_check_typing.specs.StmtWalk.{judge_stmt, judge_stmts, judge_case, judge_cases}
use Rattle.bds_check_walk.proofs.Turns.{broke-off}
use Rattle.bds_check_stmt_parts.proofs.Extending.{extends-same, extends-then}
use Rattle.bds_check_stmts.proofs.Walked.{stmts-none, stmts-more, stmts-depth, stmts-done, stmts-broken, stmts-kept}
use Rattle.bds_check_stmts.proofs.Walked.{stmts-set, cases-none, cases-more, cases-depth, cases-done, cases-broken}
use Rattle.bds_check_stmts.proofs.Walked.{cases-kept, cases-set}
use Rattle.bds_check_stmts.proofs.+statements.Goals as goal

pub cases::walk_cases-loop-i-init : goal.cases::walk_cases-loop-i-init
cases::walk_cases-loop-i-init t c =
    record { walking = cases-none c.args.names.now c.args.site.now c.args.cases.now; same = refl }

pub cases::walk_cases-at_mut-requires : goal.cases::walk_cases-at_mut-requires
cases::walk_cases-at_mut-requires t c = let same = c.loop-i.invariant.walking.as_long in omega arith

pub cases::walk_cases-walk_case-requires : goal.cases::walk_cases-walk_case-requires
cases::walk_cases-walk_case-requires t c = (
  omega (
    arith,
    cases-depth c.args.names.now c.args.site.now case_size c.args.cases.now c.loop-i.i c.loop-i.cases
        c.at_mut.result.now (omega arith) c.at_mut.ensures.value c.loop-i.invariant.walking,
    c.decreases,
  ),
  tt,
)

pub cases::walk_cases-loop-i-preserved : goal.cases::walk_cases-loop-i-preserved
cases::walk_cases-loop-i-preserved t c = record {
  walking = cases-more c.args.names.now c.loop-i.names c.args.site.now c.args.cases.now c.loop-i.i c.loop-i.cases
      c.at_mut.result.now c.walk_case.new.case c.loop-i.invariant.same (omega arith) c.at_mut.ensures.value
      c.in_ok-walk_case.ensures.fits c.walk_case.ensures.kept c.loop-i.invariant.walking;
  same = c.walk_case.ensures.same ∙ c.loop-i.invariant.same;
}

pub cases::walk_cases-returns-clause-fits : goal.cases::walk_cases-returns-clause-fits
cases::walk_cases-returns-clause-fits t c = cases-done c.args.names.now c.args.site.now c.args.cases.now c.loop-i.i
    c.loop-i.cases (omega arith) c.loop-i.invariant.walking

pub cases::walk_cases-returns-clause-kept : goal.cases::walk_cases-returns-clause-kept
cases::walk_cases-returns-clause-kept t c = cases-kept c.loop-i.cases c.args.cases.now c.loop-i.invariant.walking.kept

pub cases::walk_cases-returns-in_err-walk_case-clause-fits : goal.cases::walk_cases-returns-in_err-walk_case-clause-fits
cases::walk_cases-returns-in_err-walk_case-clause-fits t c =
    broke-off c.from_residual.result c.in_err-walk_case.field-0.0
    (λ _. case_of c.walk_case.new.case ≡ (judge_case (case_of c.at_mut.result.now) c.loop-i.names
    c.args.site.now).tree)
    (λ _. cases_of (set c.loop-i.cases c.loop-i.i c.walk_case.new.case) ≡
    (judge_cases (cases_of c.args.cases.now) c.args.names.now c.args.site.now).cases)
    (judge_case (case_of c.at_mut.result.now) c.loop-i.names c.args.site.now).broken
    (judge_cases (cases_of c.args.cases.now) c.args.names.now c.args.site.now).broken
    (search rules) c.in_err-walk_case.ensures.fits (cases-broken c.args.names.now c.loop-i.names c.args.site.now
    c.args.cases.now c.loop-i.i c.loop-i.cases c.at_mut.result.now c.loop-i.invariant.same (omega arith)
    c.at_mut.ensures.value c.loop-i.invariant.walking)

pub cases::walk_cases-returns-in_err-walk_case-clause-kept : goal.cases::walk_cases-returns-in_err-walk_case-clause-kept
cases::walk_cases-returns-in_err-walk_case-clause-kept t c =
    cases-set c.loop-i.cases c.loop-i.i c.at_mut.result.now c.walk_case.new.case c.at_mut.ensures.value
    c.walk_case.ensures.kept ∙ cases-kept c.loop-i.cases c.args.cases.now c.loop-i.invariant.walking.kept

pub stmts::walk_stmts-loop-i-init : goal.stmts::walk_stmts-loop-i-init
stmts::walk_stmts-loop-i-init t c = record {
  walking = stmts-none c.args.site.now c.args.stmts.now c.args.names.now;
  extends = extends-same c.args.names.now c.args.names.now refl;
}

pub stmts::walk_stmts-at_mut-requires : goal.stmts::walk_stmts-at_mut-requires
stmts::walk_stmts-at_mut-requires t c = let same = c.loop-i.invariant.walking.as_long in omega arith

pub stmts::walk_stmts-walk_stmt-requires : goal.stmts::walk_stmts-walk_stmt-requires
stmts::walk_stmts-walk_stmt-requires t c = (
  omega (
    arith,
    stmts-depth c.args.site.now stmt_size c.args.stmts.now c.args.names.now c.loop-i.i c.loop-i.stmts
        c.loop-i.names c.at_mut.result.now (omega arith) c.at_mut.ensures.value c.loop-i.invariant.walking,
    c.decreases,
  ),
  c.requires,
)

pub stmts::walk_stmts-loop-i-preserved : goal.stmts::walk_stmts-loop-i-preserved
stmts::walk_stmts-loop-i-preserved t c = record {
  walking = stmts-more c.args.site.now c.args.stmts.now c.args.names.now c.loop-i.i c.loop-i.stmts c.loop-i.names
      c.walk_stmt.new.names c.at_mut.result.now c.walk_stmt.new.stmt (omega arith) c.at_mut.ensures.value
      c.in_ok-walk_stmt.ensures.fits.0 c.in_ok-walk_stmt.ensures.fits.1.0 c.in_ok-walk_stmt.ensures.fits.1.1
      c.walk_stmt.ensures.kept c.loop-i.invariant.walking;
  extends = extends-then c.args.names.now c.loop-i.names c.walk_stmt.new.names c.loop-i.invariant.extends
      c.walk_stmt.ensures.extends;
}

pub stmts::walk_stmts-returns-clause-fits : goal.stmts::walk_stmts-returns-clause-fits
stmts::walk_stmts-returns-clause-fits t c = stmts-done c.args.site.now c.args.stmts.now c.args.names.now c.loop-i.i
    c.loop-i.stmts c.loop-i.names (omega arith) c.loop-i.invariant.walking

pub stmts::walk_stmts-returns-clause-kept : goal.stmts::walk_stmts-returns-clause-kept
stmts::walk_stmts-returns-clause-kept t c = stmts-kept c.loop-i.stmts c.args.stmts.now c.loop-i.invariant.walking.kept

pub stmts::walk_stmts-returns-in_err-walk_stmt-clause-fits : goal.stmts::walk_stmts-returns-in_err-walk_stmt-clause-fits
stmts::walk_stmts-returns-in_err-walk_stmt-clause-fits t c =
    broke-off c.from_residual.result c.in_err-walk_stmt.field-0.0
    (λ _. (stmt_of c.walk_stmt.new.stmt ≡ (judge_stmt (stmt_of c.at_mut.result.now) c.loop-i.names
    c.args.site.now).stmt)
    × (c.walk_stmt.new.names ≡ (judge_stmt (stmt_of c.at_mut.result.now) c.loop-i.names c.args.site.now).names))
    (λ _. (stmts_of (set c.loop-i.stmts c.loop-i.i c.walk_stmt.new.stmt) ≡
    (judge_stmts (stmts_of c.args.stmts.now) c.args.names.now c.args.site.now).stmts)
    × (c.walk_stmt.new.names ≡ (judge_stmts (stmts_of c.args.stmts.now) c.args.names.now
    c.args.site.now).names))
    (judge_stmt (stmt_of c.at_mut.result.now) c.loop-i.names c.args.site.now).broken
    (judge_stmts (stmts_of c.args.stmts.now) c.args.names.now c.args.site.now).broken
    (search rules) c.in_err-walk_stmt.ensures.fits (stmts-broken c.args.site.now c.args.stmts.now c.args.names.now
    c.loop-i.i c.loop-i.stmts c.loop-i.names c.at_mut.result.now (omega arith) c.at_mut.ensures.value
    c.loop-i.invariant.walking)

pub stmts::walk_stmts-returns-in_err-walk_stmt-clause-kept : goal.stmts::walk_stmts-returns-in_err-walk_stmt-clause-kept
stmts::walk_stmts-returns-in_err-walk_stmt-clause-kept t c =
    stmts-set c.loop-i.stmts c.loop-i.i c.at_mut.result.now c.walk_stmt.new.stmt c.at_mut.ensures.value
    c.walk_stmt.ensures.kept ∙ stmts-kept c.loop-i.stmts c.args.stmts.now c.loop-i.invariant.walking.kept

pub stmts::walk_stmts-returns-in_err-walk_stmt-clause-extends
    : goal.stmts::walk_stmts-returns-in_err-walk_stmt-clause-extends
stmts::walk_stmts-returns-in_err-walk_stmt-clause-extends t c = extends-then c.args.names.now c.loop-i.names
    c.walk_stmt.new.names c.loop-i.invariant.extends c.walk_stmt.ensures.extends
