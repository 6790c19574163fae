use Rattle.std.proofs.Common.{◌≡◌, drop}
use Rattle.bds_tree.specs.StmtView.{stmts_of, cases_of}
use Rattle.bds_spell.specs.StmtFits.{stmts_fit, cases_fit}
use Rattle.bds_spell.proofs.fit_stmt.+fits.Given as goal

abbrev pub invariant-stmts_fit-loop-stmt : goal.invariant-stmts_fit-loop-stmt
invariant-stmts_fit-loop-stmt l = stmts_fit (stmts_of l.stmts) l.most ≡ stmts_fit (stmts_of (drop l.stmt-index l.stmts)) l.most

abbrev pub invariant-cases_fit-loop-case : goal.invariant-cases_fit-loop-case
invariant-cases_fit-loop-case l = cases_fit (cases_of l.cases) l.most ≡ cases_fit (cases_of (drop l.case-index l.cases)) l.most
