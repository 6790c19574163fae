use Rattle.std.proofs.Common.{◌≡◌, ◌++◌, drop}
use Rattle.bds_tree.specs.StmtView.{stmts_of, cases_of}
use Rattle.bds_tree.specs.Words.{words}
use Rattle.bds_spell.specs.StmtWords.{stmts_words, cases_words}
use Rattle.bds_spell.proofs.spell_stmt.+statements.Given as goal

abbrev pub invariant-put_stmts-loop-stmt : goal.invariant-put_stmts-loop-stmt
invariant-put_stmts-loop-stmt l = words l.out ++ stmts_words (stmts_of (drop l.stmt-index l.stmts)) ≡ words l.fn.out ++ stmts_words (stmts_of l.stmts)

abbrev pub invariant-put_cases-loop-case : goal.invariant-put_cases-loop-case
invariant-put_cases-loop-case l = words l.out ++ cases_words (cases_of (drop l.case-index l.cases)) ≡ words l.fn.out ++ cases_words (cases_of l.cases)
