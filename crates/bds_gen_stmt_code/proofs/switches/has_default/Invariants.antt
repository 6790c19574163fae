use Rattle.std.proofs.Common.{◌≡◌, drop}
use Rattle.bds_tree.specs.StmtView.{cases_of}
use Rattle.bds_check_rules.specs.StmtBreaks.{any_default}
use Rattle.bds_gen_stmt_code.proofs.switches.has_default.Given as goal

abbrev pub invariant-loop-case : goal.invariant-loop-case
invariant-loop-case l = any_default (cases_of (drop l.case-index l.cases)) ≡ any_default (cases_of l.cases)
