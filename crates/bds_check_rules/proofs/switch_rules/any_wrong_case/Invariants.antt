use Rattle.std.proofs.Common.{◌≡◌, drop}
use Rattle.bds_tree.specs.StmtView.{cases_of}
use Rattle.bds_check_rules.specs.StmtBreaks.{any_wrong_case}
use Rattle.bds_check_rules.proofs.switch_rules.any_wrong_case.Given as goal

abbrev pub invariant-loop-case : goal.invariant-loop-case
invariant-loop-case l = any_wrong_case l.ty (cases_of (drop l.case-index l.cases)) ≡ any_wrong_case l.ty (cases_of l.cases)
