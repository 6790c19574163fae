use Rattle.std.proofs.Common.{◌≡◌, drop, if◌then◌else◌}
use Rattle.bds_tree.specs.StmtView.{cases_of}
use Rattle.bds_check_rules.specs.StmtBreaks.{any_default, are_two_defaults}
use Rattle.bds_check_rules.proofs.switch_rules.are_two_defaults.Given as goal

-- behind a `default` another one is wanted, and before it two
abbrev pub invariant-loop-case : goal.invariant-loop-case
invariant-loop-case l =
    (if l.has_default then any_default (cases_of (drop l.case-index l.cases)) else are_two_defaults (cases_of (drop l.case-index l.cases))) ≡ are_two_defaults (cases_of l.cases)
