use Rattle.std.proofs.Common.{◌≡◌, drop}
use Rattle.bds_tree.specs.StmtView.{settings_of}
use Rattle.bds_check_size.specs.StmtSize.{has_condition}
use Rattle.bds_check_size.proofs.task_options.has_condition.Given as goal

abbrev pub invariant-loop-setting : goal.invariant-loop-setting
invariant-loop-setting l = has_condition (settings_of (drop l.setting-index l.settings)) ≡ has_condition (settings_of l.settings)
