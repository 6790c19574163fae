use Rattle.std.proofs.Common.{◌≡◌, drop}
use Rattle.bds_tree.specs.StmtView.{settings_of}
use Rattle.bds_check_size.specs.StmtSize.{has_option}
use Rattle.bds_check_size.proofs.task_options.has_option.Given as goal

abbrev pub invariant-loop-setting : goal.invariant-loop-setting
invariant-loop-setting l = has_option l.name (settings_of (drop l.setting-index l.settings)) ≡ has_option l.name (settings_of l.settings)
