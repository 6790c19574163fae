use Rattle.std.proofs.Common.{◌≡◌, drop}
use Rattle.bds_tree.specs.StmtView.{settings_of}
use Rattle.bds_gen_stmt_code.specs.GenTasks.{gen_settings}
use Rattle.bds_gen_stmt_code.proofs.options.write_settings.Given as goal

abbrev pub invariant-loop-setting : goal.invariant-loop-setting
invariant-loop-setting l = record {
  code : gen_settings l.of_dep (settings_of (drop l.setting-index l.settings)) l.scope l.first l.shape l.function ≡ gen_settings l.of_dep (settings_of l.settings) l.scope l.first l.fn.shape l.fn.function;
  shape : l.shape ≡ l.fn.shape;
}
