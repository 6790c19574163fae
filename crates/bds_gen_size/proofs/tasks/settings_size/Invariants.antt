use Rattle.std.proofs.Common.{◌≡◌, ◌+◌, ◌≤◌, drop}
use Rattle.bds_tree.specs.StmtView.{settings_of}
use Rattle.bds_check_size.specs.StmtSize.{settings_size}
use Rattle.bds_gen_expr.specs.Scope.{types_in}
use Rattle.bds_gen_size.specs.Capped.{capped}
use Rattle.bds_gen_size.proofs.tasks.settings_size.Given as goal

abbrev pub invariant-loop-setting : goal.invariant-loop-setting
invariant-loop-setting l = record {
  most : l.sum ≤ 18446744073709551615;
  so_far : capped (l.sum + settings_size (types_in l.scope) l.of_dep (settings_of (drop l.setting-index l.settings))) ≡ capped (settings_size (types_in l.scope) l.of_dep (settings_of l.settings));
}
