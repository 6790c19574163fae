use Rattle.std.proofs.Common.{◌≡◌, ◌+◌, ◌≤◌, drop}
use Rattle.bds_check_size.specs.StmtSize.{further_commands_size}
use Rattle.bds_gen_expr.specs.Scope.{types_in}
use Rattle.bds_gen_size.specs.Capped.{capped}
use Rattle.bds_gen_size.proofs.tasks.further_size.Given as goal

abbrev pub invariant-loop-command : goal.invariant-loop-command
invariant-loop-command l = record {
  most : l.sum ≤ 18446744073709551615;
  so_far : capped (l.sum + further_commands_size (types_in l.scope) (drop l.command-index l.commands)) ≡ capped (further_commands_size (types_in l.scope) l.commands);
}
