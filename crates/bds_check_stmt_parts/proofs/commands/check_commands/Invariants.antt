use Rattle.std.proofs.Common.{◌≡◌, drop}
use Rattle.bds_check_typing.specs.StmtParts.{commands_broken}
use Rattle.bds_check_stmt_parts.proofs.commands.check_commands.Given as goal

abbrev pub invariant-loop-command : goal.invariant-loop-command
invariant-loop-command l = commands_broken (drop l.command-index l.commands) l.names ≡ commands_broken l.commands l.names
