use Rattle.std.proofs.Common.{◌≡◌, drop}
use Rattle.bds_gen_expr.specs.Marks.{written}
use Rattle.bds_gen_stmt.specs.TaskCode.{further_commands}
use Rattle.bds_gen_stmt_code.proofs.tasks.write_rest.Given as goal

abbrev pub invariant-loop-command : goal.invariant-loop-command
invariant-loop-command l = written l.function (further_commands (drop l.command-index l.commands) l.scope l.at) ≡ written l.fn.function (further_commands l.commands l.scope l.at)
