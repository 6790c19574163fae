use Rattle.std.proofs.Common.{arith}
use Rattle.bds_gen_expr.specs.Marks.{written}
use Rattle.bds_gen_stmt.specs.TaskCode.{further_commands}
use Rattle.bds_gen_stmt_code.proofs.Writing.{further_next}
use Rattle.bds_gen_stmt_code.proofs.tasks.write_rest.Goals as goal

pub loop-command-preserved : goal.loop-command-preserved
loop-command-preserved c =
    further_next c.args.commands.now c.loop-command.command-index c.command-item.result c.args.scope.now c.args.at c.loop-command.function c.write_further.new.function
    (written c.args.function.now (further_commands c.args.commands.now c.args.scope.now c.args.at)) (omega arith) c.command-item.is c.in_ok-write_further.ensures c.loop-command.invariant
