use Rattle.std.proofs.Common.{◌++◌, map, arith}
use Rattle.bds_source_acts.specs.Commands.{further_parts}
use Rattle.bds_source_terms.specs.View.{term_of}
use Rattle.bds_source_acts.proofs.CommandLists.{command_put}
use Rattle.bds_source_acts.proofs.commands.put_further.Goals as goal

pub loop-command-preserved : goal.loop-command-preserved
loop-command-preserved c =
    let names = c.args.names.now in
    let commands = c.args.commands.now in
    command_put names (map term_of c.loop-command.parts) (map term_of c.put_command.new.parts) (map term_of c.args.parts.now ++ further_parts names commands) commands c.loop-command.command-index c.command-item.result
    (omega arith) c.command-item.is c.in_ok-put_command.ensures c.loop-command.invariant
