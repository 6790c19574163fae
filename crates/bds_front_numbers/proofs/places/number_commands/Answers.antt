use Rattle.std.proofs.Common.{sym, ◌∙◌, arith}
use Rattle.std.proofs.lemmas.List.{map-id}
use Rattle.bds_tree.specs.declared.stmt.Command.{Command}
use Rattle.bds_front_numbers.specs.InFile.{command_in}
use Rattle.bds_front_numbers.proofs.InPlace.{halfway-none, halfway-more, halfway-all}
use Rattle.bds_front_numbers.proofs.places.number_commands.Goals as goal

pub loop-i-init : goal.loop-i-init
loop-i-init c = halfway-none (λ (d : Command). d) (command_in c.args.file) c.args.commands.now

pub at_mut-requires : goal.at_mut-requires
at_mut-requires c = let same = c.loop-i.invariant.as_long in omega arith

pub loop-i-preserved : goal.loop-i-preserved
loop-i-preserved c = halfway-more (λ (d : Command). d) (command_in c.args.file) c.args.commands.now c.loop-i.commands c.loop-i.i c.at_mut.result.now c.number_command.new.command c.at_mut.ensures.value c.number_command.ensures c.loop-i.invariant

pub returns : goal.returns
returns c = sym (map-id c.loop-i.commands) ∙ halfway-all (λ (d : Command). d) (command_in c.args.file) c.args.commands.now c.loop-i.commands c.loop-i.i (omega arith) c.loop-i.invariant
