use Rattle.bds_tree.specs.declared.stmt.Command.{Command}
use Rattle.bds_front_numbers.specs.InFile.{command_in}
use Rattle.bds_front_numbers.proofs.InPlace.{Halfway}
use Rattle.bds_front_numbers.proofs.places.number_commands.Given as goal

abbrev pub invariant-loop-i : goal.invariant-loop-i
invariant-loop-i l = Halfway (λ (c : Command). c) (command_in l.file) l.fn.commands l.i l.commands
