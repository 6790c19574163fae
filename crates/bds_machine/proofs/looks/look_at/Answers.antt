use Rattle.std.proofs.Common.{subst}
use Rattle.bds_machine.specs.Looks.{IsAhead}
use Rattle.bds_machine.proofs.looks.look_at.Goals as goal

pub look_far-requires-clause-few : goal.look_far-requires-clause-few
look_far-requires-clause-few c = (subst (λ l. IsAhead l c.args.function.now c.args.instr.now c.args.at) c.in-Far.is c.requires.ahead).3
