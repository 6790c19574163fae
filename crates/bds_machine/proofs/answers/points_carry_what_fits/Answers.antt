use Rattle.bds_machine.proofs.Carried.{left-carries}
use Rattle.bds_machine.proofs.answers.points_carry_what_fits.Goals as goal

pub returns : goal.returns
returns c = left-carries
