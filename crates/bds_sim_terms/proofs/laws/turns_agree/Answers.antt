use Rattle.bds_sim_terms.proofs.steps.Turned.{turns_agree}
use Rattle.bds_sim_terms.proofs.laws.turns_agree.Goals as goal

pub returns : goal.returns
returns c = λ o u. turns_agree o u
