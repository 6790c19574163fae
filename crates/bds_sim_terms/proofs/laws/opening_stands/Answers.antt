use Rattle.bds_sim_terms.proofs.Concluding.{opening_stands}
use Rattle.bds_sim_terms.proofs.laws.opening_stands.Goals as goal

pub returns : goal.returns
returns c = λ o u files image. opening_stands o u files image
