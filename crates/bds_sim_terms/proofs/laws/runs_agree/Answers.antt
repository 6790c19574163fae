use Rattle.bds_sim_terms.proofs.Concluding.{agreement}
use Rattle.bds_sim_terms.proofs.laws.runs_agree.Goals as goal

pub returns : goal.returns
returns c = λ o u files image codes verified. agreement o u files image codes verified
