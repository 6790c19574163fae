use Rattle.bds_engine_parts.specs.Image.{image}
use Rattle.bds_sim_code.proofs.Continuing.{histories_go_on}
use Rattle.bds_sim_code.proofs.laws.histories_go_on.Goals as goal

pub returns : goal.returns
returns c = λ o u opening. histories_go_on o u opening (c.runs_agree.ensures o u u.files (image u)) c.states_are_read_back.ensures.one
