use Rattle.bds_sim_code.proofs.Standing.{begun_stands}
use Rattle.bds_sim_code.proofs.laws.begun_states_stand.Goals as goal

pub returns : goal.returns
returns c ss args s here = begun_stands c.main_threads_stand.ensures c.opening_stands.ensures ss args s here
