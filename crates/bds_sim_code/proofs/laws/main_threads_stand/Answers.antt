use Rattle.bds_sim_code.proofs.Program.{main_stands}
use Rattle.bds_sim_code.proofs.laws.main_threads_stand.Goals as goal

pub returns : goal.returns
returns c = λ ss args s here main there. main_stands ss args s here main there
