use Rattle.bds_state.proofs.Faults.{fault_invalid}
use Rattle.bds_state.proofs.laws.faults_are_real.Goals as goal

pub returns : goal.returns
returns c = fault_invalid
