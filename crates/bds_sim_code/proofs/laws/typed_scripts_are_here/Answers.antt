use Rattle.bds_sim_code.proofs.AcceptedScripts.{script-here}
use Rattle.bds_sim_code.proofs.laws.typed_scripts_are_here.Goals as goal

pub returns : goal.returns
returns c = λ ss args s typed. script-here ss args s typed
