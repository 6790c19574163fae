use Rattle.bds_machine.proofs.MethodFits.{method_rowed}
use Rattle.bds_machine.proofs.validity.methods_take_their_rows.Goals as goal

pub returns : goal.returns
returns c = method_rowed
