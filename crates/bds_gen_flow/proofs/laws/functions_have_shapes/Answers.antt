use Rattle.bds_gen_flow.proofs.Sealed.{sealed}
use Rattle.bds_gen_flow.proofs.laws.functions_have_shapes.Goals as goal

pub returns : goal.returns
returns c = λ u f begun ms is no_code no_labels passes. sealed u f ms begun is no_code no_labels passes
