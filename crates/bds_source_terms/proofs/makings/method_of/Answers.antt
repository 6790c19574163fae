use Rattle.bds_source_terms.proofs.OperandTrees.{count_is, type_is}
use Rattle.bds_source_terms.proofs.makings.method_of.Goals as goal

pub returns : goal.returns
returns c = rw (type_is c.args.receiver.now, count_is c.args.arguments.now) c.signature.ensures
