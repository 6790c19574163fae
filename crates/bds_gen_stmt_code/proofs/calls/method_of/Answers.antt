use Rattle.bds_gen_stmt_code.proofs.Writing.{type_is, count_is}
use Rattle.bds_gen_stmt_code.proofs.calls.method_of.Goals as goal

pub returns : goal.returns
returns c = rw (type_is c.args.receiver.now, count_is c.args.arguments.now) c.signature.ensures
