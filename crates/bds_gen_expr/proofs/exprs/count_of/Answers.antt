use Rattle.std.proofs.Common.{arith}
use Rattle.bds_gen_expr.proofs.Operands.{count_is}
use Rattle.bds_gen_expr.proofs.exprs.count_of.Goals as goal

pub returns : goal.returns
returns c = let e = count_is c.args.exprs.now in omega (arith, e, c.in_ok-count.ensures)
