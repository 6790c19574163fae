use Rattle.std.proofs.Common.{arith}
use Rattle.bds_gen_expr.proofs.Operands.{pair_count_is}
use Rattle.bds_gen_expr.proofs.exprs.count_of_pairs.Goals as goal

pub returns : goal.returns
returns c = let e = pair_count_is c.args.pairs.now in omega (arith, e, c.in_ok-count.ensures)
