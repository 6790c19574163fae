use Rattle.std.proofs.Common.{arith}
use Rattle.bds_gen_expr.specs.Scope.{types_in}
use Rattle.bds_gen_size.proofs.Counting.{pieces-next}
use Rattle.bds_gen_size.proofs.pieces.joined_size.Goals as goal

pub loop-piece-preserved : goal.loop-piece-preserved
loop-piece-preserved c = record {
  most = omega arith;
  so_far = pieces-next (types_in c.args.scope.now) c.args.pieces.now c.loop-piece.piece-index c.piece-item.result c.loop-piece.sum c.first_size-size.result c.saturating_add-before.result c.saturating_add-sum.result _ (omega arith) c.piece-item.is c.first_size-size.ensures
      c.saturating_add-before.ensures c.saturating_add-sum.ensures c.loop-piece.invariant.so_far;
}
