use Rattle.bds_gen_expr.specs.Scope.{types_in}
use Rattle.bds_gen_size.proofs.MapSize.{map-size}
use Rattle.bds_gen_size.proofs.exprs.+sizes.Goals as goal

pub expr_size-returns-in-Map : goal.expr_size-returns-in-Map
expr_size-returns-in-Map t c = map-size (types_in c.args.scope.now) c.args.expr.now c.in-Map.pairs c.as_slice-in-Map.result.now c.pairs_size.result c.saturating_add-in-Map.result c.in-Map.is c.as_slice-in-Map.ensures c.pairs_size.ensures c.saturating_add-in-Map.ensures
