use Rattle.std.proofs.lemmas.Result.{IfOk-weaker}
use Rattle.bds_source_terms.specs.View.{term_of}
use Rattle.bds_source_exprs.proofs.Maps.{map-term}
use Rattle.bds_source_exprs.proofs.expressions.+terms.Goals as goal

pub expr_term-returns-in-Ok-pair_operands : goal.expr_term-returns-in-Ok-pair_operands
expr_term-returns-in-Ok-pair_operands t c =
    IfOk-weaker c.map_made.result _ _
    (λ made e. map-term c.args.expr.now c.in-Map.pairs c.as_slice-in-Map.result.now c.args.names.now (term_of made) (term_of c.in-Ok-pair_operands.operands) c.in-Map.is c.as_slice-in-Map.ensures c.in-Ok-pair_operands.ensures e)
    c.map_made.ensures
