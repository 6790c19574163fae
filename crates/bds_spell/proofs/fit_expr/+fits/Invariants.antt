use Rattle.std.proofs.Common.{◌≡◌, drop}
use Rattle.bds_tree.specs.View.{trees_of, pairs_of}
use Rattle.bds_spell.specs.Fits.{all_fit, pairs_fit}
use Rattle.bds_spell.proofs.fit_expr.+fits.Given as goal

abbrev pub invariant-all_fit-loop-expr : goal.invariant-all_fit-loop-expr
invariant-all_fit-loop-expr l = all_fit (trees_of l.exprs) l.most ≡ all_fit (trees_of (drop l.expr-index l.exprs)) l.most

abbrev pub invariant-pairs_fit-loop-pair : goal.invariant-pairs_fit-loop-pair
invariant-pairs_fit-loop-pair l = pairs_fit (pairs_of l.pairs) l.most ≡ pairs_fit (pairs_of (drop l.pair-index l.pairs)) l.most
