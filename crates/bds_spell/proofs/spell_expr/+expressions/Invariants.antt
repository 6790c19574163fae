use Rattle.std.proofs.Common.{◌≡◌, ◌++◌, drop, true}
use Rattle.bds_tree.specs.View.{trees_of, pairs_of}
use Rattle.bds_tree.specs.Words.{words}
use Rattle.bds_spell.specs.ExprWords.{close_of, all_words, pair_words}
use Rattle.bds_spell.proofs.spell_expr.+expressions.Given as goal

abbrev pub invariant-put_all-loop-expr : goal.invariant-put_all-loop-expr
invariant-put_all-loop-expr l = words l.out ++ all_words l.first (close_of l.square) (trees_of (drop l.expr-index l.exprs)) ≡ words l.fn.out ++ all_words true (close_of l.square) (trees_of l.exprs)

abbrev pub invariant-put_pairs-loop-pair : goal.invariant-put_pairs-loop-pair
invariant-put_pairs-loop-pair l = words l.out ++ pair_words l.first (pairs_of (drop l.pair-index l.pairs)) ≡ words l.fn.out ++ pair_words true (pairs_of l.pairs)
