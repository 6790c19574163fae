use Rattle.std.proofs.Common.{◌≡◌, ℕ, ◌+◌, ◌*◌, ◌++◌, List, drop, map, max}
use denote.Param.Weighed.{most}
use Rattle.bds_tree.specs.declared.expr.Expr.{Expr}
use Rattle.bds_tree.proofs.expr.Expr.TheLaws.{the_size as expr_size}
use Rattle.bds_source_exprs.specs.Operands.{terms_in, pairs_in}
use Rattle.bds_source_terms.specs.View.{term_of}
use Rattle.bds_source_exprs.proofs.expressions.+terms.Given as goal

-- the depth of the deepest operand, or pair
abbrev all_size : List Expr → ℕ
all_size es = most expr_size es

abbrev pairs_size : List (Expr × Expr) → ℕ
pairs_size ps = most (λ (p : Expr × Expr). max (expr_size p.0) (expr_size p.1)) ps

abbrev pub decreases-expr_term : goal.decreases-expr_term
decreases-expr_term l = 8 * expr_size l.expr.now + 0

abbrev pub decreases-two_of : goal.decreases-two_of
decreases-two_of l = 8 * max (expr_size l.first.now) (expr_size l.second.now) + 1

abbrev pub decreases-binary_of : goal.decreases-binary_of
decreases-binary_of l = 8 * max (expr_size l.left.now) (expr_size l.right.now) + 5

abbrev pub decreases-boxes_of : goal.decreases-boxes_of
decreases-boxes_of l = 8 * max (expr_size l.first.now) (expr_size l.second.now) + 1

abbrev pub decreases-choice_of : goal.decreases-choice_of
decreases-choice_of l = 8 * max (expr_size l.condition.now) (max (expr_size l.yes.now) (expr_size l.no.now)) + 2

abbrev pub decreases-files_of : goal.decreases-files_of
decreases-files_of l = 8 * expr_size l.expr.now + 1

abbrev pub decreases-two_files : goal.decreases-two_files
decreases-two_files l = 8 * max (expr_size l.first.now) (expr_size l.second.now) + 2

abbrev pub decreases-put_term : goal.decreases-put_term
decreases-put_term l = 8 * expr_size l.expr.now + 1

abbrev pub decreases-put_terms : goal.decreases-put_terms
decreases-put_terms l = 8 * all_size l.exprs.now + 2

abbrev pub decreases-put_called : goal.decreases-put_called
decreases-put_called l = 8 * max (expr_size l.receiver.now) (all_size l.arguments.now) + 3

abbrev pub decreases-put_pairs : goal.decreases-put_pairs
decreases-put_pairs l = 8 * pairs_size l.pairs.now + 3

abbrev pub decreases-put_pair : goal.decreases-put_pair
decreases-put_pair l = 8 * max (expr_size l.key.now) (expr_size l.value.now) + 2

abbrev pub decreases-expr_terms : goal.decreases-expr_terms
decreases-expr_terms l = 8 * all_size l.exprs.now + 3

abbrev pub decreases-called_of : goal.decreases-called_of
decreases-called_of l = 8 * max (expr_size l.receiver.now) (all_size l.arguments.now) + 4

abbrev pub decreases-pair_operands : goal.decreases-pair_operands
decreases-pair_operands l = 8 * pairs_size l.pairs.now + 4

abbrev pub invariant-put_terms-loop-expr : goal.invariant-put_terms-loop-expr
invariant-put_terms-loop-expr l = map term_of l.terms ++ terms_in l.names (drop l.expr-index l.exprs) ≡ map term_of l.fn.terms ++ terms_in l.names l.exprs

abbrev pub invariant-put_pairs-loop-pair : goal.invariant-put_pairs-loop-pair
invariant-put_pairs-loop-pair l = map term_of l.terms ++ pairs_in l.names (drop l.pair-index l.pairs) ≡ map term_of l.fn.terms ++ pairs_in l.names l.pairs

abbrev pub decreases-put_shown : goal.decreases-put_shown
decreases-put_shown l = 8 * expr_size l.expr.now + 1

abbrev pub decreases-put_both_shown : goal.decreases-put_both_shown
decreases-put_both_shown l = 8 * max (expr_size l.left.now) (expr_size l.right.now) + 2

abbrev pub decreases-joined_of : goal.decreases-joined_of
decreases-joined_of l = 8 * max (expr_size l.left.now) (expr_size l.right.now) + 3

abbrev pub decreases-either_of : goal.decreases-either_of
decreases-either_of l = 8 * max (expr_size l.left.now) (expr_size l.right.now) + 1

abbrev pub decreases-both_of : goal.decreases-both_of
decreases-both_of l = 8 * max (expr_size l.left.now) (expr_size l.right.now) + 1

abbrev pub decreases-made_of : goal.decreases-made_of
decreases-made_of l = 8 * max (expr_size l.left.now) (expr_size l.right.now) + 4
