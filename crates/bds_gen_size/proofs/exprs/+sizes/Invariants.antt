use Rattle.std.proofs.Common.{◌≡◌, ℕ, ◌+◌, ◌*◌, ◌≤◌, max, List, drop}
use denote.Param.Weighed.{most}
use Rattle.bds_tree.specs.declared.expr.Expr.{Expr}
use Rattle.bds_tree.proofs.expr.Expr.TheLaws.{the_size as depth}
use Rattle.bds_tree.specs.View.{trees_of, pairs_of}
use Rattle.bds_check_size.specs.ExprSize.{trees_size, pairs_size}
use Rattle.bds_gen_expr.specs.Scope.{types_in}
use Rattle.bds_gen_size.specs.Capped.{capped}
use Rattle.bds_gen_size.proofs.exprs.+sizes.Given as goal

-- the depth of the deepest operand, or pair
abbrev all_depth : List Expr → ℕ
all_depth es = most depth es

abbrev pairs_depth : List (Expr × Expr) → ℕ
pairs_depth ps = most (λ (p : Expr × Expr). max (depth p.0) (depth p.1)) ps

abbrev pub decreases-expr_size : goal.decreases-expr_size
decreases-expr_size l = 8 * depth l.expr.now + 0

abbrev pub decreases-all_size : goal.decreases-all_size
decreases-all_size l = 8 * all_depth l.exprs.now + 1

abbrev pub decreases-pairs_size : goal.decreases-pairs_size
decreases-pairs_size l = 8 * pairs_depth l.pairs.now + 2

abbrev pub decreases-two_size : goal.decreases-two_size
decreases-two_size l = 8 * max (depth l.first.now) (depth l.second.now) + 1

abbrev pub decreases-method_call_size : goal.decreases-method_call_size
decreases-method_call_size l = 8 * max (depth l.receiver.now) (all_depth l.arguments.now) + 2

abbrev pub decreases-choice_size : goal.decreases-choice_size
decreases-choice_size l = 8 * max (depth l.condition.now) (max (depth l.yes.now) (depth l.no.now)) + 2

abbrev pub decreases-files_size : goal.decreases-files_size
decreases-files_size l = 8 * depth l.expr.now + 1

abbrev pub invariant-all_size-loop-expr : goal.invariant-all_size-loop-expr
invariant-all_size-loop-expr l = record {
  most : l.sum ≤ 18446744073709551615;
  so_far : capped (l.sum + trees_size (types_in l.scope) (trees_of (drop l.expr-index l.exprs))) ≡ capped (trees_size (types_in l.scope) (trees_of l.exprs));
}

abbrev pub invariant-pairs_size-loop-pair : goal.invariant-pairs_size-loop-pair
invariant-pairs_size-loop-pair l = record {
  most : l.sum ≤ 18446744073709551615;
  so_far : capped (l.sum + pairs_size (types_in l.scope) (pairs_of (drop l.pair-index l.pairs))) ≡ capped (pairs_size (types_in l.scope) (pairs_of l.pairs));
}
