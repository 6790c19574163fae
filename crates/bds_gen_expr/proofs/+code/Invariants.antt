use Rattle.std.proofs.Common.{◌≡◌, ℕ, ◌+◌, ◌*◌, max, List, drop, take, length}
use denote.Param.Weighed.{most}
use Rattle.bds_tree.specs.declared.expr.Expr.{Expr}
use Rattle.bds_tree.proofs.expr.Expr.TheLaws.{the_size as expr_size}
use Rattle.bds_tree.specs.View.{trees_of, pairs_of}
use Rattle.bds_gen_expr.specs.Gen.{gen_all, gen_pairs}
use Rattle.bds_gen_expr.specs.Grown.{Grown}
use Rattle.bds_gen_expr.proofs.+code.Given as goal

-- the depth of the deepest operand, or pair
abbrev all_size : List Expr → ℕ
all_size es = most expr_size es

abbrev pairs_size : List (Expr × Expr) → ℕ
pairs_size ps = most (λ (p : Expr × Expr). max (expr_size p.0) (expr_size p.1)) ps

abbrev pub decreases-exprs::write_expr : goal.decreases-exprs::write_expr
decreases-exprs::write_expr l = 8 * expr_size l.expr.now + 0

abbrev pub decreases-exprs::write_all : goal.decreases-exprs::write_all
decreases-exprs::write_all l = 8 * all_size l.exprs.now + 1

abbrev pub decreases-exprs::write_pairs : goal.decreases-exprs::write_pairs
decreases-exprs::write_pairs l = 8 * pairs_size l.pairs.now + 1

abbrev pub decreases-exprs::write_two : goal.decreases-exprs::write_two
decreases-exprs::write_two l = 8 * max (expr_size l.first.now) (expr_size l.second.now) + 1

abbrev pub decreases-exprs::write_method : goal.decreases-exprs::write_method
decreases-exprs::write_method l = 8 * max (expr_size l.receiver.now) (all_size l.arguments.now) + 2

abbrev pub decreases-exprs::write_files : goal.decreases-exprs::write_files
decreases-exprs::write_files l = 8 * expr_size l.expr.now + 1

abbrev pub decreases-exprs::write_dependency : goal.decreases-exprs::write_dependency
decreases-exprs::write_dependency l = 8 * max (expr_size l.outs.now) (expr_size l.ins.now) + 2

abbrev pub decreases-operators::write_binary : goal.decreases-operators::write_binary
decreases-operators::write_binary l = 8 * max (expr_size l.left.now) (expr_size l.right.now) + 2

abbrev pub decreases-operators::write_and : goal.decreases-operators::write_and
decreases-operators::write_and l = 8 * max (expr_size l.left.now) (expr_size l.right.now) + 1

abbrev pub decreases-operators::write_or : goal.decreases-operators::write_or
decreases-operators::write_or l = 8 * max (expr_size l.left.now) (expr_size l.right.now) + 1

abbrev pub decreases-operators::write_sum : goal.decreases-operators::write_sum
decreases-operators::write_sum l = 8 * max (expr_size l.left.now) (expr_size l.right.now) + 1

abbrev pub decreases-operators::write_choice : goal.decreases-operators::write_choice
decreases-operators::write_choice l = 8 * max (expr_size l.condition.now) (max (expr_size l.yes.now) (expr_size l.no.now)) + 1

abbrev pub invariant-exprs::write_all-loop-expr : goal.invariant-exprs::write_all-loop-expr
invariant-exprs::write_all-loop-expr l = record {
  code : gen_all (trees_of (drop l.expr-index l.exprs)) l.scope l.shape l.function ≡ gen_all (trees_of l.exprs) l.scope l.fn.shape l.fn.function;
  shape : take (length l.fn.shape) l.shape ≡ l.fn.shape;
  kept : Grown l.fn.function l.function;
}

abbrev pub invariant-exprs::write_pairs-loop-pair : goal.invariant-exprs::write_pairs-loop-pair
invariant-exprs::write_pairs-loop-pair l = record {
  code : gen_pairs (pairs_of (drop l.pair-index l.pairs)) l.scope l.shape l.function ≡ gen_pairs (pairs_of l.pairs) l.scope l.fn.shape l.fn.function;
  shape : take (length l.fn.shape) l.shape ≡ l.fn.shape;
  kept : Grown l.fn.function l.function;
}
