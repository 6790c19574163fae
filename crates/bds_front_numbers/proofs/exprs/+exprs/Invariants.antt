use Rattle.std.proofs.Common.{ℕ, ◌+◌, ◌*◌, max}
use denote.Param.Weighed.{most}
use Rattle.bds_tree.specs.declared.expr.Expr.{Expr}
use Rattle.bds_tree.proofs.expr.Expr.TheLaws.{the_size as expr_size}
use Rattle.bds_tree.proofs.expr.Form.TheLaws.{the_size as form_size}
use Rattle.bds_tree.specs.View.{tree_of}
use Rattle.bds_front_numbers.proofs.InPlace.{Halfway, pair_of, wanted_expr, wanted_pair}
use Rattle.bds_front_numbers.proofs.exprs.+exprs.Given as goal

-- the depth of the deeper of a pair
abbrev pub pair_size : Expr × Expr → ℕ
pair_size p = max (expr_size p.0) (expr_size p.1)

abbrev pub decreases-number_expr : goal.decreases-number_expr
decreases-number_expr l = 4 * expr_size l.expr.now + 0

abbrev pub decreases-number_form : goal.decreases-number_form
decreases-number_form l = 4 * form_size l.form.now + 0

abbrev pub decreases-number_boxed : goal.decreases-number_boxed
decreases-number_boxed l = 4 * expr_size l.expr.now + 1

abbrev pub decreases-number_exprs : goal.decreases-number_exprs
decreases-number_exprs l = 4 * most expr_size l.exprs.now + 1

abbrev pub decreases-number_pair : goal.decreases-number_pair
decreases-number_pair l = 4 * pair_size l.pair.now + 1

abbrev pub decreases-number_pairs : goal.decreases-number_pairs
decreases-number_pairs l = 4 * most pair_size l.pairs.now + 2

abbrev pub invariant-number_exprs-loop-i : goal.invariant-number_exprs-loop-i
invariant-number_exprs-loop-i l = Halfway tree_of (wanted_expr l.file) l.fn.exprs l.i l.exprs

abbrev pub invariant-number_pairs-loop-i : goal.invariant-number_pairs-loop-i
invariant-number_pairs-loop-i l = Halfway pair_of (wanted_pair l.file) l.fn.pairs l.i l.pairs
