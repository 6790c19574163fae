use Rattle.std.proofs.Common.{ap, sym, ◌∙◌, arith}
use Rattle.bds_tree.specs.declared.expr.Form as forms
use Rattle.bds_tree.specs.Tree.{mapping, to_trees, to_pairs}
use Rattle.bds_tree.specs.View.{tree_of}
use Rattle.bds_tree.proofs.Views.{form_tree_of-Map}
use Rattle.bds_tree.proofs.expr.Expr.TheLaws.{the_size as expr_size}
use Rattle.bds_front_numbers.specs.InFile.{form_in}
use Rattle.bds_front_numbers.proofs.InPlace.{pair_of, wanted_expr, wanted_pair, halfway-none, halfway-more, halfway-all, next_depth, trees_wanted, pairs_wanted}
use Rattle.bds_front_numbers.proofs.exprs.+exprs.Invariants.{pair_size}
use Rattle.bds_front_numbers.proofs.exprs.+exprs.Goals as goal

pub number_exprs-loop-i-init : goal.number_exprs-loop-i-init
number_exprs-loop-i-init t c = halfway-none tree_of (wanted_expr c.args.file) c.args.exprs.now

pub number_exprs-at_mut-requires : goal.number_exprs-at_mut-requires
number_exprs-at_mut-requires t c = let same = c.loop-i.invariant.as_long in omega arith

pub number_exprs-number_expr-requires : goal.number_exprs-number_expr-requires
number_exprs-number_expr-requires t c =
    (omega (arith, next_depth tree_of (wanted_expr c.args.file) expr_size c.args.exprs.now c.loop-i.exprs c.loop-i.i c.at_mut.result.now c.at_mut.ensures.value c.loop-i.invariant, c.decreases), tt)

pub number_exprs-loop-i-preserved : goal.number_exprs-loop-i-preserved
number_exprs-loop-i-preserved t c = halfway-more tree_of (wanted_expr c.args.file) c.args.exprs.now c.loop-i.exprs c.loop-i.i c.at_mut.result.now c.number_expr.new.expr c.at_mut.ensures.value c.number_expr.ensures c.loop-i.invariant

pub number_exprs-returns : goal.number_exprs-returns
number_exprs-returns t c =
    ap to_trees (halfway-all tree_of (wanted_expr c.args.file) c.args.exprs.now c.loop-i.exprs c.loop-i.i (omega arith) c.loop-i.invariant)
    ∙ trees_wanted c.args.file c.args.exprs.now

pub number_form-returns-in-Map : goal.number_form-returns-in-Map
unfolding forms.out-Form denote.Hole.Carrier.out
number_form-returns-in-Map t c =
    let e = rw c.in-Map.pairs-is at c.number_pairs.ensures in
    rw c.in-Map.is (form_tree_of-Map _ ∙ ap mapping e ∙ ap (form_in c.args.file) (sym (form_tree_of-Map _)))

pub number_pairs-loop-i-init : goal.number_pairs-loop-i-init
number_pairs-loop-i-init t c = halfway-none pair_of (wanted_pair c.args.file) c.args.pairs.now

pub number_pairs-at_mut-requires : goal.number_pairs-at_mut-requires
number_pairs-at_mut-requires t c = let same = c.loop-i.invariant.as_long in omega arith

pub number_pairs-number_pair-requires : goal.number_pairs-number_pair-requires
number_pairs-number_pair-requires t c =
    (omega (arith, next_depth pair_of (wanted_pair c.args.file) pair_size c.args.pairs.now c.loop-i.pairs c.loop-i.i c.at_mut.result.now c.at_mut.ensures.value c.loop-i.invariant, c.decreases), tt)

pub number_pairs-loop-i-preserved : goal.number_pairs-loop-i-preserved
number_pairs-loop-i-preserved t c =
    halfway-more pair_of (wanted_pair c.args.file) c.args.pairs.now c.loop-i.pairs c.loop-i.i c.at_mut.result.now c.number_pair.new.pair c.at_mut.ensures.value (cc) c.loop-i.invariant

pub number_pairs-returns : goal.number_pairs-returns
number_pairs-returns t c =
    ap to_pairs (halfway-all pair_of (wanted_pair c.args.file) c.args.pairs.now c.loop-i.pairs c.loop-i.i (omega arith) c.loop-i.invariant)
    ∙ pairs_wanted c.args.file c.args.pairs.now
