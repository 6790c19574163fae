use Rattle.std.proofs.Common.{◌≡◌, ℕ, ◌+◌, List, Option, Some, refl, ap, sym, subst, ◌∙◌, length, set, slice_get, take}
use Rattle.std.proofs.Common.{drop, true, false, arith, rules}
use Rattle.std.proofs.lemmas.List.{take-set-le, take_all, drop-set-lt, drop-drop, length-set}
use Rattle.std.proofs.lemmas.Option.{slice_get_within}
use Rattle.bds_tree.specs.declared.expr.Expr.{Expr}
use Rattle.bds_tree.proofs.expr.Expr.TheLaws.{the_size as expr_size}
use Rattle.bds_tree.specs.Tree.{Tree}
use Rattle.bds_tree.specs.View.{tree_of, trees_of, pairs_of}
use Rattle.bds_check_names.specs.declared.names.Asked.TheVariants.{Value}
use Rattle.bds_check_names.specs.Rows.{row_of}
use Rattle.bds_check_names.specs.Types.{is_known}
use Rattle.bds_check_typing.specs.Answers.{broken_at}
use Rattle.bds_check_typing.specs.Walk.{Broken, JudgedTrees, JudgedPairs, first, judge, judge_items, judge_values}
use Rattle.bds_check_typing.specs.Walk.{key_broken, open_count, open_value_count, judge_arguments, items_asked}
use Rattle.bds_check_typing.specs.Walk.{taken_by}
use Rattle.bds_check_walk.specs.InPlace.{bare_expr, LeavesExprs, LeavesPairs}
use Rattle.bds_check_walk.specs.Lone.{between, around_lone, around_lone_pair}
use Rattle.bds_check_walk.proofs.Turns.{broke-off}
use Rattle.bds_check_walk.proofs.Walked.{items-none, items-more, items-depth, items-done, items-broken, exprs-kept}
use Rattle.bds_check_walk.proofs.Walked.{exprs-set, arguments-none, arguments-more, arguments-depth, arguments-done}
use Rattle.bds_check_walk.proofs.Walked.{arguments-broken, pairs-none, pairs-more, pairs-depth, pairs-done}
use Rattle.bds_check_walk.proofs.Walked.{pairs-broken, pairs-kept, pairs-set, pairs-first, pairs-second}
use Rattle.bds_check_walk.proofs.Depths.{at-most, most-take, most-drop, items_size, pair_size, pairs_size, around-sizes}
use Rattle.bds_check_walk.proofs.Depths.{behind-parted}
use Rattle.bds_check_walk.proofs.Items.{open-is, open-pairs-is}
use Rattle.bds_check_walk.proofs.Behind.{not-false, taken-behind}
use Rattle.bds_check_walk.proofs.Around.{lone-right, lone-broken, both-walked, front-stops}
use Rattle.bds_check_walk.proofs.AroundPairs.{lone-pair-right, lone-pair-broken, both-pairs-walked, key-is, key-broke}
use Rattle.bds_check_walk.proofs.AroundPairs.{key-stops, front-pairs-stop}
use Rattle.bds_check_walk.proofs.+walk.Goals as goal

pub list_literals::walk_items-loop-i-init : goal.list_literals::walk_items-loop-i-init
list_literals::walk_items-loop-i-init t c = items-none c.args.names.now c.args.items.now c.args.from c.args.to
    c.args.asked.now (let a = c.requires.order in let b = c.requires.within in omega arith)

pub list_literals::walk_items-at_mut-requires : goal.list_literals::walk_items-at_mut-requires
list_literals::walk_items-at_mut-requires t c =
    let same = c.loop-i.invariant.as_long in let b = c.requires.within in omega arith

pub list_literals::walk_items-walk-requires : goal.list_literals::walk_items-walk-requires
list_literals::walk_items-walk-requires t c = (
  omega (
    arith,
    items-depth c.args.names.now expr_size c.args.items.now c.args.from c.args.to c.args.asked.now
        c.loop-i.i c.loop-i.items c.at_mut.result.now (omega arith) (omega arith) c.at_mut.ensures.value
        c.loop-i.invariant,
    c.decreases,
  ),
  tt,
)

pub list_literals::walk_items-loop-i-preserved : goal.list_literals::walk_items-loop-i-preserved
list_literals::walk_items-loop-i-preserved t c =
    items-more c.args.names.now c.args.items.now c.args.from c.args.to c.args.asked.now c.loop-i.i c.loop-i.items
    c.at_mut.result.now c.walk.new.expr (omega arith) (omega arith) c.at_mut.ensures.value c.in_ok-walk.ensures.fits
    c.walk.ensures.kept c.loop-i.invariant

pub list_literals::walk_items-returns-clause-fits : goal.list_literals::walk_items-returns-clause-fits
list_literals::walk_items-returns-clause-fits t c =
    items-done c.args.names.now c.args.items.now c.args.from c.args.to c.args.asked.now c.loop-i.i c.loop-i.items
    (let e = c.loop-i.auto.i-end c.requires.order in omega (arith, e)) c.loop-i.invariant

pub list_literals::walk_items-returns-clause-behind : goal.list_literals::walk_items-returns-clause-behind
list_literals::walk_items-returns-clause-behind t c =
    let end : c.loop-i.i ≡ c.args.to = let e = c.loop-i.auto.i-end c.requires.order in omega (arith, e) in
    ap (λ n. drop n c.loop-i.items) (sym end) ∙ c.loop-i.invariant.ahead ∙ ap (λ n. drop n c.args.items.now) end

pub list_literals::walk_items-returns-clause-kept : goal.list_literals::walk_items-returns-clause-kept
list_literals::walk_items-returns-clause-kept t c = exprs-kept c.loop-i.items c.args.items.now c.loop-i.invariant.kept

pub list_literals::walk_items-returns-in_err-walk-clause-fits
    : goal.list_literals::walk_items-returns-in_err-walk-clause-fits
list_literals::walk_items-returns-in_err-walk-clause-fits t c =
    broke-off c.from_residual.result c.in_err-walk.field-0.0 (λ _. tree_of c.walk.new.expr ≡
    (judge (tree_of c.at_mut.result.now) c.args.names.now c.args.asked.now).tree)
    (λ _. trees_of (between c.args.from c.args.to (set c.loop-i.items c.loop-i.i c.walk.new.expr)) ≡
    (judge_items (trees_of (between c.args.from c.args.to c.args.items.now)) c.args.names.now false
    c.args.asked.now).trees)
    (judge (tree_of c.at_mut.result.now) c.args.names.now c.args.asked.now).broken
    (judge_items (trees_of (between c.args.from c.args.to c.args.items.now)) c.args.names.now false
    c.args.asked.now).broken
    (search rules) c.in_err-walk.ensures.fits (items-broken c.args.names.now c.args.items.now c.args.from c.args.to
    c.args.asked.now c.loop-i.i c.loop-i.items c.at_mut.result.now (omega arith) c.at_mut.ensures.value
    c.loop-i.invariant)

pub list_literals::walk_items-returns-in_err-walk-clause-kept
    : goal.list_literals::walk_items-returns-in_err-walk-clause-kept
list_literals::walk_items-returns-in_err-walk-clause-kept t c =
    exprs-set c.loop-i.items c.loop-i.i c.at_mut.result.now c.walk.new.expr c.at_mut.ensures.value c.walk.ensures.kept
    ∙ exprs-kept c.loop-i.items c.args.items.now c.loop-i.invariant.kept

pub arguments::walk_arguments-loop-i-init : goal.arguments::walk_arguments-loop-i-init
arguments::walk_arguments-loop-i-init t c = arguments-none c.args.names.now c.args.types.now c.args.arguments.now

pub arguments::walk_arguments-at_mut-requires : goal.arguments::walk_arguments-at_mut-requires
arguments::walk_arguments-at_mut-requires t c = let same = c.loop-i.invariant.as_long in omega arith

pub arguments::walk_arguments-walk_argument-requires : goal.arguments::walk_arguments-walk_argument-requires
arguments::walk_arguments-walk_argument-requires t c = (
  omega (
    arith,
    arguments-depth c.args.names.now c.args.types.now expr_size c.args.arguments.now c.loop-i.i
        c.loop-i.arguments c.at_mut.result.now (omega arith) c.at_mut.ensures.value c.loop-i.invariant,
    c.decreases,
  ),
  tt,
)

pub arguments::walk_arguments-loop-i-preserved : goal.arguments::walk_arguments-loop-i-preserved
arguments::walk_arguments-loop-i-preserved t c =
    arguments-more c.args.names.now c.args.types.now c.args.arguments.now c.loop-i.i c.loop-i.arguments
    c.at_mut.result.now c.walk_argument.new.argument (omega arith) c.at_mut.ensures.value
    c.in_ok-walk_argument.ensures.fits c.walk_argument.ensures.kept c.loop-i.invariant

pub arguments::walk_arguments-returns-clause-fits : goal.arguments::walk_arguments-returns-clause-fits
arguments::walk_arguments-returns-clause-fits t c = arguments-done c.args.names.now c.args.types.now
    c.args.arguments.now c.loop-i.i c.loop-i.arguments (omega arith) c.loop-i.invariant

pub arguments::walk_arguments-returns-clause-kept : goal.arguments::walk_arguments-returns-clause-kept
arguments::walk_arguments-returns-clause-kept t c =
    exprs-kept c.loop-i.arguments c.args.arguments.now c.loop-i.invariant.kept

pub arguments::walk_arguments-returns-in_err-walk_argument-clause-fits
    : goal.arguments::walk_arguments-returns-in_err-walk_argument-clause-fits
arguments::walk_arguments-returns-in_err-walk_argument-clause-fits t c =
    broke-off c.from_residual.result c.in_err-walk_argument.field-0.0
    (λ _. tree_of c.walk_argument.new.argument ≡ (judge (tree_of c.at_mut.result.now) c.args.names.now
    (items_asked (slice_get c.args.types.now c.loop-i.i) Value)).tree)
    (λ _. trees_of (set c.loop-i.arguments c.loop-i.i c.walk_argument.new.argument) ≡
    (judge_arguments (trees_of c.args.arguments.now) c.args.names.now c.args.types.now).trees)
    (judge (tree_of c.at_mut.result.now) c.args.names.now (items_asked (slice_get c.args.types.now c.loop-i.i)
    Value)).broken (judge_arguments (trees_of c.args.arguments.now) c.args.names.now c.args.types.now).broken
    (search rules) c.in_err-walk_argument.ensures.fits (arguments-broken c.args.names.now c.args.types.now
    c.args.arguments.now c.loop-i.i c.loop-i.arguments c.at_mut.result.now (omega arith) c.at_mut.ensures.value
    c.loop-i.invariant)

pub arguments::walk_arguments-returns-in_err-walk_argument-clause-kept
    : goal.arguments::walk_arguments-returns-in_err-walk_argument-clause-kept
arguments::walk_arguments-returns-in_err-walk_argument-clause-kept t c =
    exprs-set c.loop-i.arguments c.loop-i.i c.at_mut.result.now c.walk_argument.new.argument c.at_mut.ensures.value
    c.walk_argument.ensures.kept ∙ exprs-kept c.loop-i.arguments c.args.arguments.now c.loop-i.invariant.kept

pub map_literals::walk_pairs-loop-i-init : goal.map_literals::walk_pairs-loop-i-init
map_literals::walk_pairs-loop-i-init t c = pairs-none c.args.names.now c.args.pairs.now c.args.from c.args.to
    c.args.asked.now (let a = c.requires.order in let b = c.requires.within in omega arith)

pub map_literals::walk_pairs-at_mut-requires : goal.map_literals::walk_pairs-at_mut-requires
map_literals::walk_pairs-at_mut-requires t c =
    let same = c.loop-i.invariant.as_long in let b = c.requires.within in omega arith

pub map_literals::walk_pairs-walk_pair-requires : goal.map_literals::walk_pairs-walk_pair-requires
map_literals::walk_pairs-walk_pair-requires t c = (
  omega (
    arith,
    pairs-depth c.args.names.now pair_size c.args.pairs.now c.args.from c.args.to c.args.asked.now
        c.loop-i.i c.loop-i.pairs c.at_mut.result.now (omega arith) (omega arith) c.at_mut.ensures.value
        c.loop-i.invariant,
    c.decreases,
  ),
  tt,
)

pub map_literals::walk_pairs-loop-i-preserved : goal.map_literals::walk_pairs-loop-i-preserved
map_literals::walk_pairs-loop-i-preserved t c =
    pairs-more c.args.names.now c.args.pairs.now c.args.from c.args.to c.args.asked.now c.loop-i.i c.loop-i.pairs
    c.at_mut.result.now c.walk_pair.new.pair (omega arith) (omega arith) c.at_mut.ensures.value
    c.in_ok-walk_pair.ensures.fits.0 c.in_ok-walk_pair.ensures.fits.1.0 c.in_ok-walk_pair.ensures.fits.1.1
    c.walk_pair.ensures.kept.0 c.walk_pair.ensures.kept.1 c.loop-i.invariant

pub map_literals::walk_pairs-returns-clause-fits : goal.map_literals::walk_pairs-returns-clause-fits
map_literals::walk_pairs-returns-clause-fits t c =
    pairs-done c.args.names.now c.args.pairs.now c.args.from c.args.to c.args.asked.now c.loop-i.i c.loop-i.pairs
    (let e = c.loop-i.auto.i-end c.requires.order in omega (arith, e)) c.loop-i.invariant

pub map_literals::walk_pairs-returns-clause-behind : goal.map_literals::walk_pairs-returns-clause-behind
map_literals::walk_pairs-returns-clause-behind t c =
    let end : c.loop-i.i ≡ c.args.to = let e = c.loop-i.auto.i-end c.requires.order in omega (arith, e) in
    ap (λ n. drop n c.loop-i.pairs) (sym end) ∙ c.loop-i.invariant.ahead ∙ ap (λ n. drop n c.args.pairs.now) end

pub map_literals::walk_pairs-returns-clause-kept : goal.map_literals::walk_pairs-returns-clause-kept
map_literals::walk_pairs-returns-clause-kept t c = pairs-kept c.loop-i.pairs c.args.pairs.now c.loop-i.invariant.kept

pub map_literals::walk_pairs-returns-in_err-walk_pair-clause-fits
    : goal.map_literals::walk_pairs-returns-in_err-walk_pair-clause-fits
map_literals::walk_pairs-returns-in_err-walk_pair-clause-fits t c =
    let p : Expr × Expr = c.at_mut.result.now in
    let q : Expr × Expr = c.walk_pair.new.pair in
    broke-off c.from_residual.result c.in_err-walk_pair.field-0.0
    (λ _. (tree_of q.0 ≡ (judge (tree_of p.0) c.args.names.now Value).tree)
    × (tree_of q.1 ≡ (judge (tree_of p.1) c.args.names.now c.args.asked.now).tree))
    (λ _. pairs_of (between c.args.from c.args.to (set c.loop-i.pairs c.loop-i.i q)) ≡
    (judge_values (pairs_of (between c.args.from c.args.to c.args.pairs.now)) c.args.names.now false
    c.args.asked.now).pairs)
    (first (judge (tree_of p.0) c.args.names.now Value).broken
    (judge (tree_of p.1) c.args.names.now c.args.asked.now).broken)
    (judge_values (pairs_of (between c.args.from c.args.to c.args.pairs.now)) c.args.names.now false
    c.args.asked.now).broken
    (search rules) c.in_err-walk_pair.ensures.fits (pairs-broken c.args.names.now c.args.pairs.now c.args.from c.args.to
    c.args.asked.now c.loop-i.i c.loop-i.pairs p (omega arith) c.at_mut.ensures.value c.loop-i.invariant)

pub map_literals::walk_pairs-returns-in_err-walk_pair-clause-kept
    : goal.map_literals::walk_pairs-returns-in_err-walk_pair-clause-kept
map_literals::walk_pairs-returns-in_err-walk_pair-clause-kept t c =
    pairs-set c.loop-i.pairs c.loop-i.i c.at_mut.result.now c.walk_pair.new.pair c.at_mut.ensures.value
    (ap (λ (x : Tree). (x, bare_expr (tree_of c.walk_pair.new.pair.1))) c.walk_pair.ensures.kept.0
    ∙ ap (λ (x : Tree). (bare_expr (tree_of c.at_mut.result.now.0), x)) c.walk_pair.ensures.kept.1)
    ∙ pairs-kept c.loop-i.pairs c.args.pairs.now c.loop-i.invariant.kept

-- The item that tells the type of the others

pub list_literals::walk_unasked-walk-requires : goal.list_literals::walk_unasked-walk-requires
list_literals::walk_unasked-walk-requires t c = (
  omega (
    arith,
    at-most expr_size c.args.items.now
        c.open_items-place.result c.at_mut.result.now c.at_mut.ensures.value,
    c.decreases,
  ),
  tt,
)

pub list_literals::walk_unasked-walk_around-requires : goal.list_literals::walk_unasked-walk_around-requires
list_literals::walk_unasked-walk_around-requires t c =
    let es : List Expr = c.args.items.now in
    let n = c.open_items-place.result in
    let u : Expr = c.walk.new.expr in
    let before : items_size (take n (set es n u)) ≡ items_size (take n es) =
    ap items_size (take-set-le n es n u (omega arith)) in
    let behind : items_size (drop (n + 1) (set es n u)) ≡ items_size (drop (n + 1) es) =
    ap items_size (drop-set-lt (n + 1) es n u (omega arith)) in (
      omega (arith, before, behind, most-take expr_size es n, most-drop expr_size es (n + 1), c.decreases),
      omega
          (arith, length-set es n u, slice_get_within es n c.at_mut.result.now c.at_mut.ensures.value),
    )

pub list_literals::walk_unasked-walk_before-requires : goal.list_literals::walk_unasked-walk_before-requires
list_literals::walk_unasked-walk_before-requires t c =
    let es : List Expr = c.args.items.now in
    let n = c.open_items-place.result in
    let u : Expr = c.walk.new.expr in
    let before : items_size (take n (set es n u)) ≡ items_size (take n es) =
    ap items_size (take-set-le n es n u (omega arith)) in (
      omega (arith, before, most-take expr_size es n, c.decreases),
      omega
          (arith, length-set es n u, slice_get_within es n c.at_mut.result.now c.at_mut.ensures.value),
    )

pub list_literals::walk_unasked-returns-then-place-len-clause-fits
    : goal.list_literals::walk_unasked-returns-then-place-len-clause-fits
list_literals::walk_unasked-returns-then-place-len-clause-fits t c =
    let count : open_count (trees_of c.args.items.now) ≡ c.open_items-place.result =
    sym (rw c.as_slice.ensures at c.open_items-place.ensures.count) in
    let all_open : open_count (trees_of c.args.items.now) ≡ length c.args.items.now = omega (arith, count) in
    subst (λ (j : JudgedTrees). LeavesExprs c.walk_all.result (trees_of c.walk_all.new.items) j)
    (sym (open-is c.args.items.now c.args.names.now c.args.asked.now all_open))
    (rw c.unasked.ensures at c.walk_all.ensures.fits)

pub list_literals::walk_unasked-returns-in-Ok-clause-fits : goal.list_literals::walk_unasked-returns-in-Ok-clause-fits
list_literals::walk_unasked-returns-in-Ok-clause-fits t c =
    let count : open_count (trees_of c.args.items.now) ≡ c.open_items-place.result =
    sym (rw c.as_slice.ensures at c.open_items-place.ensures.count) in
    lone-right c.walk_around.result (trees_of c.walk_around.new.items) c.args.items.now c.open_items-place.result
    c.at_mut.result.now c.walk.new.expr c.args.names.now c.args.asked.now count c.at_mut.ensures.value
    c.in-Ok.ensures.fits c.walk_around.ensures.fits

pub list_literals::walk_unasked-returns-in-Ok-clause-kept : goal.list_literals::walk_unasked-returns-in-Ok-clause-kept
list_literals::walk_unasked-returns-in-Ok-clause-kept t c =
    c.walk_around.ensures.kept
    ∙ exprs-set c.args.items.now c.open_items-place.result c.at_mut.result.now c.walk.new.expr
    c.at_mut.ensures.value c.walk.ensures.kept

pub list_literals::walk_unasked-returns-in-Err-Broken-clause-fits
    : goal.list_literals::walk_unasked-returns-in-Err-Broken-clause-fits
list_literals::walk_unasked-returns-in-Err-Broken-clause-fits t c =
    let count : open_count (trees_of c.args.items.now) ≡ c.open_items-place.result =
    sym (rw c.as_slice.ensures at c.open_items-place.ensures.count) in
    lone-broken c.walk_before.result (trees_of c.walk_before.new.items) c.args.items.now c.open_items-place.result
    c.at_mut.result.now c.walk.new.expr c.args.names.now c.args.asked.now c.in-Err-Broken.rule c.in-Err-Broken.at
    count c.at_mut.ensures.value
    (rw c.in-Err-Broken.field-0-is at c.in-Err-Broken.ensures.fits) c.walk_before.ensures.fits

pub list_literals::walk_unasked-returns-in-Err-Broken-clause-kept
    : goal.list_literals::walk_unasked-returns-in-Err-Broken-clause-kept
list_literals::walk_unasked-returns-in-Err-Broken-clause-kept t c =
    c.walk_before.ensures.kept
    ∙ exprs-set c.args.items.now c.open_items-place.result c.at_mut.result.now c.walk.new.expr
    c.at_mut.ensures.value c.walk.ensures.kept

pub list_literals::walk_unasked-returns-in-Err-NoMemory-clause-kept
    : goal.list_literals::walk_unasked-returns-in-Err-NoMemory-clause-kept
list_literals::walk_unasked-returns-in-Err-NoMemory-clause-kept t c = exprs-set c.args.items.now
    c.open_items-place.result c.at_mut.result.now c.walk.new.expr c.at_mut.ensures.value c.walk.ensures.kept

pub list_literals::walk_others-walk_items-requires-2 : goal.list_literals::walk_others-walk_items-requires-2
list_literals::walk_others-walk_items-requires-2 t c =
    let mids : List Expr = c.walk_items.new.items in
    let n = c.args.place in
    let long : length mids ≡ length c.args.items.now = c.in_ok-walk_items.ensures.long in
    let tail : drop (n + 1) mids ≡ drop (n + 1) c.args.items.now =
    sym (drop-drop 1 n mids) ∙ ap (drop 1) c.in_ok-walk_items.ensures.behind ∙ drop-drop 1 n c.args.items.now in
    let same : items_size (between (n + 1) c.len-count.result mids) ≡ items_size (drop (n + 1) c.args.items.now) = ap
    (λ (zs : List Expr). items_size (drop (n + 1) zs)) (take_all c.len-count.result mids (omega arith))
    ∙ ap items_size tail in
    (omega (arith, same, c.decreases), (omega (arith, long), omega arith))

pub list_literals::walk_others-returns-clause-fits : goal.list_literals::walk_others-returns-clause-fits
list_literals::walk_others-returns-clause-fits t c =
    both-walked c.walk_items-2.result c.args.items.now c.walk_items.new.items c.walk_items-2.new.items c.args.place
    c.len-count.result c.args.names.now c.args.asked.now c.requires c.len-count.ensures
    c.in_ok-walk_items.ensures.fits c.in_ok-walk_items.ensures.behind c.walk_items-2.ensures.before
    c.walk_items-2.ensures.behind c.walk_items-2.ensures.fits

pub list_literals::walk_others-returns-in_err-walk_items-clause-fits
    : goal.list_literals::walk_others-returns-in_err-walk_items-clause-fits
list_literals::walk_others-returns-in_err-walk_items-clause-fits t c =
    let old : List Expr = c.args.items.now in
    let n = c.args.place in
    broke-off c.from_residual.result c.in_err-walk_items.field-0.0
    (λ _. trees_of (between 0 n c.walk_items.new.items) ≡
    (judge_items (trees_of (between 0 n old)) c.args.names.now false c.args.asked.now).trees)
    (λ _. trees_of c.walk_items.new.items ≡ (around_lone (take n old) (drop n old) c.args.names.now
    c.args.asked.now).trees)
    (judge_items (trees_of (between 0 n old)) c.args.names.now false c.args.asked.now).broken
    (around_lone (take n old) (drop n old) c.args.names.now c.args.asked.now).broken
    (search rules) c.in_err-walk_items.ensures.fits (front-stops old n c.args.names.now c.args.asked.now c.requires)

-- The same of pairs

pub map_literals::walk_unasked_pairs-walk_second-requires : goal.map_literals::walk_unasked_pairs-walk_second-requires
map_literals::walk_unasked_pairs-walk_second-requires t c = (
  omega (
    arith,
    at-most pair_size c.args.pairs.now c.open_pairs-place.result c.at_mut.result.now c.at_mut.ensures.value,
    c.decreases,
  ),
  tt,
)

pub map_literals::walk_unasked_pairs-walk_pairs_around-requires
    : goal.map_literals::walk_unasked_pairs-walk_pairs_around-requires
map_literals::walk_unasked_pairs-walk_pairs_around-requires t c =
    let ps : List (Expr × Expr) = c.args.pairs.now in
    let n = c.open_pairs-place.result in
    let q : Expr × Expr = c.walk_second.new.pair in
    let sizes = around-sizes ps n c.at_mut.result.now q c.at_mut.ensures.value c.walk_second.ensures.same in (
      omega (arith, sizes.0, sizes.1, c.decreases),
      omega (
        arith,
        length-set ps n q,
        slice_get_within ps n
            c.at_mut.result.now c.at_mut.ensures.value,
      ),
    )

pub map_literals::walk_unasked_pairs-walk_pairs_before-requires
    : goal.map_literals::walk_unasked_pairs-walk_pairs_before-requires
map_literals::walk_unasked_pairs-walk_pairs_before-requires t c =
    let ps : List (Expr × Expr) = c.args.pairs.now in
    let n = c.open_pairs-place.result in
    let q : Expr × Expr = c.walk_second.new.pair in
    let sizes = around-sizes ps n c.at_mut.result.now q c.at_mut.ensures.value c.walk_second.ensures.same in (
      omega (arith, sizes.0, sizes.1, c.decreases),
      omega (
        arith,
        length-set ps n q,
        slice_get_within ps n
            c.at_mut.result.now c.at_mut.ensures.value,
      ),
    )

pub map_literals::walk_unasked_pairs-returns-then-place-len-clause-fits
    : goal.map_literals::walk_unasked_pairs-returns-then-place-len-clause-fits
map_literals::walk_unasked_pairs-returns-then-place-len-clause-fits t c =
    let count : open_value_count (pairs_of c.args.pairs.now) ≡ c.open_pairs-place.result =
    sym (rw c.as_slice.ensures at c.open_pairs-place.ensures.count) in
    let all_open : open_value_count (pairs_of c.args.pairs.now) ≡ length c.args.pairs.now = omega (arith, count) in
    subst (λ (j : JudgedPairs). LeavesPairs c.walk_all_pairs.result (pairs_of c.walk_all_pairs.new.pairs) j)
    (sym (open-pairs-is c.args.pairs.now c.args.names.now c.args.asked.now all_open))
    (rw c.unasked.ensures at c.walk_all_pairs.ensures.fits)

pub map_literals::walk_unasked_pairs-returns-in-Ok-clause-fits
    : goal.map_literals::walk_unasked_pairs-returns-in-Ok-clause-fits
map_literals::walk_unasked_pairs-returns-in-Ok-clause-fits t c =
    let count : open_value_count (pairs_of c.args.pairs.now) ≡ c.open_pairs-place.result =
    sym (rw c.as_slice.ensures at c.open_pairs-place.ensures.count) in
    lone-pair-right c.walk_pairs_around.result (pairs_of c.walk_pairs_around.new.pairs) c.args.pairs.now
    c.open_pairs-place.result c.at_mut.result.now c.walk_second.new.pair c.args.names.now c.args.asked.now count
    c.at_mut.ensures.value c.walk_second.ensures.same c.in-Ok.ensures.fits c.walk_pairs_around.ensures.fits

pub map_literals::walk_unasked_pairs-returns-in-Ok-clause-kept
    : goal.map_literals::walk_unasked_pairs-returns-in-Ok-clause-kept
map_literals::walk_unasked_pairs-returns-in-Ok-clause-kept t c =
    c.walk_pairs_around.ensures.kept
    ∙ pairs-second c.args.pairs.now c.open_pairs-place.result c.at_mut.result.now c.walk_second.new.pair
    c.at_mut.ensures.value c.walk_second.ensures.same c.walk_second.ensures.kept

pub map_literals::walk_unasked_pairs-returns-in-Err-Broken-clause-fits
    : goal.map_literals::walk_unasked_pairs-returns-in-Err-Broken-clause-fits
map_literals::walk_unasked_pairs-returns-in-Err-Broken-clause-fits t c =
    let count : open_value_count (pairs_of c.args.pairs.now) ≡ c.open_pairs-place.result =
    sym (rw c.as_slice.ensures at c.open_pairs-place.ensures.count) in
    lone-pair-broken c.walk_pairs_before.result (pairs_of c.walk_pairs_before.new.pairs) c.args.pairs.now
    c.open_pairs-place.result c.at_mut.result.now c.walk_second.new.pair c.args.names.now c.args.asked.now
    c.in-Err-Broken.rule c.in-Err-Broken.at count c.at_mut.ensures.value c.walk_second.ensures.same
    (rw c.in-Err-Broken.field-0-is at c.in-Err-Broken.ensures.fits) c.walk_pairs_before.ensures.fits

pub map_literals::walk_unasked_pairs-returns-in-Err-Broken-clause-kept
    : goal.map_literals::walk_unasked_pairs-returns-in-Err-Broken-clause-kept
map_literals::walk_unasked_pairs-returns-in-Err-Broken-clause-kept t c =
    c.walk_pairs_before.ensures.kept
    ∙ pairs-second c.args.pairs.now c.open_pairs-place.result c.at_mut.result.now c.walk_second.new.pair
    c.at_mut.ensures.value c.walk_second.ensures.same c.walk_second.ensures.kept

pub map_literals::walk_unasked_pairs-returns-in-Err-NoMemory-clause-kept
    : goal.map_literals::walk_unasked_pairs-returns-in-Err-NoMemory-clause-kept
map_literals::walk_unasked_pairs-returns-in-Err-NoMemory-clause-kept t c = pairs-second c.args.pairs.now
    c.open_pairs-place.result c.at_mut.result.now c.walk_second.new.pair c.at_mut.ensures.value
    c.walk_second.ensures.same c.walk_second.ensures.kept

pub map_literals::walk_other_pairs-at_mut-requires : goal.map_literals::walk_other_pairs-at_mut-requires
map_literals::walk_other_pairs-at_mut-requires t c =
    let long = c.in_ok-walk_pairs.ensures.long in let within = c.requires in omega arith

pub map_literals::walk_other_pairs-walk_first-requires : goal.map_literals::walk_other_pairs-walk_first-requires
map_literals::walk_other_pairs-walk_first-requires t c =
    let here = behind-parted c.args.pairs.now c.walk_pairs.new.pairs c.args.place c.at_mut.result.now
    c.at_mut.ensures.value c.in_ok-walk_pairs.ensures.behind in
    (omega (arith, here.0, c.decreases), tt)

pub map_literals::walk_other_pairs-walk_pairs-requires-2 : goal.map_literals::walk_other_pairs-walk_pairs-requires-2
map_literals::walk_other_pairs-walk_pairs-requires-2 t c =
    let mids : List (Expr × Expr) = c.walk_pairs.new.pairs in
    let n = c.args.place in
    let q : Expr × Expr = c.walk_first.new.pair in
    let here = behind-parted c.args.pairs.now mids n c.at_mut.result.now c.at_mut.ensures.value
    c.in_ok-walk_pairs.ensures.behind in
    let long : length mids ≡ length c.args.pairs.now = c.in_ok-walk_pairs.ensures.long in
    let set_long : length (set mids n q) ≡ length mids = length-set mids n q in
    let same : pairs_size (between (n + 1) c.len-count.result (set mids n q)) ≡ pairs_size (drop (n + 1) mids) =
    ap (λ (zs : List (Expr
    × Expr)). pairs_size (drop (n + 1) zs)) (take_all c.len-count.result (set mids n q) (omega arith))
    ∙ ap pairs_size (drop-set-lt (n + 1) mids n q (omega arith)) in
    (omega (arith, same, here.1, c.decreases), (omega (arith, long, set_long), omega arith))

pub map_literals::walk_other_pairs-returns-clause-fits : goal.map_literals::walk_other_pairs-returns-clause-fits
map_literals::walk_other_pairs-returns-clause-fits t c =
    both-pairs-walked c.walk_pairs-2.result c.args.pairs.now c.walk_pairs.new.pairs c.walk_pairs-2.new.pairs
    c.args.place c.len-count.result c.at_mut.result.now c.walk_first.new.pair c.args.names.now c.args.asked.now
    c.len-count.ensures
    c.in_ok-walk_pairs.ensures.fits c.in_ok-walk_pairs.ensures.behind c.at_mut.ensures.value
    c.in_ok-walk_first.ensures.fits c.walk_first.ensures.same c.walk_pairs-2.ensures.before
    c.walk_pairs-2.ensures.behind c.walk_pairs-2.ensures.fits

pub map_literals::walk_other_pairs-returns-clause-kept : goal.map_literals::walk_other_pairs-returns-clause-kept
map_literals::walk_other_pairs-returns-clause-kept t c =
    c.walk_pairs-2.ensures.kept
    ∙ pairs-first c.walk_pairs.new.pairs c.args.place c.at_mut.result.now c.walk_first.new.pair
    c.at_mut.ensures.value c.walk_first.ensures.same c.walk_first.ensures.kept ∙ c.walk_pairs.ensures.kept

pub map_literals::walk_other_pairs-returns-in_err-walk_pairs-clause-fits
    : goal.map_literals::walk_other_pairs-returns-in_err-walk_pairs-clause-fits
map_literals::walk_other_pairs-returns-in_err-walk_pairs-clause-fits t c =
    let old : List (Expr × Expr) = c.args.pairs.now in
    let n = c.args.place in
    broke-off c.from_residual.result c.in_err-walk_pairs.field-0.0
    (λ _. pairs_of (between 0 n c.walk_pairs.new.pairs) ≡
    (judge_values (pairs_of (between 0 n old)) c.args.names.now false c.args.asked.now).pairs)
    (λ _. pairs_of c.walk_pairs.new.pairs ≡ (around_lone_pair (take n old) (drop n old) c.args.names.now
    c.args.asked.now).pairs)
    (judge_values (pairs_of (between 0 n old)) c.args.names.now false c.args.asked.now).broken
    (around_lone_pair (take n old) (drop n old) c.args.names.now c.args.asked.now).broken
    (search rules) c.in_err-walk_pairs.ensures.fits (front-pairs-stop old n c.args.names.now c.args.asked.now
    c.requires)

pub map_literals::walk_other_pairs-returns-in_err-walk_first-clause-fits
    : goal.map_literals::walk_other_pairs-returns-in_err-walk_first-clause-fits
map_literals::walk_other_pairs-returns-in_err-walk_first-clause-fits t c =
    let old : List (Expr × Expr) = c.args.pairs.now in
    let n = c.args.place in
    let p : Expr × Expr = c.at_mut.result.now in
    let q : Expr × Expr = c.walk_first.new.pair in
    broke-off c.from_residual-in_err-walk_first.result c.in_err-walk_first.field-0.0
    (λ _. tree_of q.0 ≡ (judge (tree_of p.0) c.args.names.now Value).tree)
    (λ _. pairs_of (set c.walk_pairs.new.pairs n q) ≡ (around_lone_pair (take n old) (drop n old) c.args.names.now
    c.args.asked.now).pairs)
    (judge (tree_of p.0) c.args.names.now Value).broken (around_lone_pair (take n old) (drop n old) c.args.names.now
    c.args.asked.now).broken
    (search rules) c.in_err-walk_first.ensures.fits (key-stops old c.walk_pairs.new.pairs n p c.args.names.now
    c.args.asked.now c.in_ok-walk_pairs.ensures.fits.0 c.in_ok-walk_pairs.ensures.behind c.at_mut.ensures.value)

pub map_literals::walk_other_pairs-returns-in_err-walk_first-clause-kept
    : goal.map_literals::walk_other_pairs-returns-in_err-walk_first-clause-kept
map_literals::walk_other_pairs-returns-in_err-walk_first-clause-kept t c =
    pairs-first c.walk_pairs.new.pairs c.args.place c.at_mut.result.now c.walk_first.new.pair c.at_mut.ensures.value
    c.walk_first.ensures.same c.walk_first.ensures.kept ∙ c.walk_pairs.ensures.kept

pub map_literals::walk_pairs_before-at_mut-requires : goal.map_literals::walk_pairs_before-at_mut-requires
map_literals::walk_pairs_before-at_mut-requires t c =
    let long = c.in_ok-walk_pairs.ensures.long in let within = c.requires in omega arith

pub map_literals::walk_pairs_before-walk_first-requires : goal.map_literals::walk_pairs_before-walk_first-requires
map_literals::walk_pairs_before-walk_first-requires t c =
    let here = behind-parted c.args.pairs.now c.walk_pairs.new.pairs c.args.place c.at_mut.result.now
    c.at_mut.ensures.value c.in_ok-walk_pairs.ensures.behind in
    (omega (arith, here.0, c.decreases), tt)

pub map_literals::walk_pairs_before-returns-clause-fits : goal.map_literals::walk_pairs_before-returns-clause-fits
map_literals::walk_pairs_before-returns-clause-fits t c =
    let k = key-is c.args.pairs.now c.walk_pairs.new.pairs c.args.place c.at_mut.result.now c.args.names.now
    c.in_ok-walk_pairs.ensures.behind c.at_mut.ensures.value in
    rw (c.in_ok-walk_pairs.ensures.fits.0, k, c.in_ok-walk_first.ensures.fits.0) refl

pub map_literals::walk_pairs_before-returns-clause-kept : goal.map_literals::walk_pairs_before-returns-clause-kept
map_literals::walk_pairs_before-returns-clause-kept t c =
    pairs-first c.walk_pairs.new.pairs c.args.place c.at_mut.result.now c.walk_first.new.pair c.at_mut.ensures.value
    c.walk_first.ensures.same c.walk_first.ensures.kept ∙ c.walk_pairs.ensures.kept

pub map_literals::walk_pairs_before-returns-in_err-walk_first-clause-fits
    : goal.map_literals::walk_pairs_before-returns-in_err-walk_first-clause-fits
map_literals::walk_pairs_before-returns-in_err-walk_first-clause-fits t c =
    let old : List (Expr × Expr) = c.args.pairs.now in
    let n = c.args.place in
    let p : Expr × Expr = c.at_mut.result.now in
    let q : Expr × Expr = c.walk_first.new.pair in
    let before : Option Broken = (judge_values (pairs_of (take n old)) c.args.names.now false Value).broken in
    let key : Option Broken = key_broken (pairs_of (drop n old)) c.args.names.now in
    let here : Option Broken = (judge (tree_of p.0) c.args.names.now Value).broken in
    let value : Option Broken = Some (broken_at c.args.rule c.args.at) in
    broke-off c.from_residual-in_err-walk_first.result c.in_err-walk_first.field-0.0
    (λ _. tree_of q.0 ≡ (judge (tree_of p.0) c.args.names.now Value).tree) (λ _. ⊥) here
    (first before (first key value))
    (search rules) c.in_err-walk_first.ensures.fits
    (λ b broken. key-broke before key here value b c.in_ok-walk_pairs.ensures.fits.0
    (key-is old c.walk_pairs.new.pairs n p c.args.names.now c.in_ok-walk_pairs.ensures.behind c.at_mut.ensures.value)
    broken)

pub map_literals::walk_pairs_before-returns-in_err-walk_first-clause-kept
    : goal.map_literals::walk_pairs_before-returns-in_err-walk_first-clause-kept
map_literals::walk_pairs_before-returns-in_err-walk_first-clause-kept t c =
    pairs-first c.walk_pairs.new.pairs c.args.place c.at_mut.result.now c.walk_first.new.pair c.at_mut.ensures.value
    c.walk_first.ensures.same c.walk_first.ensures.kept ∙ c.walk_pairs.ensures.kept

pub arguments::walk_behind-returns-clause-fits : goal.arguments::walk_behind-returns-clause-fits
arguments::walk_behind-returns-clause-fits t c =
    let known : is_known c.args.receiver.now ≡ true = search (rules, not-false) in
    let same : c.as_slice.result.now ≡ c.in_ok-types.types = c.as_slice.ensures in
    let taken : c.in_ok-types.types ≡ taken_by (row_of c.args.receiver.now c.args.name.now
    (length c.args.arguments.now)) =
    c.in_ok-types.ensures ∙ ap (λ (n : ℕ). taken_by (row_of c.args.receiver.now c.args.name.now n)) c.len.ensures in
    taken-behind c.walk_arguments.result (trees_of c.walk_arguments.new.arguments) c.args.arguments.now c.args.names.now
    c.args.receiver.now c.args.name.now c.as_slice.result.now known (same ∙ taken) c.walk_arguments.ensures.fits
