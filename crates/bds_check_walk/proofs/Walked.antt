-- The loops over items, arguments and pairs: what their turns come to.
use Rattle.std.proofs.Common.{◌≡◌, ℕ, ◌+◌, List, [], ◌∷◌, ◌<◌, ◌≤◌, Option, Some, None, drop, map, length, set}
use Rattle.std.proofs.Common.{slice_get, false, refl, ap, sym, ◌∙◌, arith}
use denote.Param.Weighed.{most}
use Rattle.bds_value.specs.declared.value.Ty.{Ty}
use Rattle.bds_tree.specs.declared.expr.Expr.{Expr}
use Rattle.bds_tree.specs.Tree.{Tree, to_trees, to_pairs, more, more_pairs}
use Rattle.bds_tree.specs.View.{tree_of, trees_of, pairs_of}
use Rattle.bds_check_names.specs.declared.names.Names.{Names}
use Rattle.bds_check_names.specs.declared.names.Asked.{Asked}
use Rattle.bds_check_names.specs.declared.names.Asked.TheVariants.{Value}
use Rattle.bds_check_typing.specs.Walk.{Broken, JudgedTrees, JudgedPairs, first, also, also_pair, judge, judge_items}
use Rattle.bds_check_typing.specs.Walk.{judge_arguments, judge_values, items_asked}
use Rattle.bds_check_walk.specs.InPlace.{bare_expr, bare_exprs, bare_pairs}
use Rattle.bds_check_walk.specs.Lone.{between}
use Rattle.bds_check_walk.proofs.Items.{arguments-next, first-assoc}
use Rattle.bds_check_walk.proofs.Turns.{Walking, walking-none, walking-more, next_depth, whole-depth, all_wanted}
use Rattle.bds_check_walk.proofs.Turns.{any_faulty, walked-unbroken, walked-all, walking-broken, whole-walked}
use Rattle.bds_check_walk.proofs.Turns.{whole-broken, map_set-same}

bares-as : (es : List Expr) → bare_exprs (trees_of es) ≡ to_trees (map (λ e. bare_expr (tree_of e)) es)
bares-as [] = refl
bares-as (e ∷ es) = ap (more (bare_expr (tree_of e))) (bares-as es)

pub exprs-kept : (es fs : List Expr) → map (λ e. bare_expr (tree_of e)) es ≡ map (λ e. bare_expr (tree_of e)) fs
    → bare_exprs (trees_of es) ≡ bare_exprs (trees_of fs)
exprs-kept es fs same = bares-as es ∙ ap to_trees same ∙ sym (bares-as fs)

pub exprs-set : (es : List Expr) (n : ℕ) (x y : Expr) → slice_get es n ≡ Some x
    → bare_expr (tree_of y) ≡ bare_expr (tree_of x) → bare_exprs (trees_of (set es n y)) ≡ bare_exprs (trees_of es)
exprs-set es n x y e same = exprs-kept (set es n y) es (map_set-same (λ z. bare_expr (tree_of z)) es n x y e same)

-- Items

module _ (names : Names) where
  abbrev pub item_wanted : Asked → Expr → Tree
  item_wanted a x = (judge (tree_of x) names a).tree

  abbrev pub item_faulty : Asked → Expr → Option Broken
  item_faulty a x = (judge (tree_of x) names a).broken

abbrev pub same_asked : {X : Type 0} → Asked → X → Asked
same_asked a x = a

abbrev pub ItemsWalking : Names → List Expr → ℕ → ℕ → Asked → ℕ → List Expr → Type 0
ItemsWalking names olds from to asked i news =
    Walking tree_of bare_expr (item_wanted names) (item_faulty names) same_asked olds from to asked i news asked

items-as : (names : Names) (a : Asked) (es : List Expr) →
    judge_items (trees_of es) names false a ≡ record {
      trees = to_trees
          (all_wanted tree_of bare_expr (item_wanted names) (item_faulty names) same_asked a es);
      broken =
          any_faulty tree_of bare_expr (item_wanted names) (item_faulty names) same_asked a es;
    }
items-as names a [] = refl
items-as names a (e ∷ es) = ap (also (judge (tree_of e) names a)) (items-as names a es)

pub items-none : (names : Names) (olds : List Expr) (from to : ℕ) (a : Asked) → from ≤ length olds
    → ItemsWalking names olds from to a from olds
items-none names olds from to a within =
    walking-none tree_of bare_expr (item_wanted names) (item_faulty names) same_asked olds from to a within

pub items-more : (names : Names) (olds : List Expr) (from to : ℕ) (a : Asked) (i : ℕ) (news : List Expr) (x y : Expr)
    → from ≤ i → i < to → slice_get news i ≡ Some x →
    ((judge (tree_of x) names a).broken ≡ None) × (tree_of y ≡ (judge (tree_of x) names a).tree)
    → bare_expr (tree_of y) ≡ bare_expr (tree_of x) → ItemsWalking names olds from to a i news
    → ItemsWalking names olds from to a (i + 1) (set news i y)
items-more names olds from to a i news x y after below e right same h = walking-more tree_of bare_expr
    (item_wanted names) (item_faulty names) same_asked olds from to a i news a x y after below e right.0 right.1 same h

pub items-depth : (names : Names) (μ : Expr
    → ℕ) (olds : List Expr) (from to : ℕ) (a : Asked) (i : ℕ) (news : List Expr) (x : Expr) → from ≤ i → i < to
    → slice_get news i ≡ Some x → ItemsWalking names olds from to a i news → μ x ≤ most μ (between from to olds)
items-depth names μ olds from to a i news x after below e h = next_depth tree_of bare_expr (item_wanted names)
    (item_faulty names) same_asked μ olds from to a i news a x after below e h

pub items-done : (names : Names) (olds : List Expr) (from to : ℕ) (a : Asked) (i : ℕ) (news : List Expr) → i ≡ to
    → ItemsWalking names olds from to a i news →
    ((judge_items (trees_of (between from to olds)) names false a).broken ≡ None)
    × (trees_of (between from to news) ≡ (judge_items (trees_of (between from to olds)) names false a).trees)
items-done names olds from to a i news end h =
    let e = items-as names a (between from to olds) in (
      ap (λ (j : JudgedTrees). j.broken) e
          ∙ walked-unbroken tree_of bare_expr (item_wanted names) (item_faulty names) same_asked olds from to a i news a
          end h,
      ap to_trees (walked-all tree_of bare_expr (item_wanted names) (item_faulty names) same_asked olds from to a i news
          a end h) ∙ sym (ap (λ (j : JudgedTrees). j.trees) e),
    )

pub items-broken : (names : Names) (olds : List Expr) (from to : ℕ) (a : Asked) (i : ℕ) (news : List Expr) (x : Expr)
    → i < to → slice_get news i ≡ Some x → ItemsWalking names olds from to a i news →
    (b : Broken) → (judge (tree_of x) names a).broken ≡ Some b
    → (judge_items (trees_of (between from to olds)) names false a).broken ≡ Some b
items-broken names olds from to a i news x below e h b broken =
    ap (λ (j : JudgedTrees). j.broken) (items-as names a (between from to olds))
    ∙ walking-broken tree_of bare_expr (item_wanted names) (item_faulty names) same_asked olds from to a i news a x
    below e h b broken

-- Arguments

module _ (names : Names) (ts : List Ty) where
  abbrev pub argument_wanted : ℕ → Expr → Tree
  argument_wanted n x = (judge (tree_of x) names (items_asked (slice_get ts n) Value)).tree

  abbrev pub argument_faulty : ℕ → Expr → Option Broken
  argument_faulty n x = (judge (tree_of x) names (items_asked (slice_get ts n) Value)).broken

abbrev pub one_more : {X : Type 0} → ℕ → X → ℕ
one_more n x = n + 1

abbrev pub ArgumentsWalking : Names → List Ty → List Expr → ℕ → List Expr → Type 0
ArgumentsWalking names ts olds i news = Walking tree_of bare_expr (argument_wanted names ts) (argument_faulty names ts)
    one_more olds 0 (length olds) 0 i news i

arguments-as : (names : Names) (ts : List Ty) (n : ℕ) (es : List Expr) →
    judge_arguments (trees_of es) names (drop n ts)
    ≡ record {
      trees = to_trees (all_wanted tree_of bare_expr (argument_wanted names ts) (argument_faulty names ts)
          one_more n es);
      broken = any_faulty tree_of bare_expr (argument_wanted names ts) (argument_faulty names ts) one_more n es;
    }
arguments-as names ts n [] = refl
arguments-as names ts n (e ∷ es) = arguments-next (tree_of e) (trees_of es) names ts n
    ∙ ap (also (judge (tree_of e) names (items_asked (slice_get ts n) Value))) (arguments-as names ts (n + 1) es)

pub arguments-none : (names : Names) (ts : List Ty) (olds : List Expr) → ArgumentsWalking names ts olds 0 olds
arguments-none names ts olds = walking-none tree_of bare_expr (argument_wanted names ts) (argument_faulty names ts)
    one_more olds 0 (length olds) 0 (omega arith)

pub arguments-more : (names : Names) (ts : List Ty) (olds : List Expr) (i : ℕ) (news : List Expr) (x y : Expr)
    → i < length olds → slice_get news i ≡ Some x →
    ((judge (tree_of x) names (items_asked (slice_get ts i) Value)).broken ≡ None)
    × (tree_of y ≡ (judge (tree_of x) names (items_asked (slice_get ts i) Value)).tree)
    → bare_expr (tree_of y) ≡ bare_expr (tree_of x) →
    ArgumentsWalking names ts olds i news → ArgumentsWalking names ts olds (i + 1) (set news i y)
arguments-more names ts olds i news x y below e right same h = walking-more tree_of bare_expr (argument_wanted names ts)
    (argument_faulty names ts) one_more olds 0 (length olds) 0 i news i x y (omega arith) below e right.0 right.1 same h

pub arguments-depth : (names : Names) (ts : List Ty) (μ : Expr
    → ℕ) (olds : List Expr) (i : ℕ) (news : List Expr) (x : Expr) → i < length olds → slice_get news i ≡ Some x
    → ArgumentsWalking names ts olds i news → μ x ≤ most μ olds
arguments-depth names ts μ olds i news x below e h = whole-depth tree_of bare_expr (argument_wanted names ts)
    (argument_faulty names ts) one_more olds 0 i news i μ x below e h

pub arguments-done : (names : Names) (ts : List Ty) (olds : List Expr) (i : ℕ) (news : List Expr) → i ≡ length olds
    → ArgumentsWalking names ts olds i news →
    ((judge_arguments (trees_of olds) names ts).broken ≡ None)
    × (trees_of news ≡ (judge_arguments (trees_of olds) names ts).trees)
arguments-done names ts olds i news end h =
    let e = arguments-as names ts 0 olds in
    let w = whole-walked tree_of bare_expr (argument_wanted names ts) (argument_faulty names ts) one_more olds 0 i news
    i end h in
    (ap (λ (j : JudgedTrees). j.broken) e ∙ w.0, ap to_trees w.1 ∙ sym (ap (λ (j : JudgedTrees). j.trees) e))

pub arguments-broken : (names : Names) (ts : List Ty) (olds : List Expr) (i : ℕ) (news : List Expr) (x : Expr)
    → i < length olds → slice_get news i ≡ Some x → ArgumentsWalking names ts olds i news →
    (b : Broken) → (judge (tree_of x) names (items_asked (slice_get ts i) Value)).broken ≡ Some b
    → (judge_arguments (trees_of olds) names ts).broken ≡ Some b
arguments-broken names ts olds i news x below e h b broken =
    ap (λ (j : JudgedTrees). j.broken) (arguments-as names ts 0 olds)
    ∙ whole-broken tree_of bare_expr (argument_wanted names ts) (argument_faulty names ts) one_more olds 0 i news i
    x below e h b broken

-- Pairs

abbrev pub pair_of : Expr × Expr → Tree × Tree
pair_of p = (tree_of p.0, tree_of p.1)

abbrev pub bare_pair : Tree × Tree → Tree × Tree
bare_pair p = (bare_expr p.0, bare_expr p.1)

bare-pairs-as : (ps : List (Expr × Expr)) → bare_pairs (pairs_of ps) ≡ to_pairs (map (λ p. bare_pair (pair_of p)) ps)
bare-pairs-as [] = refl
bare-pairs-as (p ∷ ps) = ap (more_pairs (bare_expr (tree_of p.0)) (bare_expr (tree_of p.1))) (bare-pairs-as ps)

pub pairs-kept : (ps qs : List (Expr × Expr))
    → map (λ p. bare_pair (pair_of p)) ps ≡ map (λ p. bare_pair (pair_of p)) qs
    → bare_pairs (pairs_of ps) ≡ bare_pairs (pairs_of qs)
pairs-kept ps qs same = bare-pairs-as ps ∙ ap to_pairs same ∙ sym (bare-pairs-as qs)

pub pairs-set : (ps : List (Expr × Expr)) (n : ℕ) (p q : Expr × Expr) → slice_get ps n ≡ Some p
    → bare_pair (pair_of q) ≡ bare_pair (pair_of p) → bare_pairs (pairs_of (set ps n q)) ≡ bare_pairs (pairs_of ps)
pairs-set ps n p q e same = pairs-kept (set ps n q) ps (map_set-same (λ z. bare_pair (pair_of z)) ps n p q e same)

pub pairs-first : (ps : List (Expr × Expr)) (n : ℕ) (p q : Expr × Expr) → slice_get ps n ≡ Some p → q.1 ≡ p.1
    → bare_expr (tree_of q.0) ≡ bare_expr (tree_of p.0) → bare_pairs (pairs_of (set ps n q)) ≡ bare_pairs (pairs_of ps)
pairs-first ps n p q e value same = pairs-set ps n p q e (ap (λ (t : Tree). (t, bare_expr (tree_of q.1))) same
    ∙ ap (λ (x : Expr). (bare_expr (tree_of p.0), bare_expr (tree_of x))) value)

pub pairs-second : (ps : List (Expr × Expr)) (n : ℕ) (p q : Expr × Expr) → slice_get ps n ≡ Some p → q.0 ≡ p.0
    → bare_expr (tree_of q.1) ≡ bare_expr (tree_of p.1) → bare_pairs (pairs_of (set ps n q)) ≡ bare_pairs (pairs_of ps)
pairs-second ps n p q e key same = pairs-set ps n p q e (ap (λ (x : Expr). (
  bare_expr (tree_of x),
  bare_expr
      (tree_of q.1),
)) key ∙ ap (λ (t : Tree). (bare_expr (tree_of p.0), t)) same)

module _ (names : Names) where
  abbrev pub pair_wanted : Asked → Expr × Expr → Tree × Tree
  pair_wanted a p = ((judge (tree_of p.0) names Value).tree, (judge (tree_of p.1) names a).tree)

  abbrev pub pair_faulty : Asked → Expr × Expr → Option Broken
  pair_faulty a p = first (judge (tree_of p.0) names Value).broken (judge (tree_of p.1) names a).broken

abbrev pub PairsWalking : Names → List (Expr × Expr) → ℕ → ℕ → Asked → ℕ → List (Expr × Expr) → Type 0
PairsWalking names olds from to asked i news =
    Walking pair_of bare_pair (pair_wanted names) (pair_faulty names) same_asked olds from to asked i news asked

pairs-as : (names : Names) (a : Asked) (ps : List (Expr × Expr)) →
    judge_values (pairs_of ps) names false a ≡ record {
      pairs = to_pairs
          (all_wanted pair_of bare_pair (pair_wanted names) (pair_faulty names) same_asked a ps);
      broken =
          any_faulty pair_of bare_pair (pair_wanted names) (pair_faulty names) same_asked a ps;
    }
pairs-as names a [] = refl
pairs-as names a (p ∷ ps) =
    ap (also_pair (judge (tree_of p.0) names Value) (judge (tree_of p.1) names a)) (pairs-as names a ps)
    ∙ ap (λ w. record {
      pairs = to_pairs (all_wanted pair_of bare_pair (pair_wanted names) (pair_faulty names)
          same_asked a (p ∷ ps));
      broken = w;
    })
    (sym (first-assoc (judge (tree_of p.0) names Value).broken (judge (tree_of p.1) names a).broken
    (any_faulty pair_of bare_pair (pair_wanted names) (pair_faulty names) same_asked a ps)))

pub pairs-none : (names : Names) (olds : List (Expr × Expr)) (from to : ℕ) (a : Asked) → from ≤ length olds
    → PairsWalking names olds from to a from olds
pairs-none names olds from to a within =
    walking-none pair_of bare_pair (pair_wanted names) (pair_faulty names) same_asked olds from to a within

pub pairs-more : (names : Names) (olds : List (Expr × Expr)) (from to : ℕ) (a : Asked) (i : ℕ) (news : List (Expr
    × Expr)) (p q : Expr × Expr) → from ≤ i → i < to → slice_get news i ≡ Some p →
    first (judge (tree_of p.0) names Value).broken (judge (tree_of p.1) names a).broken ≡ None
    → tree_of q.0 ≡ (judge (tree_of p.0) names Value).tree → tree_of q.1 ≡ (judge (tree_of p.1) names a).tree →
    bare_expr (tree_of q.0) ≡ bare_expr (tree_of p.0) → bare_expr (tree_of q.1) ≡ bare_expr (tree_of p.1)
    → PairsWalking names olds from to a i news → PairsWalking names olds from to a (i + 1) (set news i q)
pairs-more names olds from to a i news p q after below e none key value same_key same_value h =
    walking-more pair_of bare_pair (pair_wanted names) (pair_faulty names) same_asked olds from to a i news a p q after
    below e none
    (ap (λ (t : Tree). (t, tree_of q.1)) key ∙ ap (λ (t : Tree). ((judge (tree_of p.0) names Value).tree, t)) value)
    (ap (λ (t : Tree). (t, bare_expr (tree_of q.1))) same_key
    ∙ ap (λ (t : Tree). (bare_expr (tree_of p.0), t)) same_value) h

pub pairs-depth : (names : Names) (μ : Expr × Expr
    → ℕ) (olds : List (Expr × Expr)) (from to : ℕ) (a : Asked) (i : ℕ) (news : List (Expr × Expr)) (p : Expr × Expr)
    → from ≤ i → i < to → slice_get news i ≡ Some p → PairsWalking names olds from to a i news
    → μ p ≤ most μ (between from to olds)
pairs-depth names μ olds from to a i news p after below e h = next_depth pair_of bare_pair (pair_wanted names)
    (pair_faulty names) same_asked μ olds from to a i news a p after below e h

pub pairs-done : (names : Names) (olds : List (Expr × Expr)) (from to : ℕ) (a : Asked) (i : ℕ) (news : List (Expr
    × Expr)) → i ≡ to → PairsWalking names olds from to a i news →
    ((judge_values (pairs_of (between from to olds)) names false a).broken ≡ None)
    × (pairs_of (between from to news) ≡ (judge_values (pairs_of (between from to olds)) names false a).pairs)
pairs-done names olds from to a i news end h =
    let e = pairs-as names a (between from to olds) in (
      ap (λ (j : JudgedPairs). j.broken) e
          ∙ walked-unbroken pair_of bare_pair (pair_wanted names) (pair_faulty names) same_asked olds from to a i news a
          end h,
      ap to_pairs (walked-all pair_of bare_pair (pair_wanted names) (pair_faulty names) same_asked olds from to a i news
          a end h) ∙ sym (ap (λ (j : JudgedPairs). j.pairs) e),
    )

pub pairs-broken : (names : Names) (olds : List (Expr × Expr)) (from to : ℕ) (a : Asked) (i : ℕ) (news : List (Expr
    × Expr)) (p : Expr × Expr) → i < to → slice_get news i ≡ Some p → PairsWalking names olds from to a i news →
    (b : Broken) → first (judge (tree_of p.0) names Value).broken (judge (tree_of p.1) names a).broken ≡ Some b
    → (judge_values (pairs_of (between from to olds)) names false a).broken ≡ Some b
pairs-broken names olds from to a i news p below e h b broken =
    ap (λ (j : JudgedPairs). j.broken) (pairs-as names a (between from to olds))
    ∙ walking-broken pair_of bare_pair (pair_wanted names) (pair_faulty names) same_asked olds from to a i news a p
    below e h b broken
