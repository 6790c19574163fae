-- An expression in which the walk meets no broken node is well typed.
use Rattle.std.proofs.Common.{◌≡◌, ℕ, ◌+◌, Bool, true, false, not, ◌&&◌, List, [], ◌∷◌, Option, Some, None, refl, ap, ap₂, sym, subst, ◌∙◌, is_none, if◌then◌else◌, rules}
use Rattle.bds_value.specs.declared.value.Ty.{Ty}
use Rattle.bds_value.specs.declared.value.Ty.TheVariants as ty
use Rattle.bds_value.specs.declared.value.At.{At}
use Rattle.bds_tree.specs.Tree.{Tree, FormTree, Trees, TreePairs, node, number, text, truth, name, call, group, list, mapping, item, key, method, prefix, binary, choice, dependency, none, more, no_pairs, more_pairs, type_of}
use Rattle.bds_check_names.specs.declared.names.Names.{Names}
use Rattle.bds_check_names.specs.declared.names.Asked.{Asked}
use Rattle.bds_check_names.specs.declared.names.Asked.TheVariants.{Value, This}
use Rattle.bds_check_rules.specs.declared.rules.Rule.{Rule}
use Rattle.bds_check_names.specs.Scopes.{function_named}
use Rattle.bds_check_names.specs.Rows.{row_of}
use Rattle.bds_check_names.specs.Types.{is_known}
use Rattle.bds_check_rules.specs.Breaks.{breaks}
use Rattle.bds_check_rules.specs.Typing.{asked_list_item, asked_map_item, count}
use Rattle.bds_check_typing.specs.Walk.{Broken, Judged, JudgedForm, JudgedTrees, JudgedPairs, first, placed, also, also_pair, judge, judge_form, judge_items, judge_values, judge_arguments, judge_behind, beside, value_beside, asked_beside, items_asked, no_whole, is_open, is_open_form, are_open, are_values_open, parameters_of, taken_by}
use Rattle.bds_check_typing.specs.WellTyped.{asked_among, asked_among_values, unknown_types, IsWellTyped, ArePartsWellTyped, AreArgumentsWellTyped, AreItemsWellTyped, ArePairsWellTyped}

pub first-left : (a b : Option Broken) → first a b ≡ None → a ≡ None
first-left None b q = refl
first-left (Some x) b q = q

pub first-right : (a b : Option Broken) → first a b ≡ None → b ≡ None
first-right None b q = q
first-right (Some x) b q = absurd (search (rules, q))

pub placed-none : (at : At) (r : Option Rule) → placed at r ≡ None → r ≡ None
placed-none at None q = refl
placed-none at (Some r) q = absurd (search (rules, q))

two-parts : (P Q : Type 0) (x y : Option Broken) → (x ≡ None → P) → (y ≡ None → Q) → first x y ≡ None → P × Q
two-parts P Q x y h k q = (h (first-left x y q), k (first-right x y q))

-- Typing leaves open literals open, and others not

trees-open : (b : Bool) (x y : JudgedTrees) (o : Bool) → are_open x.trees ≡ o → are_open y.trees ≡ o → are_open (if b then x else y).trees ≡ o
trees-open true x y o h k = h
trees-open false x y o h k = k

values-open : (b : Bool) (x y : JudgedPairs) (o : Bool) → are_values_open x.pairs ≡ o → are_values_open y.pairs ≡ o → are_values_open (if b then x else y).pairs ≡ o
values-open true x y o h k = h
values-open false x y o h k = k

mutual
  open-kept : (e : Tree) (names : Names) (asked : Asked) → is_open (judge e names asked).tree ≡ is_open e
  open-kept (node at t f) names asked = form-open-kept f names asked

  form-open-kept : (f : FormTree) (names : Names) (asked : Asked) → is_open_form (judge_form f names asked).form ≡ is_open_form f
  form-open-kept (number v) names asked = refl
  form-open-kept (text ps) names asked = refl
  form-open-kept (truth b) names asked = refl
  form-open-kept (name x) names asked = refl
  form-open-kept (call f es) names asked = refl
  form-open-kept (group e) names asked = open-kept e names (no_whole asked)
  form-open-kept (list es) names asked = items-open-kept es names (is_none (asked_list_item asked)) (items_asked (asked_list_item asked) (beside es names asked))
  form-open-kept (mapping ps) names asked = values-open-kept ps names (is_none (asked_map_item asked)) (items_asked (asked_map_item asked) (value_beside ps names asked))
  form-open-kept (item a i) names asked = refl
  form-open-kept (key a k) names asked = refl
  form-open-kept (method a m es) names asked = refl
  form-open-kept (prefix o a) names asked = refl
  form-open-kept (binary a o b) names asked = refl
  form-open-kept (choice c a b) names asked = refl
  form-open-kept (dependency a b) names asked = refl

  items-open-kept : (es : Trees) (names : Names) (lone : Bool) (asked : Asked) → are_open (judge_items es names lone asked).trees ≡ are_open es
  items-open-kept none names lone asked = refl
  items-open-kept (more e es) names lone asked =
      trees-open (lone && not (is_open e)) (also (judge e names Value) (judge_items es names false asked)) (also (judge e names asked) (judge_items es names lone asked)) (is_open e && are_open es)
      (ap₂ (λ x y. x && y) (open-kept e names Value) (items-open-kept es names false asked))
      (ap₂ (λ x y. x && y) (open-kept e names asked) (items-open-kept es names lone asked))

  values-open-kept : (ps : TreePairs) (names : Names) (lone : Bool) (asked : Asked) → are_values_open (judge_values ps names lone asked).pairs ≡ are_values_open ps
  values-open-kept no_pairs names lone asked = refl
  values-open-kept (more_pairs k v ps) names lone asked =
      values-open (lone && not (is_open v)) (also_pair (judge k names Value) (judge v names Value) (judge_values ps names false asked)) (also_pair (judge k names Value) (judge v names asked) (judge_values ps names lone asked)) (is_open v && are_values_open ps)
      (ap₂ (λ x y. x && y) (open-kept v names Value) (values-open-kept ps names false asked))
      (ap₂ (λ x y. x && y) (open-kept v names asked) (values-open-kept ps names lone asked))

-- One more item of a literal, by whether it is open

item-typed : (lone open_here : Bool) (a b : Judged) (xs ys : JudgedTrees) (names : Names) (asked : Asked) → is_open a.tree ≡ open_here → is_open b.tree ≡ open_here →
    (a.broken ≡ None → IsWellTyped a.tree names Value) → (b.broken ≡ None → IsWellTyped b.tree names asked) →
    (xs.broken ≡ None → AreItemsWellTyped xs.trees names false asked) → (ys.broken ≡ None → AreItemsWellTyped ys.trees names lone asked) →
    (if lone && not open_here then also a xs else also b ys).broken ≡ None → AreItemsWellTyped (if lone && not open_here then also a xs else also b ys).trees names lone asked
item-typed true true a b xs ys names asked p r h k l m q =
    subst (λ (o : Bool). IsWellTyped b.tree names (if true && not o then Value else asked) × AreItemsWellTyped ys.trees names (true && o) asked) (sym r) (two-parts (IsWellTyped b.tree names asked) (AreItemsWellTyped ys.trees names true asked) b.broken ys.broken k m q)
item-typed true false a b xs ys names asked p r h k l m q =
    subst (λ (o : Bool). IsWellTyped a.tree names (if true && not o then Value else asked) × AreItemsWellTyped xs.trees names (true && o) asked) (sym p) (two-parts (IsWellTyped a.tree names Value) (AreItemsWellTyped xs.trees names false asked) a.broken xs.broken h l q)
item-typed false open_here a b xs ys names asked p r h k l m q = two-parts (IsWellTyped b.tree names asked) (AreItemsWellTyped ys.trees names false asked) b.broken ys.broken k m q

-- what the items ask of one another, before typing and behind it
among-choice : (open_here : Bool) (a b : Judged) (xs ys : JudgedTrees) (given asked : Asked) → is_open a.tree ≡ open_here → is_open b.tree ≡ open_here → (ys.broken ≡ None → given ≡ asked_among ys.trees asked) →
    (if true && not open_here then also a xs else also b ys).broken ≡ None → (if open_here then given else asked_beside (type_of a.tree) a.broken) ≡ asked_among (if true && not open_here then also a xs else also b ys).trees asked
among-choice true a b xs ys given asked p r h q = h (first-right b.broken ys.broken q) ∙ ap (λ (o : Bool). if o then asked_among ys.trees asked else This (type_of b.tree)) (sym r)
among-choice false a b xs ys given asked p r h q = ap (asked_beside (type_of a.tree)) (first-left a.broken xs.broken q) ∙ ap (λ (o : Bool). if o then asked_among xs.trees asked else This (type_of a.tree)) (sym p)

-- the same of the values of a map

pair-parts : (P Q R : Type 0) (x y z : Option Broken) → (x ≡ None → P) → (y ≡ None → Q) → (z ≡ None → R) → first x (first y z) ≡ None → P × Q × R
pair-parts P Q R x y z f g h q =
    let r : first y z ≡ None = first-right x (first y z) q in
    (f (first-left x (first y z) q), g (first-left y z r), h (first-right y z r))

pair-typed : (lone open_here : Bool) (k a b : Judged) (xs ys : JudgedPairs) (names : Names) (asked : Asked) → is_open a.tree ≡ open_here → is_open b.tree ≡ open_here → (k.broken ≡ None → IsWellTyped k.tree names Value) →
    (a.broken ≡ None → IsWellTyped a.tree names Value) → (b.broken ≡ None → IsWellTyped b.tree names asked) →
    (xs.broken ≡ None → ArePairsWellTyped xs.pairs names false asked) → (ys.broken ≡ None → ArePairsWellTyped ys.pairs names lone asked) →
    (if lone && not open_here then also_pair k a xs else also_pair k b ys).broken ≡ None → ArePairsWellTyped (if lone && not open_here then also_pair k a xs else also_pair k b ys).pairs names lone asked
pair-typed true true k a b xs ys names asked p r f h g l m q =
    subst (λ (o : Bool). IsWellTyped k.tree names Value × IsWellTyped b.tree names (if true && not o then Value else asked) × ArePairsWellTyped ys.pairs names (true && o) asked) (sym r)
    (pair-parts (IsWellTyped k.tree names Value) (IsWellTyped b.tree names asked) (ArePairsWellTyped ys.pairs names true asked) k.broken b.broken ys.broken f g m q)
pair-typed true false k a b xs ys names asked p r f h g l m q =
    subst (λ (o : Bool). IsWellTyped k.tree names Value × IsWellTyped a.tree names (if true && not o then Value else asked) × ArePairsWellTyped xs.pairs names (true && o) asked) (sym p)
    (pair-parts (IsWellTyped k.tree names Value) (IsWellTyped a.tree names Value) (ArePairsWellTyped xs.pairs names false asked) k.broken a.broken xs.broken f h l q)
pair-typed false open_here k a b xs ys names asked p r f h g l m q =
    pair-parts (IsWellTyped k.tree names Value) (IsWellTyped b.tree names asked) (ArePairsWellTyped ys.pairs names false asked) k.broken b.broken ys.broken f g m q

among-values-choice : (open_here : Bool) (k a b : Judged) (xs ys : JudgedPairs) (given asked : Asked) → is_open a.tree ≡ open_here → is_open b.tree ≡ open_here → (ys.broken ≡ None → given ≡ asked_among_values ys.pairs asked) →
    (if true && not open_here then also_pair k a xs else also_pair k b ys).broken ≡ None → (if open_here then given else asked_beside (type_of a.tree) a.broken) ≡ asked_among_values (if true && not open_here then also_pair k a xs else also_pair k b ys).pairs asked
among-values-choice true k a b xs ys given asked p r h q =
    h (first-right b.broken ys.broken (first-right k.broken (first b.broken ys.broken) q)) ∙ ap (λ (o : Bool). if o then asked_among_values ys.pairs asked else This (type_of b.tree)) (sym r)
among-values-choice false k a b xs ys given asked p r h q =
    ap (asked_beside (type_of a.tree)) (first-left a.broken xs.broken (first-right k.broken (first a.broken xs.broken) q)) ∙ ap (λ (o : Bool). if o then asked_among_values xs.pairs asked else This (type_of a.tree)) (sym p)

among : (es : Trees) (names : Names) (asked given : Asked) → (judge_items es names true given).broken ≡ None → beside es names asked ≡ asked_among (judge_items es names true given).trees asked
among none names asked given q = refl
among (more e es) names asked given q =
    among-choice (is_open e) (judge e names Value) (judge e names given) (judge_items es names false given) (judge_items es names true given) (beside es names asked) asked
    (open-kept e names Value) (open-kept e names given) (λ h. among es names asked given h) q

among-values : (ps : TreePairs) (names : Names) (asked given : Asked) → (judge_values ps names true given).broken ≡ None → value_beside ps names asked ≡ asked_among_values (judge_values ps names true given).pairs asked
among-values no_pairs names asked given q = refl
among-values (more_pairs k v ps) names asked given q =
    among-values-choice (is_open v) (judge k names Value) (judge v names Value) (judge v names given) (judge_values ps names false given) (judge_values ps names true given) (value_beside ps names asked) asked
    (open-kept v names Value) (open-kept v names given) (λ h. among-values ps names asked given h) q

-- a literal, by the type that is asked of its items
list-typed : (o : Option Ty) (es : Trees) (names : Names) (asked : Asked) → ((given : Asked) → (judge_items es names (is_none o) given).broken ≡ None → AreItemsWellTyped (judge_items es names (is_none o) given).trees names (is_none o) given) →
    (judge_items es names (is_none o) (items_asked o (beside es names asked))).broken ≡ None →
    AreItemsWellTyped (judge_items es names (is_none o) (items_asked o (beside es names asked))).trees names (is_none o) (items_asked o (asked_among (judge_items es names (is_none o) (items_asked o (beside es names asked))).trees asked))
list-typed None es names asked h q = subst (AreItemsWellTyped (judge_items es names true (beside es names asked)).trees names true) (among es names asked (beside es names asked) q) (h (beside es names asked) q)
list-typed (Some t) es names asked h q = h (This t) q

map-typed : (o : Option Ty) (ps : TreePairs) (names : Names) (asked : Asked) → ((given : Asked) → (judge_values ps names (is_none o) given).broken ≡ None → ArePairsWellTyped (judge_values ps names (is_none o) given).pairs names (is_none o) given) →
    (judge_values ps names (is_none o) (items_asked o (value_beside ps names asked))).broken ≡ None →
    ArePairsWellTyped (judge_values ps names (is_none o) (items_asked o (value_beside ps names asked))).pairs names (is_none o) (items_asked o (asked_among_values (judge_values ps names (is_none o) (items_asked o (value_beside ps names asked))).pairs asked))
map-typed None ps names asked h q = subst (ArePairsWellTyped (judge_values ps names true (value_beside ps names asked)).pairs names true) (among-values ps names asked (value_beside ps names asked) q) (h (value_beside ps names asked) q)
map-typed (Some t) ps names asked h q = h (This t) q

-- Arguments behind a receiver

count-kept : (es : Trees) (names : Names) (ts : List Ty) → count (judge_arguments es names ts).trees ≡ count es
count-kept none names ts = refl
count-kept (more e es) names [] = ap (λ (n : ℕ). n + 1) (count-kept es names [])
count-kept (more e es) names (t ∷ ts) = ap (λ (n : ℕ). n + 1) (count-kept es names ts)

behind-typed : (known : Bool) (t : Ty) (m : List ℕ) (names : Names) (xs ys : JudgedTrees) → (xs.broken ≡ None → AreArgumentsWellTyped xs.trees names (taken_by (row_of t m (count xs.trees)))) → (ys.broken ≡ None → AreArgumentsWellTyped ys.trees names (unknown_types ys.trees)) →
    (if known then xs else ys).broken ≡ None → AreArgumentsWellTyped (if known then xs else ys).trees names (if known then taken_by (row_of t m (count (if known then xs else ys).trees)) else unknown_types (if known then xs else ys).trees)
behind-typed true t m names xs ys h k q = h q
behind-typed false t m names xs ys h k q = k q

mutual
  pub well-typed : (e : Tree) (names : Names) (asked : Asked) → (judge e names asked).broken ≡ None → IsWellTyped (judge e names asked).tree names asked
  well-typed (node at t f) names asked q =
      let j : JudgedForm = judge_form f names asked in
      (refl, placed-none at (breaks names asked j.form) (first-right j.broken (placed at (breaks names asked j.form)) q), well-typed-parts f names asked (first-left j.broken (placed at (breaks names asked j.form)) q))

  pub well-typed-parts : (f : FormTree) (names : Names) (asked : Asked) → (judge_form f names asked).broken ≡ None → ArePartsWellTyped (judge_form f names asked).form names asked
  well-typed-parts (number v) names asked q = tt
  well-typed-parts (text ps) names asked q = tt
  well-typed-parts (truth b) names asked q = tt
  well-typed-parts (name x) names asked q = tt
  well-typed-parts (call f es) names asked q = well-typed-arguments es names (parameters_of (function_named f names.functions)) q
  well-typed-parts (group e) names asked q = well-typed e names (no_whole asked) q
  well-typed-parts (list es) names asked q = list-typed (asked_list_item asked) es names asked (λ given h. well-typed-items es names (is_none (asked_list_item asked)) given h) q
  well-typed-parts (mapping ps) names asked q = map-typed (asked_map_item asked) ps names asked (λ given h. well-typed-pairs ps names (is_none (asked_map_item asked)) given h) q
  well-typed-parts (item a i) names asked q = two-parts (IsWellTyped (judge a names Value).tree names Value) (IsWellTyped (judge i names Value).tree names Value) (judge a names Value).broken (judge i names Value).broken (λ h. well-typed a names Value h) (λ h. well-typed i names Value h) q
  well-typed-parts (key a k) names asked q = two-parts (IsWellTyped (judge a names Value).tree names Value) (IsWellTyped (judge k names Value).tree names Value) (judge a names Value).broken (judge k names Value).broken (λ h. well-typed a names Value h) (λ h. well-typed k names Value h) q
  well-typed-parts (method a m es) names asked q =
      let j : Judged = judge a names Value in
      let t : Ty = type_of j.tree in
      let ts : List Ty = taken_by (row_of t m (count es)) in (
        well-typed a names Value (first-left j.broken (judge_behind es names t m).broken q),
        behind-typed (is_known t) t m names (judge_arguments es names ts) (judge_items es names false (This ty.Void))
            (λ h. subst (λ (n : ℕ). AreArgumentsWellTyped (judge_arguments es names ts).trees names (taken_by (row_of t m n))) (sym (count-kept es names ts)) (well-typed-arguments es names ts h))
            (λ h. well-typed-unknown es names h) (first-right j.broken (judge_behind es names t m).broken q),
      )
  well-typed-parts (prefix o a) names asked q = well-typed a names Value q
  well-typed-parts (binary a o b) names asked q = two-parts (IsWellTyped (judge a names Value).tree names Value) (IsWellTyped (judge b names Value).tree names Value) (judge a names Value).broken (judge b names Value).broken (λ h. well-typed a names Value h) (λ h. well-typed b names Value h) q
  well-typed-parts (choice c a b) names asked q =
      pair-parts (IsWellTyped (judge c names Value).tree names Value) (IsWellTyped (judge a names Value).tree names Value) (IsWellTyped (judge b names Value).tree names Value) (judge c names Value).broken (judge a names Value).broken (judge b names Value).broken
      (λ h. well-typed c names Value h) (λ h. well-typed a names Value h) (λ h. well-typed b names Value h) q
  well-typed-parts (dependency a b) names asked q = two-parts (IsWellTyped (judge a names Value).tree names Value) (IsWellTyped (judge b names Value).tree names Value) (judge a names Value).broken (judge b names Value).broken (λ h. well-typed a names Value h) (λ h. well-typed b names Value h) q

  pub well-typed-arguments : (es : Trees) (names : Names) (ts : List Ty) → (judge_arguments es names ts).broken ≡ None → AreArgumentsWellTyped (judge_arguments es names ts).trees names ts
  well-typed-arguments none names ts q = tt
  well-typed-arguments (more e es) names [] q = (
    well-typed e names Value (first-left (judge e names Value).broken (judge_arguments es names []).broken q),
    well-typed-arguments es names [] (first-right (judge e names Value).broken (judge_arguments es names []).broken q),
  )
  well-typed-arguments (more e es) names (t ∷ ts) q = (
    well-typed e names (This t) (first-left (judge e names (This t)).broken (judge_arguments es names ts).broken q),
    well-typed-arguments es names ts (first-right (judge e names (This t)).broken (judge_arguments es names ts).broken q),
  )

  -- behind a receiver whose type isn't known
  well-typed-unknown : (es : Trees) (names : Names) → (judge_items es names false (This ty.Void)).broken ≡ None → AreArgumentsWellTyped (judge_items es names false (This ty.Void)).trees names (unknown_types (judge_items es names false (This ty.Void)).trees)
  well-typed-unknown none names q = tt
  well-typed-unknown (more e es) names q = (
    well-typed e names (This ty.Void) (first-left (judge e names (This ty.Void)).broken (judge_items es names false (This ty.Void)).broken q),
    well-typed-unknown es names (first-right (judge e names (This ty.Void)).broken (judge_items es names false (This ty.Void)).broken q),
  )

  well-typed-items : (es : Trees) (names : Names) (lone : Bool) (asked : Asked) → (judge_items es names lone asked).broken ≡ None → AreItemsWellTyped (judge_items es names lone asked).trees names lone asked
  well-typed-items none names lone asked q = tt
  well-typed-items (more e es) names lone asked q =
      item-typed lone (is_open e) (judge e names Value) (judge e names asked) (judge_items es names false asked) (judge_items es names lone asked) names asked (open-kept e names Value) (open-kept e names asked)
      (λ h. well-typed e names Value h) (λ h. well-typed e names asked h) (λ h. well-typed-items es names false asked h) (λ h. well-typed-items es names lone asked h) q

  well-typed-pairs : (ps : TreePairs) (names : Names) (lone : Bool) (asked : Asked) → (judge_values ps names lone asked).broken ≡ None → ArePairsWellTyped (judge_values ps names lone asked).pairs names lone asked
  well-typed-pairs no_pairs names lone asked q = tt
  well-typed-pairs (more_pairs k v ps) names lone asked q =
      pair-typed lone (is_open v) (judge k names Value) (judge v names Value) (judge v names asked) (judge_values ps names false asked) (judge_values ps names lone asked) names asked (open-kept v names Value) (open-kept v names asked)
      (λ h. well-typed k names Value h) (λ h. well-typed v names Value h) (λ h. well-typed v names asked h) (λ h. well-typed-pairs ps names false asked h) (λ h. well-typed-pairs ps names lone asked h) q
