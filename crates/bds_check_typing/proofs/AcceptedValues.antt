-- A well-typed expression is judged as it stands: the walk meets no broken node, and leaves it as it is.
use Rattle.std.proofs.Common.{◌≡◌, Bool, true, false, not, ◌&&◌, List, [], ◌∷◌, Option, Some, None, is_none, refl, ap, ap₂, sym, ◌∙◌, if◌then◌else◌}
use Rattle.bds_value.specs.declared.value.Ty.{Ty}
use Rattle.bds_value.specs.declared.value.Ty.TheVariants as ty
use Rattle.bds_tree.specs.Tree.{Tree, FormTree, Trees, TreePairs, node, number, text, truth, name, call, group, list, mapping, item, key, method, prefix, binary, choice, dependency, none, more, no_pairs, more_pairs, type_of}
use Rattle.bds_check_names.specs.declared.names.Names.{Names}
use Rattle.bds_check_names.specs.declared.names.Asked.{Asked}
use Rattle.bds_check_names.specs.declared.names.Asked.TheVariants.{Value, This}
use Rattle.bds_check_rules.specs.declared.rules.Rule.{Rule}
use Rattle.bds_check_names.specs.Types.{is_known}
use Rattle.bds_check_names.specs.Scopes.{function_named}
use Rattle.bds_check_names.specs.Rows.{row_of}
use Rattle.bds_check_rules.specs.Typing.{asked_list_item, asked_map_item, count}
use Rattle.bds_check_typing.specs.Walk.{Judged, JudgedForm, JudgedTrees, JudgedPairs, placed, close, with_one, with_two, with_three, with_all, with_pairs, with_receiver, also, also_pair, is_open, no_whole, items_asked, asked_beside, parameters_of, taken_by, judge, judge_form, judge_arguments, judge_items, beside, judge_values, value_beside}
use Rattle.bds_check_typing.specs.WellTyped.{asked_among, asked_among_values, unknown_types, IsWellTyped, ArePartsWellTyped, AreArgumentsWellTyped, AreItemsWellTyped, ArePairsWellTyped}

-- judged as they stand
abbrev pub whole : Tree → Judged
whole e = record { tree = e; broken = None }

abbrev pub whole_form : FormTree → JudgedForm
whole_form f = record { form = f; broken = None }

abbrev whole_trees : Trees → JudgedTrees
whole_trees es = record { trees = es; broken = None }

abbrev whole_pairs : TreePairs → JudgedPairs
whole_pairs ps = record { pairs = ps; broken = None }

pub three : {A B C D : Type 0} {a x : A} {b y : B} {c z : C} → (f : A → B → C → D) → a ≡ x → b ≡ y → c ≡ z → f a b c ≡ f x y z
three {x = x} {b = b} {c = c} f p q r = ap (λ w. f w b c) p ∙ ap₂ (f x) q r

module _ (names : Names) where
  item-step : (e : Tree) (es : Trees) (asked : Asked) (lone o : Bool) → IsWellTyped e names (if lone && not o then Value else asked) → AreItemsWellTyped es names (lone && o) asked →
      ((a : Asked) → IsWellTyped e names a → judge e names a ≡ whole e) → ((l : Bool) → AreItemsWellTyped es names l asked → judge_items es names l asked ≡ whole_trees es) →
      (if lone && not o then also (judge e names Value) (judge_items es names false asked) else also (judge e names asked) (judge_items es names lone asked)) ≡ whole_trees (more e es)
  item-step e es asked true true w v h k = ap₂ also (h asked w) (k true v)
  item-step e es asked true false w v h k = ap₂ also (h Value w) (k false v)
  item-step e es asked false o w v h k = ap₂ also (h asked w) (k false v)

  pair-step : (x e : Tree) (ps : TreePairs) (asked : Asked) (lone o : Bool) → judge x names Value ≡ whole x → IsWellTyped e names (if lone && not o then Value else asked) → ArePairsWellTyped ps names (lone && o) asked →
      ((a : Asked) → IsWellTyped e names a → judge e names a ≡ whole e) → ((l : Bool) → ArePairsWellTyped ps names l asked → judge_values ps names l asked ≡ whole_pairs ps) →
      (if lone && not o then also_pair (judge x names Value) (judge e names Value) (judge_values ps names false asked) else also_pair (judge x names Value) (judge e names asked) (judge_values ps names lone asked)) ≡ whole_pairs (more_pairs x e ps)
  pair-step x e ps asked true true q w v h k = three also_pair q (h asked w) (k true v)
  pair-step x e ps asked true false q w v h k = three also_pair q (h Value w) (k false v)
  pair-step x e ps asked false o q w v h k = three also_pair q (h asked w) (k false v)

  -- what items ask of one another, by whether the first of them is open
  beside-step : (e : Tree) (rest among given : Asked) (o : Bool) (Others : Bool → Type 0) → IsWellTyped e names (if true && not o then Value else given) → Others (true && o) →
      (IsWellTyped e names Value → judge e names Value ≡ whole e) → (Others true → rest ≡ among) →
      (if o then rest else asked_beside (type_of (judge e names Value).tree) (judge e names Value).broken) ≡ (if o then among else This (type_of e))
  beside-step e rest among given true Others w v h k = k v
  beside-step e rest among given false Others w v h k = ap (λ (j : Judged). asked_beside (type_of j.tree) j.broken) (h w)

  behind-step : (b : Bool) (es : Trees) (ts : List Ty) → AreArgumentsWellTyped es names (if b then ts else unknown_types es) → (AreArgumentsWellTyped es names ts → judge_arguments es names ts ≡ whole_trees es) →
      (AreArgumentsWellTyped es names (unknown_types es) → judge_items es names false (This ty.Void) ≡ whole_trees es) → (if b then judge_arguments es names ts else judge_items es names false (This ty.Void)) ≡ whole_trees es
  behind-step true es ts w h k = h w
  behind-step false es ts w h k = k w

  -- a literal, by the type that is asked of its items
  literal-step : {J : Type 0} (o : Option Ty) (found among : Asked) (AreTyped : Bool → Asked → Type 0) (judged : Bool → Asked → J) (j : J) → AreTyped (is_none o) (items_asked o among) →
      (AreTyped true among → found ≡ among) → ((lone : Bool) (asked : Asked) → AreTyped lone asked → judged lone asked ≡ j) → judged (is_none o) (items_asked o found) ≡ j
  literal-step None found among AreTyped judged j w h k = ap (judged true) (h w) ∙ k true among w
  literal-step (Some t) found among AreTyped judged j w h k = k false (This t) w

  mutual
    pub judged-whole : (e : Tree) (asked : Asked) → IsWellTyped e names asked → judge e names asked ≡ whole e
    judged-whole (node at t f) asked w =
        ap (close at names asked) (form-whole f asked w.2) ∙ ap₂ (λ (u : Ty) (r : Option Rule). record { tree = node at u f; broken = placed at r }) (sym w.0) w.1

    pub form-whole : (f : FormTree) (asked : Asked) → ArePartsWellTyped f names asked → judge_form f names asked ≡ whole_form f
    form-whole (number v) asked w = refl
    form-whole (text ps) asked w = refl
    form-whole (truth b) asked w = refl
    form-whole (name x) asked w = refl
    form-whole (call f es) asked w = ap (with_all (call f)) (arguments-whole es (parameters_of (function_named f names.functions)) w)
    form-whole (group e) asked w = ap (with_one group) (judged-whole e (no_whole asked) w)
    form-whole (list es) asked w =
        ap (with_all list) (literal-step (asked_list_item asked) (beside es names asked) (asked_among es asked) (AreItemsWellTyped es names) (judge_items es names) (whole_trees es) w
        (λ v. beside-whole es asked (asked_among es asked) v) (λ lone given v. items-whole es lone given v))
    form-whole (mapping ps) asked w =
        ap with_pairs (literal-step (asked_map_item asked) (value_beside ps names asked) (asked_among_values ps asked) (ArePairsWellTyped ps names) (judge_values ps names) (whole_pairs ps) w
        (λ v. value-beside-whole ps asked (asked_among_values ps asked) v) (λ lone given v. pairs-whole ps lone given v))
    form-whole (item a i) asked w = ap₂ (with_two item) (judged-whole a Value w.0) (judged-whole i Value w.1)
    form-whole (key a k) asked w = ap₂ (with_two key) (judged-whole a Value w.0) (judged-whole k Value w.1)
    form-whole (method a m es) asked w =
        ap (λ (j : Judged). with_receiver m j (if is_known (type_of j.tree) then judge_arguments es names (taken_by (row_of (type_of j.tree) m (count es))) else judge_items es names false (This ty.Void))) (judged-whole a Value w.0)
        ∙ ap (with_receiver m (whole a)) (behind-step (is_known (type_of a)) es (taken_by (row_of (type_of a) m (count es))) w.1
        (λ v. arguments-whole es (taken_by (row_of (type_of a) m (count es))) v) (λ v. unknown-whole es v))
    form-whole (prefix o a) asked w = ap (with_one (prefix o)) (judged-whole a Value w)
    form-whole (binary a o b) asked w = ap₂ (with_two (λ x y. binary x o y)) (judged-whole a Value w.0) (judged-whole b Value w.1)
    form-whole (choice c a b) asked w = three (with_three choice) (judged-whole c Value w.0) (judged-whole a Value w.1) (judged-whole b Value w.2)
    form-whole (dependency a b) asked w = ap₂ (with_two dependency) (judged-whole a Value w.0) (judged-whole b Value w.1)

    pub arguments-whole : (es : Trees) (ts : List Ty) → AreArgumentsWellTyped es names ts → judge_arguments es names ts ≡ whole_trees es
    arguments-whole none ts w = refl
    arguments-whole (more e es) [] w = ap₂ also (judged-whole e Value w.0) (arguments-whole es [] w.1)
    arguments-whole (more e es) (t ∷ ts) w = ap₂ also (judged-whole e (This t) w.0) (arguments-whole es ts w.1)

    unknown-whole : (es : Trees) → AreArgumentsWellTyped es names (unknown_types es) → judge_items es names false (This ty.Void) ≡ whole_trees es
    unknown-whole none w = refl
    unknown-whole (more e es) w = ap₂ also (judged-whole e (This ty.Void) w.0) (unknown-whole es w.1)

    items-whole : (es : Trees) (lone : Bool) (asked : Asked) → AreItemsWellTyped es names lone asked → judge_items es names lone asked ≡ whole_trees es
    items-whole none lone asked w = refl
    items-whole (more e es) lone asked w = item-step e es asked lone (is_open e) w.0 w.1 (λ a v. judged-whole e a v) (λ l v. items-whole es l asked v)

    pairs-whole : (ps : TreePairs) (lone : Bool) (asked : Asked) → ArePairsWellTyped ps names lone asked → judge_values ps names lone asked ≡ whole_pairs ps
    pairs-whole no_pairs lone asked w = refl
    pairs-whole (more_pairs x e ps) lone asked w = pair-step x e ps asked lone (is_open e) (judged-whole x Value w.0) w.1 w.2 (λ a v. judged-whole e a v) (λ l v. pairs-whole ps l asked v)

    beside-whole : (es : Trees) (asked given : Asked) → AreItemsWellTyped es names true given → beside es names asked ≡ asked_among es asked
    beside-whole none asked given w = refl
    beside-whole (more e es) asked given w =
        beside-step e (beside es names asked) (asked_among es asked) given (is_open e) (λ l. AreItemsWellTyped es names l given) w.0 w.1 (λ v. judged-whole e Value v) (λ v. beside-whole es asked given v)

    value-beside-whole : (ps : TreePairs) (asked given : Asked) → ArePairsWellTyped ps names true given → value_beside ps names asked ≡ asked_among_values ps asked
    value-beside-whole no_pairs asked given w = refl
    value-beside-whole (more_pairs x e ps) asked given w =
        beside-step e (value_beside ps names asked) (asked_among_values ps asked) given (is_open e) (λ l. ArePairsWellTyped ps names l given) w.1 w.2 (λ v. judged-whole e Value v) (λ v. value-beside-whole ps asked given v)
