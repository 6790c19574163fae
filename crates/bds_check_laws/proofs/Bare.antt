-- The walk looks at no type that an expression has already: expressions.
use Rattle.std.proofs.Common.{◌≡◌, ℕ, ◌+◌, Bool, false, not, ◌&&◌, List, [], ◌∷◌, is_none, refl, ap, ap₂, ◌∙◌, if◌then◌else◌}
use Rattle.bds_value.specs.declared.value.Ty.{Ty}
use Rattle.bds_value.specs.declared.value.Ty.TheVariants as ty
use Rattle.bds_tree.specs.Tree.{Tree, FormTree, Trees, TreePairs, node, number, text, truth, name, call, group, list, mapping, item, key, method, prefix, binary, choice, dependency, none, more, no_pairs, more_pairs, type_of}
use Rattle.bds_check_names.specs.declared.names.Names.{Names}
use Rattle.bds_check_names.specs.declared.names.Asked.{Asked}
use Rattle.bds_check_names.specs.declared.names.Asked.TheVariants.{Value, This}
use Rattle.bds_check_names.specs.Types.{is_known}
use Rattle.bds_check_names.specs.Scopes.{function_named}
use Rattle.bds_check_names.specs.Rows.{row_of}
use Rattle.bds_check_rules.specs.Typing.{asked_list_item, asked_map_item, count}
use Rattle.bds_check_typing.specs.Walk.{Judged, JudgedTrees, close, with_one, with_two, with_three, with_all, with_pairs, with_receiver, also, also_pair, judge, judge_form, judge_arguments, judge_items, judge_values, beside, value_beside, asked_beside, items_asked, is_open, is_open_form, are_open, are_values_open, no_whole, parameters_of, taken_by}
use Rattle.bds_check_typing.proofs.AcceptedValues.{three}
use Rattle.bds_check_typing.specs.Remade.{remade_expr, remade_form, remade_exprs, remade_pairs}
use Rattle.bds_check_laws.specs.TypedAs.{kept_at, no_type}

-- without its types
abbrev pub bare_expr : Tree → Tree
bare_expr = remade_expr kept_at no_type

abbrev pub bare_form : FormTree → FormTree
bare_form = remade_form kept_at no_type

abbrev pub bare_exprs : Trees → Trees
bare_exprs = remade_exprs kept_at no_type

abbrev pub bare_pairs : TreePairs → TreePairs
bare_pairs = remade_pairs kept_at no_type

mutual
  open-bare : (e : Tree) → is_open (bare_expr e) ≡ is_open e
  open-bare (node at t f) = form-open-bare f

  form-open-bare : (f : FormTree) → is_open_form (bare_form f) ≡ is_open_form f
  form-open-bare (number v) = refl
  form-open-bare (text ps) = refl
  form-open-bare (truth b) = refl
  form-open-bare (name x) = refl
  form-open-bare (call f es) = refl
  form-open-bare (group e) = open-bare e
  form-open-bare (list es) = items-open-bare es
  form-open-bare (mapping ps) = values-open-bare ps
  form-open-bare (item a i) = refl
  form-open-bare (key a k) = refl
  form-open-bare (method a m es) = refl
  form-open-bare (prefix o a) = refl
  form-open-bare (binary a o b) = refl
  form-open-bare (choice c a b) = refl
  form-open-bare (dependency a b) = refl

  items-open-bare : (es : Trees) → are_open (bare_exprs es) ≡ are_open es
  items-open-bare none = refl
  items-open-bare (more e es) = ap₂ (λ (b c : Bool). b && c) (open-bare e) (items-open-bare es)

  values-open-bare : (ps : TreePairs) → are_values_open (bare_pairs ps) ≡ are_values_open ps
  values-open-bare no_pairs = refl
  values-open-bare (more_pairs k v ps) = ap₂ (λ (b c : Bool). b && c) (open-bare v) (values-open-bare ps)

count-bare : (es : Trees) → count (bare_exprs es) ≡ count es
count-bare none = refl
count-bare (more e es) = ap (λ (n : ℕ). n + 1) (count-bare es)

module _ (names : Names) where
  -- one of two walks, by whether the first item is open
  items-choice : {J : Type 0} (lone o p : Bool) (a b x y : J) → o ≡ p → a ≡ x → b ≡ y → (if lone && not o then a else b) ≡ (if lone && not p then x else y)
  items-choice lone o p a b x y e h k = ap (λ (c : Bool). if lone && not c then a else b) e ∙ ap₂ (λ c d. if lone && not p then c else d) h k

  open-choice : (o p : Bool) (a b x y : Asked) → o ≡ p → a ≡ x → b ≡ y → (if o then a else b) ≡ (if p then x else y)
  open-choice o p a b x y e h k = ap (λ (c : Bool). if c then a else b) e ∙ ap₂ (λ (c d : Asked). if p then c else d) h k

  mutual
    pub expr-bare : (e : Tree) (asked : Asked) → judge (bare_expr e) names asked ≡ judge e names asked
    expr-bare (node at t f) asked = ap (close at names asked) (form-bare f asked)

    pub form-bare : (f : FormTree) (asked : Asked) → judge_form (bare_form f) names asked ≡ judge_form f names asked
    form-bare (number v) asked = refl
    form-bare (text ps) asked = refl
    form-bare (truth b) asked = refl
    form-bare (name x) asked = refl
    form-bare (call f es) asked = ap (with_all (call f)) (arguments-bare es (parameters_of (function_named f names.functions)))
    form-bare (group e) asked = ap (with_one group) (expr-bare e (no_whole asked))
    form-bare (list es) asked =
        let lone : Bool = is_none (asked_list_item asked) in
        ap (λ (a : Asked). with_all list (judge_items (bare_exprs es) names lone (items_asked (asked_list_item asked) a))) (beside-bare es asked)
        ∙ ap (with_all list) (items-bare es lone (items_asked (asked_list_item asked) (beside es names asked)))
    form-bare (mapping ps) asked =
        let lone : Bool = is_none (asked_map_item asked) in
        ap (λ (a : Asked). with_pairs (judge_values (bare_pairs ps) names lone (items_asked (asked_map_item asked) a))) (value-beside-bare ps asked)
        ∙ ap with_pairs (values-bare ps lone (items_asked (asked_map_item asked) (value_beside ps names asked)))
    form-bare (item a i) asked = ap₂ (with_two item) (expr-bare a Value) (expr-bare i Value)
    form-bare (key a k) asked = ap₂ (with_two key) (expr-bare a Value) (expr-bare k Value)
    form-bare (method a m es) asked =
        let j : Judged = judge a names Value in
        let t : Ty = type_of j.tree in
        let others : JudgedTrees = judge_items (bare_exprs es) names false (This ty.Void) in
        ap (λ (r : Judged). with_receiver m r (if is_known (type_of r.tree) then judge_arguments (bare_exprs es) names (taken_by (row_of (type_of r.tree) m (count (bare_exprs es)))) else others)) (expr-bare a Value)
        ∙ ap (λ (n : ℕ). with_receiver m j (if is_known t then judge_arguments (bare_exprs es) names (taken_by (row_of t m n)) else others)) (count-bare es)
        ∙ ap₂ (λ (x y : JudgedTrees). with_receiver m j (if is_known t then x else y)) (arguments-bare es (taken_by (row_of t m (count es)))) (items-bare es false (This ty.Void))
    form-bare (prefix o a) asked = ap (with_one (prefix o)) (expr-bare a Value)
    form-bare (binary a o b) asked = ap₂ (with_two (λ x y. binary x o y)) (expr-bare a Value) (expr-bare b Value)
    form-bare (choice c a b) asked = three (with_three choice) (expr-bare c Value) (expr-bare a Value) (expr-bare b Value)
    form-bare (dependency a b) asked = ap₂ (with_two dependency) (expr-bare a Value) (expr-bare b Value)

    pub arguments-bare : (es : Trees) (ts : List Ty) → judge_arguments (bare_exprs es) names ts ≡ judge_arguments es names ts
    arguments-bare none ts = refl
    arguments-bare (more e es) [] = ap₂ also (expr-bare e Value) (arguments-bare es [])
    arguments-bare (more e es) (t ∷ ts) = ap₂ also (expr-bare e (This t)) (arguments-bare es ts)

    items-bare : (es : Trees) (lone : Bool) (asked : Asked) → judge_items (bare_exprs es) names lone asked ≡ judge_items es names lone asked
    items-bare none lone asked = refl
    items-bare (more e es) lone asked =
        items-choice lone (is_open (bare_expr e)) (is_open e)
        (also (judge (bare_expr e) names Value) (judge_items (bare_exprs es) names false asked)) (also (judge (bare_expr e) names asked) (judge_items (bare_exprs es) names lone asked))
        (also (judge e names Value) (judge_items es names false asked)) (also (judge e names asked) (judge_items es names lone asked))
        (open-bare e) (ap₂ also (expr-bare e Value) (items-bare es false asked)) (ap₂ also (expr-bare e asked) (items-bare es lone asked))

    beside-bare : (es : Trees) (asked : Asked) → beside (bare_exprs es) names asked ≡ beside es names asked
    beside-bare none asked = refl
    beside-bare (more e es) asked =
        open-choice (is_open (bare_expr e)) (is_open e)
        (beside (bare_exprs es) names asked) (asked_beside (type_of (judge (bare_expr e) names Value).tree) (judge (bare_expr e) names Value).broken)
        (beside es names asked) (asked_beside (type_of (judge e names Value).tree) (judge e names Value).broken)
        (open-bare e) (beside-bare es asked) (ap (λ (j : Judged). asked_beside (type_of j.tree) j.broken) (expr-bare e Value))

    values-bare : (ps : TreePairs) (lone : Bool) (asked : Asked) → judge_values (bare_pairs ps) names lone asked ≡ judge_values ps names lone asked
    values-bare no_pairs lone asked = refl
    values-bare (more_pairs k v ps) lone asked =
        items-choice lone (is_open (bare_expr v)) (is_open v)
        (also_pair (judge (bare_expr k) names Value) (judge (bare_expr v) names Value) (judge_values (bare_pairs ps) names false asked))
        (also_pair (judge (bare_expr k) names Value) (judge (bare_expr v) names asked) (judge_values (bare_pairs ps) names lone asked))
        (also_pair (judge k names Value) (judge v names Value) (judge_values ps names false asked)) (also_pair (judge k names Value) (judge v names asked) (judge_values ps names lone asked))
        (open-bare v) (three also_pair (expr-bare k Value) (expr-bare v Value) (values-bare ps false asked)) (three also_pair (expr-bare k Value) (expr-bare v asked) (values-bare ps lone asked))

    value-beside-bare : (ps : TreePairs) (asked : Asked) → value_beside (bare_pairs ps) names asked ≡ value_beside ps names asked
    value-beside-bare no_pairs asked = refl
    value-beside-bare (more_pairs k v ps) asked =
        open-choice (is_open (bare_expr v)) (is_open v)
        (value_beside (bare_pairs ps) names asked) (asked_beside (type_of (judge (bare_expr v) names Value).tree) (judge (bare_expr v) names Value).broken)
        (value_beside ps names asked) (asked_beside (type_of (judge v names Value).tree) (judge v names Value).broken)
        (open-bare v) (value-beside-bare ps asked) (ap (λ (j : Judged). asked_beside (type_of j.tree) j.broken) (expr-bare v Value))
