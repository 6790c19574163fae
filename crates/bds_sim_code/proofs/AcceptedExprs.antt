-- Accepted expressions have what their terms ask: each name is in force, each function is there, and each part has a value.
use Rattle.std.proofs.Common.{◌≡◌, ℕ, List, [], ◌∷◌, ◌++◌, Option, Some, None, is_some, Bool, true, false, not, ◌&&◌, refl, sym, ◌∙◌, ap, subst, rules, if◌then◌else◌}
use Rattle.std.specs.Prelude.{is_none}
use Rattle.bds_value.specs.declared.methods.Method.{Method}
use Rattle.bds_value.specs.declared.methods.Method.TheVariants as by
use Rattle.bds_value.specs.declared.value.Ty.{Ty}
use Rattle.bds_value.specs.Fields.{is_solid}
use Rattle.bds_value.specs.Methods.{signature_of}
use Rattle.bds_value.specs.Types.{list_item, map_item}
use Rattle.bds_tree.specs.declared.token.Index.TheVariants as index
use Rattle.bds_tree.specs.declared.token.KeyName.TheVariants as key_of
use Rattle.bds_tree.specs.declared.token.Piece.{Piece}
use Rattle.bds_tree.specs.declared.token.Piece.TheVariants as piece
use Rattle.bds_tree.specs.Tree.{Tree, FormTree, Trees, TreePairs, node, number, text, truth, name, call, group, list, mapping, item, key, method, prefix, binary, choice, dependency, none, more, no_pairs, more_pairs, type_of}
use Rattle.bds_code.specs.declared.unit.Unit.{Unit as CodeUnit}
use Rattle.bds_check_names.specs.declared.names.Asked.{Asked}
use Rattle.bds_check_names.specs.declared.names.Asked.TheVariants.{Value, This}
use Rattle.bds_check_names.specs.declared.names.Head.{Head}
use Rattle.bds_check_names.specs.declared.names.Names.{Names as Checked}
use Rattle.bds_check_names.specs.declared.piece_kinds.PieceKind.{PieceKind}
use Rattle.bds_check_names.specs.declared.piece_kinds.PieceKind.TheVariants as kind
use Rattle.bds_check_names.specs.declared.rows.Row.{Row}
use Rattle.bds_check_names.specs.PieceKinds.{if_in_force, if_list, if_map}
use Rattle.bds_check_names.specs.Rows.{row_of}
use Rattle.bds_check_names.specs.Scopes.{found, function_named, is_missing, is_value, type_named}
use Rattle.bds_check_names.specs.Types.{is_known, or_void}
use Rattle.bds_check_rules.specs.declared.rules.Rule.TheVariants as rule
use Rattle.bds_check_rules.specs.Breaks.{breaks, call_rule, method_rule, name_rule}
use Rattle.bds_check_rules.specs.Typing.{asked_list_item, asked_map_item, count, given_by, result_of, type_at}
use Rattle.bds_check_size.specs.Parts.{Part, parts_by, piece_parts, parts_of}
use Rattle.bds_check_typing.specs.Walk.{is_open, items_asked, no_whole, parameters_of}
use Rattle.bds_check_typing.specs.WellTyped.{asked_among, asked_among_values, asked_of_item, taken_behind, IsWellTyped, ArePartsWellTyped, AreArgumentsWellTyped, AreItemsWellTyped, ArePairsWellTyped}
use Rattle.bds_check_typing.specs.Known.{IsValueWritten, ArePartsWritten, AreValuesWritten, ArePairsWritten}
use Rattle.bds_check_typing.proofs.Written.{written-known}
use Rattle.bds_gen_expr.specs.declared.scope.Scope.{Scope}
use Rattle.bds_gen_expr.specs.Scope.{types_in}
use Rattle.bds_gen_flow.proofs.ExprParts.{among-value, among-values-value, called, found-is, grouped, items-value, or-deep-none, value-choice, when-none, written-type}
use Rattle.bds_gen_flow.proofs.MethodFlow.{change-refused}
use Rattle.bds_sim_terms.specs.steps.Stands.{Source, results}
use Rattle.bds_sim_code.proofs.InForce.{InForce, same-type}
use Rattle.bds_sim_code.specs.Here.{IsOne, Callable, PartsKnown, FileGives, MethodGives, Here, HereForm, AllHere, PairsHere}
use Rattle.bds_sim_code.proofs.AcceptedMethods.{one-value, change-said, no-method, method-counted}

pub one-type : (e : Tree) → IsValueWritten e → IsOne (type_of e)
one-type (node at t f) k = one-value t k.0

module _ (o : Source) (u : CodeUnit) (names : Checked) (sc : Scope) where
  -- Texts: a variable that is shown is in force

  parts-joined : (ps qs : List Part) → PartsKnown o u names sc ps → PartsKnown o u names sc qs → PartsKnown o u names sc (ps ++ qs)
  parts-joined [] qs h k = k
  parts-joined (p ∷ ps) qs h k = (h.0, parts-joined ps qs h.1 k)

  kind-choice : (b : Bool) (k l : PieceKind) (p : Piece) → (b ≡ true → PartsKnown o u names sc (parts_by k p)) → PartsKnown o u names sc (parts_by l p) → PartsKnown o u names sc (parts_by (if b then k else l) p)
  kind-choice true k l p h g = h refl
  kind-choice false k l p h g = g

  abbrev types : List ℕ → Option Ty
  types = types_in sc

  piece-known : (p : Piece) → PartsKnown o u names sc (piece_parts types p)
  piece-known (piece.Plain t) = (tt, tt)
  piece-known (piece.Name x) = kind-choice (is_some (types x)) kind.Value kind.Plain (piece.Name x) (λ k. (k, tt)) (tt, tt)
  piece-known (piece.Item x (index.Number n)) =
      kind-choice (is_some (types x)) (if_list types x kind.Part) kind.Plain (piece.Item x (index.Number n))
      (λ k. kind-choice (is_some (list_item (or_void (types x)))) kind.Part kind.ValueThenPlain (piece.Item x (index.Number n)) (λ e. (k, tt)) (k, (tt, tt))) (tt, tt)
  piece-known (piece.Item x (index.Name y)) =
      kind-choice (is_some (types x)) (if_list types x (if_in_force types y kind.Part)) kind.Plain (piece.Item x (index.Name y))
      (λ k. kind-choice (is_some (list_item (or_void (types x)))) (if_in_force types y kind.Part) kind.ValueThenPlain (piece.Item x (index.Name y))
      (λ e. kind-choice (is_some (types y)) kind.Part kind.Plain (piece.Item x (index.Name y)) (λ l. ((k, l), tt)) (tt, tt)) (k, (tt, tt))) (tt, tt)
  piece-known (piece.Key x (key_of.Text t)) =
      kind-choice (is_some (types x)) (if_map types x kind.Part) kind.Plain (piece.Key x (key_of.Text t))
      (λ k. kind-choice (is_some (map_item (or_void (types x)))) kind.Part kind.ValueThenPlain (piece.Key x (key_of.Text t)) (λ e. (k, tt)) (k, (tt, tt))) (tt, tt)
  piece-known (piece.Key x (key_of.Name y)) =
      kind-choice (is_some (types x)) (if_map types x (if_in_force types y kind.Part)) kind.Plain (piece.Key x (key_of.Name y))
      (λ k. kind-choice (is_some (map_item (or_void (types x)))) (if_in_force types y kind.Part) kind.ValueThenPlain (piece.Key x (key_of.Name y))
      (λ e. kind-choice (is_some (types y)) kind.Part kind.Plain (piece.Key x (key_of.Name y)) (λ l. ((k, l), tt)) (tt, tt)) (k, (tt, tt))) (tt, tt)

  -- whatever the pieces are
  pub pieces-known : (ps : List Piece) → PartsKnown o u names sc (parts_of types ps)
  pieces-known [] = tt
  pieces-known (p ∷ ps) = parts-joined (piece_parts types p) (parts_of types ps) (piece-known p) (pieces-known ps)

  module _ (in_force : InForce o u names sc) where
    -- a name that is found
    pub there-known : (x : List ℕ) → is_missing names.finding (found x names) ≡ false → is_some (types x) ≡ true
    there-known x q = ap is_some (same-type o u names sc in_force x ∙ found-is names.finding (found x names) q)

    pub name-known : (x : List ℕ) → name_rule names x ≡ None → is_some (types x) ≡ true
    name-known x q = there-known x (when-none (is_missing names.finding (found x names)) rule.UnknownName None q).0

    -- a call, with a result or without one
    pub callable : (x : List ℕ) (es : Trees) (t : Ty) (void : Bool) → call_rule void (function_named x names.functions) es ≡ None → t ≡ result_of (function_named x names.functions) → Callable o u names sc x (count es) t
    callable x es t void b is = by_head (function_named x names.functions) refl b is
      where
        by_head : (h : Option Head) → function_named x names.functions ≡ h → call_rule void h es ≡ None → t ≡ result_of h → Callable o u names sc x (count es) t
        by_head None n b is = absurd (search (rules, b))
        by_head (Some h) n b is =
            let there = in_force.calls x h n in
            record { f = there.f; there = there.there; gives = ap results (there.gives ∙ sym is); takes = there.takes ∙ (called void h es b).count }

    -- a method that changes nothing
    pub method-gives : (sig : Option Method) (asked : Asked) (a : Tree) (es : Trees) (x : List ℕ) (t : Ty) → signature_of (type_of a) x (count es) ≡ sig → IsValueWritten a → method_rule asked a (row_of (type_of a) x (count es)) es ≡ None
        → t ≡ given_by (row_of (type_of a) x (count es)) → ((c : ℕ) → sig ≡ Some (by.Change c) → ⊥) → MethodGives o u names sc sig (count es) (results t)
    method-gives None asked a es x t e k b is v =
        let b1 : method_rule asked a None es ≡ None = ap (λ (r : Option Row). method_rule asked a r es) (sym (no-method (type_of a) x (count es) e)) ∙ b in
        absurd (let clash : true ≡ false = sym (written-known (type_of a) (written-type a k)) ∙ (when-none (is_known (type_of a)) rule.UnknownMethod None b1).0 in cc)
    method-gives (Some (by.Plain m)) asked a es x t e k b is v =
        let c = method-counted o u names sc (type_of a) x (count es) (by.Plain m) (written-type a k) e in
        (c.0, ap results is ∙ c.1)
    method-gives (Some (by.File q)) asked a es x t e k b is v =
        subst (λ n. FileGives o u names sc q (count es) n) (sym (ap results is)) (method-counted o u names sc (type_of a) x (count es) (by.File q) (written-type a k) e)
    method-gives (Some (by.Change c)) asked a es x t e k b is v = absurd (v c refl)

    -- no change is asked for a value
    unchanging : (asked : Asked) (a : Tree) (es : Trees) (x : List ℕ) → is_value asked ≡ true → method_rule asked a (row_of (type_of a) x (count es)) es ≡ None → (c : ℕ) → signature_of (type_of a) x (count es) ≡ Some (by.Change c) → ⊥
    unchanging asked a es x v b c e =
        let k = change-said (type_of a) x (count es) c e in
        change-refused asked a es k.0 k.2 v (ap (λ (r : Option Row). method_rule asked a r es) (sym k.1) ∙ b)

    mutual
      pub expr-here : (e : Tree) (asked : Asked) → is_value asked ≡ true → IsWellTyped e names asked → IsValueWritten e → Here o u names sc e
      expr-here (node at t f) asked v w k = form-here f t asked v w.0 w.1 w.2 k.0 k.1

      form-here : (f : FormTree) (t : Ty) (asked : Asked) → is_value asked ≡ true → t ≡ type_at names asked f → breaks names asked f ≡ None → ArePartsWellTyped f names asked → is_solid t ≡ true → ArePartsWritten f → HereForm o u names sc f t
      form-here (number n) t asked v is b w k kw = one-value t k
      form-here (text ps) t asked v is b w k kw = (one-value t k, pieces-known ps)
      form-here (truth x) t asked v is b w k kw = one-value t k
      form-here (name x) t asked v is b w k kw = (one-value t k, name-known x (or-deep-none (name_rule names x) (type_named x names) b))
      form-here (call x es) t asked v is b w k kw =
          let c : call_rule (is_value asked) (function_named x names.functions) es ≡ None = or-deep-none (call_rule (is_value asked) (function_named x names.functions) es) (type_at names asked (call x es)) b in
          (callable x es t (is_value asked) c is, arguments-here es (parameters_of (function_named x names.functions)) w kw)
      form-here (group e) t asked v is b w k kw = (sym is, expr-here e (no_whole asked) (grouped asked v) w kw)
      form-here (list es) t asked v is b w k kw =
          (one-value t k, items-here es (is_none (asked_list_item asked)) (items_asked (asked_list_item asked) (asked_among es asked)) (items-value (asked_list_item asked) (asked_among es asked) (among-value es asked)) w kw)
      form-here (mapping ps) t asked v is b w k kw =
          (one-value t k, pairs-here ps (is_none (asked_map_item asked)) (items_asked (asked_map_item asked) (asked_among_values ps asked)) (items-value (asked_map_item asked) (asked_among_values ps asked) (among-values-value ps asked)) w kw)
      form-here (item a i) t asked v is b w k kw = (one-value t k, one-type a kw.0, expr-here a Value refl w.0 kw.0, one-type i kw.1, expr-here i Value refl w.1 kw.1)
      form-here (key a i) t asked v is b w k kw = (one-value t k, one-type a kw.0, expr-here a Value refl w.0 kw.0, one-type i kw.1, expr-here i Value refl w.1 kw.1)
      form-here (method a x es) t asked v is b w k kw =
          let b1 = or-deep-none (method_rule asked a (row_of (type_of a) x (count es)) es) (type_at names asked (method a x es)) b in (
            method-gives (signature_of (type_of a) x (count es)) asked a es x t refl kw.0 b1 is (unchanging asked a es x v b1),
            one-type a kw.0,
            expr-here a Value refl w.0 kw.0,
            arguments-here es (taken_behind (type_of a) x es) w.1 kw.1,
          )
      form-here (prefix s a) t asked v is b w k kw = (one-value t k, one-type a kw, expr-here a Value refl w kw)
      form-here (binary a s x) t asked v is b w k kw = (one-value t k, one-type a kw.0, expr-here a Value refl w.0 kw.0, one-type x kw.1, expr-here x Value refl w.1 kw.1)
      form-here (choice c a x) t asked v is b w k kw =
          (one-value t k, one-type c kw.0, expr-here c Value refl w.0 kw.0, one-type a kw.1, expr-here a Value refl w.1 kw.1, one-type x kw.2, expr-here x Value refl w.2 kw.2)
      form-here (dependency a x) t asked v is b w k kw = (one-value t k, one-type a kw.0, expr-here a Value refl w.0 kw.0, one-type x kw.1, expr-here x Value refl w.1 kw.1)

      pub arguments-here : (es : Trees) (ts : List Ty) → AreArgumentsWellTyped es names ts → AreValuesWritten es → AllHere o u names sc es
      arguments-here none ts w k = tt
      arguments-here (more e es) [] w k = (one-type e k.0, expr-here e Value refl w.0 k.0, arguments-here es [] w.1 k.1)
      arguments-here (more e es) (t ∷ ts) w k = (one-type e k.0, expr-here e (This t) refl w.0 k.0, arguments-here es ts w.1 k.1)

      items-here : (es : Trees) (lone : Bool) (asked : Asked) → is_value asked ≡ true → AreItemsWellTyped es names lone asked → AreValuesWritten es → AllHere o u names sc es
      items-here none lone asked v w k = tt
      items-here (more e es) lone asked v w k =
          (one-type e k.0, expr-here e (asked_of_item lone e asked) (value-choice (lone && not (is_open e)) Value asked refl v) w.0 k.0, items-here es (lone && is_open e) asked v w.1 k.1)

      pairs-here : (ps : TreePairs) (lone : Bool) (asked : Asked) → is_value asked ≡ true → ArePairsWellTyped ps names lone asked → ArePairsWritten ps → PairsHere o u names sc ps
      pairs-here no_pairs lone asked v w k = tt
      pairs-here (more_pairs x y ps) lone asked v w k =
          (one-type x k.0, expr-here x Value refl w.0 k.0, one-type y k.1, expr-here y (asked_of_item lone y asked) (value-choice (lone && not (is_open y)) Value asked refl v) w.1 k.1, pairs-here ps (lone && is_open y) asked v w.2 k.2)
