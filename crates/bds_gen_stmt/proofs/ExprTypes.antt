-- Each expression in a well-typed one has a type that values have.
use Rattle.std.proofs.Common.{◌≡◌, List, [], ◌∷◌, Option, Some, None, Bool, true, false, ◌&&◌, sym, subst, is_none, rules}
use Rattle.std.specs.Prelude.{⊤, nat_lt}
use Rattle.bds_value.specs.declared.TheConstants.{MAX_NESTING}
use Rattle.bds_value.specs.declared.value.Ty.{Ty}
use Rattle.bds_value.specs.Fields.{is_solid, nesting}
use Rattle.bds_value.specs.Types.{list_item, map_item}
use Rattle.bds_tree.specs.Tree.{Tree, FormTree, Trees, TreePairs, node, number, text, truth, name, call, group, list, mapping, item, key, method, prefix, binary, choice, dependency, none, more, no_pairs, more_pairs, type_of}
use Rattle.bds_tree.specs.StmtShape.{is_call_form}
use Rattle.bds_verify.specs.Whole.{is_value_ty, is_item_ty}
use Rattle.bds_check_names.specs.declared.names.Names.{Names}
use Rattle.bds_check_names.specs.declared.names.Asked.{Asked}
use Rattle.bds_check_names.specs.declared.names.Asked.TheVariants.{Value, This}
use Rattle.bds_check_names.specs.Types.{or_void}
use Rattle.bds_check_names.specs.Scopes.{function_named}
use Rattle.bds_check_rules.specs.declared.rules.Rule.{Rule}
use Rattle.bds_check_rules.specs.declared.rules.Rule.TheVariants as rule
use Rattle.bds_check_rules.specs.Typing.{type_at, asked_list_item, asked_map_item, item_type, first_type, first_value_type}
use Rattle.bds_check_rules.specs.Breaks.{breaks, rule_at, or_deep}
use Rattle.bds_check_typing.specs.Walk.{no_whole, is_open, items_asked, parameters_of}
use Rattle.bds_check_typing.specs.WellTyped.{asked_among, asked_among_values, asked_of_item, taken_behind, IsWellTyped, ArePartsWellTyped, AreArgumentsWellTyped, AreItemsWellTyped, ArePairsWellTyped}
use Rattle.bds_check_typing.specs.Known.{IsValueWritten, ArePartsWritten, AreValuesWritten, ArePairsWritten}
use Rattle.bds_check_typing.proofs.Written.{written-known}
use Rattle.bds_gen_flow.proofs.ExprParts.{when-none, list-of-is, item-again, map-of-is, entry-again}
use Rattle.bds_gen_stmt.proofs.Wholes.{value-ty, item-value, entry-value}

abbrev mutual
  pub HasTypes : Tree → Type 0
  HasTypes (node at t f) = (is_value_ty t ≡ true) × HasFormTypes f t

  -- a literal of a type also makes a list or map of its items
  pub HasFormTypes : FormTree → Ty → Type 0
  HasFormTypes (number v) t = ⊤
  HasFormTypes (text ps) t = ⊤
  HasFormTypes (truth b) t = ⊤
  HasFormTypes (name x) t = ⊤
  HasFormTypes (call f es) t = HaveTypes es
  HasFormTypes (group e) t = HasTypes e
  HasFormTypes (list es) t = (is_item_ty (or_void (list_item t)) ≡ true) × HaveTypes es
  HasFormTypes (mapping ps) t = (is_item_ty (or_void (map_item t)) ≡ true) × HavePairTypes ps
  HasFormTypes (item a i) t = HasTypes a × HasTypes i
  HasFormTypes (key a k) t = HasTypes a × HasTypes k
  HasFormTypes (method a m es) t = HasTypes a × HaveTypes es
  HasFormTypes (prefix o a) t = HasTypes a
  HasFormTypes (binary a o b) t = HasTypes a × HasTypes b
  HasFormTypes (choice c a b) t = HasTypes c × HasTypes a × HasTypes b
  HasFormTypes (dependency a b) t = HasTypes a × HasTypes b

  pub HaveTypes : Trees → Type 0
  HaveTypes none = ⊤
  HaveTypes (more e es) = HasTypes e × HaveTypes es

  pub HavePairTypes : TreePairs → Type 0
  HavePairTypes no_pairs = ⊤
  HavePairTypes (more_pairs k v ps) = HasTypes k × HasTypes v × HavePairTypes ps

pub type-value : (e : Tree) → HasTypes e → is_value_ty (type_of e) ≡ true
type-value (node at t f) h = h.0

not-deep : (r : Option Rule) (t : Ty) → or_deep r t ≡ None → nat_lt MAX_NESTING (nesting t) ≡ false
not-deep None t q = (when-none (nat_lt MAX_NESTING (nesting t)) rule.DeepType None q).0
not-deep (Some r) t q = absurd (cc)

node-value : (t : Ty) (f : FormTree) (names : Names) (asked : Asked) → t ≡ type_at names asked f → breaks names asked f ≡ None → is_solid t ≡ true → is_value_ty t ≡ true
node-value t f names asked is b k = value-ty t k (subst (λ w. nat_lt MAX_NESTING (nesting w) ≡ false) (sym is) (not-deep (rule_at names asked f) (type_at names asked f) b))

mutual
  pub expr-types : (e : Tree) (names : Names) (asked : Asked) → IsWellTyped e names asked → IsValueWritten e → HasTypes e
  expr-types (node at t f) names asked w k =
      let v : is_value_ty t ≡ true = node-value t f names asked w.0 w.1 k.0 in
      (v, form-types f t names asked v w.0 k.0 w.2 k.1)

  pub form-types : (f : FormTree) (t : Ty) (names : Names) (asked : Asked) → is_value_ty t ≡ true → t ≡ type_at names asked f → is_solid t ≡ true → ArePartsWellTyped f names asked → ArePartsWritten f → HasFormTypes f t
  form-types (number v) t names asked h is s w k = tt
  form-types (text ps) t names asked h is s w k = tt
  form-types (truth b) t names asked h is s w k = tt
  form-types (name x) t names asked h is s w k = tt
  form-types (call f es) t names asked h is s w k = arguments-types es names (parameters_of (function_named f names.functions)) w k
  form-types (group e) t names asked h is s w k = expr-types e names (no_whole asked) w k
  form-types (list es) t names asked h is s w k =
      let it : Ty = item_type (asked_list_item asked) (first_type es) in
      let l = list-of-is it t is (written-known t s) in
      let item_is : or_void (list_item t) ≡ it = item-again it t l.0 in
      (subst (λ x. is_item_ty x ≡ true) (sym item_is) (item-value it (subst (λ x. is_value_ty x ≡ true) l.0 h)), items-types es names (is_none (asked_list_item asked)) (items_asked (asked_list_item asked) (asked_among es asked)) w k)
  form-types (mapping ps) t names asked h is s w k =
      let it : Ty = item_type (asked_map_item asked) (first_value_type ps) in
      let l = map-of-is it t is (written-known t s) in
      let item_is : or_void (map_item t) ≡ it = entry-again it t l.0 in
      (subst (λ x. is_item_ty x ≡ true) (sym item_is) (entry-value it (subst (λ x. is_value_ty x ≡ true) l.0 h)), pairs-types ps names (is_none (asked_map_item asked)) (items_asked (asked_map_item asked) (asked_among_values ps asked)) w k)
  form-types (item a i) t names asked h is s w k = (expr-types a names Value w.0 k.0, expr-types i names Value w.1 k.1)
  form-types (key a i) t names asked h is s w k = (expr-types a names Value w.0 k.0, expr-types i names Value w.1 k.1)
  form-types (method a m es) t names asked h is s w k = (expr-types a names Value w.0 k.0, arguments-types es names (taken_behind (type_of a) m es) w.1 k.1)
  form-types (prefix o a) t names asked h is s w k = expr-types a names Value w k
  form-types (binary a o b) t names asked h is s w k = (expr-types a names Value w.0 k.0, expr-types b names Value w.1 k.1)
  form-types (choice c a b) t names asked h is s w k = (expr-types c names Value w.0 k.0, expr-types a names Value w.1 k.1, expr-types b names Value w.2 k.2)
  form-types (dependency a b) t names asked h is s w k = (expr-types a names Value w.0 k.0, expr-types b names Value w.1 k.1)

  pub arguments-types : (es : Trees) (names : Names) (ts : List Ty) → AreArgumentsWellTyped es names ts → AreValuesWritten es → HaveTypes es
  arguments-types none names ts w k = tt
  arguments-types (more e es) names [] w k = (expr-types e names Value w.0 k.0, arguments-types es names [] w.1 k.1)
  arguments-types (more e es) names (t ∷ ts) w k = (expr-types e names (This t) w.0 k.0, arguments-types es names ts w.1 k.1)

  items-types : (es : Trees) (names : Names) (lone : Bool) (asked : Asked) → AreItemsWellTyped es names lone asked → AreValuesWritten es → HaveTypes es
  items-types none names lone asked w k = tt
  items-types (more e es) names lone asked w k = (expr-types e names (asked_of_item lone e asked) w.0 k.0, items-types es names (lone && is_open e) asked w.1 k.1)

  pairs-types : (ps : TreePairs) (names : Names) (lone : Bool) (asked : Asked) → ArePairsWellTyped ps names lone asked → ArePairsWritten ps → HavePairTypes ps
  pairs-types no_pairs names lone asked w k = tt
  pairs-types (more_pairs x v ps) names lone asked w k = (expr-types x names Value w.0 k.0, expr-types v names (asked_of_item lone v asked) w.1 k.1, pairs-types ps names (lone && is_open v) asked w.2 k.2)

-- a call that is a whole statement has parts with types, of whatever type it is itself
pub call-types : (f : FormTree) (t : Ty) (names : Names) (asked : Asked) → ArePartsWellTyped f names asked → ArePartsWritten f → is_call_form f ≡ true → HasFormTypes f t
call-types (call f es) t names asked w k c = arguments-types es names (parameters_of (function_named f names.functions)) w k
call-types (method a m es) t names asked w k c = (expr-types a names Value w.0 k.0, arguments-types es names (taken_behind (type_of a) m es) w.1 k.1)
call-types (number v) t names asked w k c = absurd (search (rules, c))
call-types (text v) t names asked w k c = absurd (search (rules, c))
call-types (truth v) t names asked w k c = absurd (search (rules, c))
call-types (name v) t names asked w k c = absurd (search (rules, c))
call-types (group v) t names asked w k c = absurd (search (rules, c))
call-types (list v) t names asked w k c = absurd (search (rules, c))
call-types (mapping v) t names asked w k c = absurd (search (rules, c))
call-types (item a v) t names asked w k c = absurd (search (rules, c))
call-types (key a v) t names asked w k c = absurd (search (rules, c))
call-types (prefix o v) t names asked w k c = absurd (search (rules, c))
call-types (binary a o v) t names asked w k c = absurd (search (rules, c))
call-types (choice c1 a v) t names asked w k c = absurd (search (rules, c))
call-types (dependency a v) t names asked w k c = absurd (search (rules, c))
