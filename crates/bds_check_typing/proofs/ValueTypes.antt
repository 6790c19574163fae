-- Where the names in force have types, each value has one.
use Rattle.std.proofs.Common.{◌≡◌, ℕ, ◌==◌, Bool, true, false, not, ◌&&◌, List, [], ◌∷◌, length, Option, Some, None, is_some, is_none, refl, sym, subst, ◌∙◌, if◌then◌else◌, rules}
use Rattle.std.specs.Prelude.{⊤}
use Rattle.std.specs.List.{AllByRecursion}
use Rattle.std.specs.Str.{bytes_eq}
use Rattle.bds_value.specs.declared.value.Ty.{Ty}
use Rattle.bds_value.specs.declared.value.Ty.TheVariants as ty
use Rattle.bds_value.specs.Fields.{is_solid}
use Rattle.bds_value.specs.Types.{list_item, map_item}
use Rattle.bds_tree.specs.declared.expr.PrefixOp.{PrefixOp}
use Rattle.bds_tree.specs.declared.expr.PrefixOp.TheVariants as sign
use Rattle.bds_tree.specs.declared.expr.BinaryOp.{BinaryOp}
use Rattle.bds_tree.specs.declared.expr.BinaryOp.TheVariants as op
use Rattle.bds_tree.specs.StmtShape.{is_result}
use Rattle.bds_tree.specs.Tree.{Tree, FormTree, Trees, TreePairs, node, number, text, truth, name, call, group, list, mapping, item, key, method, prefix, binary, choice, dependency, none, more, no_pairs, more_pairs, type_of}
use Rattle.bds_check_names.specs.declared.names.Names.{Names}
use Rattle.bds_check_names.specs.declared.names.Head.{Head}
use Rattle.bds_check_names.specs.declared.names.Variable.{Variable}
use Rattle.bds_check_names.specs.declared.names.Asked.{Asked}
use Rattle.bds_check_names.specs.declared.names.Asked.TheVariants.{Whole, Value, This}
use Rattle.bds_check_names.specs.declared.rows.Row.{Row}
use Rattle.bds_check_rules.specs.declared.rules.Rule.{Rule}
use Rattle.bds_check_rules.specs.declared.rules.Rule.TheVariants as rule
use Rattle.bds_check_names.specs.Types.{is_known, differ, or_void, list_of, map_of, sum_ty, lacks}
use Rattle.bds_check_names.specs.Scopes.{found, first_type, last_type, either, type_named, is_missing, function_named, is_value}
use Rattle.bds_check_names.specs.Rows.{row_of}
use Rattle.bds_check_rules.specs.Pieces.{when}
use Rattle.bds_check_rules.specs.Breaks.{rule_at, is_open_under, any_argument_differs, call_rule, method_rule, is_place}
use Rattle.bds_check_rules.specs.Typing.{type_at, asked_list_item, asked_map_item, count, result_of, given_by, item_type, binary_type}
use Rattle.bds_check_typing.specs.Walk.{judge, judge_arguments, unasked, items_asked, no_whole, is_open, parameters_of, taken_by}
use Rattle.bds_check_typing.specs.WellTyped.{asked_among, asked_among_values, asked_of_item, unknown_types, taken_behind, IsWellTyped, ArePartsWellTyped, AreArgumentsWellTyped, AreItemsWellTyped, ArePairsWellTyped}
use Rattle.bds_check_typing.specs.Known.{AreWritten, IsHeadWritten, AreVariablesWritten, AreNamesWritten, IsAskedWritten, IsValueWritten, ArePartsWritten, AreValuesWritten, ArePairsWritten, IsCallWritten}
use Rattle.bds_check_typing.proofs.WellTypedLaws.{well-typed, well-typed-arguments}
use Rattle.bds_check_typing.proofs.Agreeing.{when-none, or-deep-none}
use Rattle.bds_check_typing.proofs.Written.{bool-written, int-written, text-written, written-known, result-written, written-result, void-result, list-item-written, map-item-written, list-part-written, map-part-written, list-of-written, map-of-written, sum-written, sum-known, common-written}
use Rattle.bds_check_typing.proofs.WrittenRows.{IsRowWritten, row-written}

-- Names

abbrev pub IsTypeWritten : Option Ty → Type 0
IsTypeWritten None = ⊤
IsTypeWritten (Some t) = is_solid t ≡ true

type-choice : (here : Bool) (t : Ty) (o : Option Ty) → is_solid t ≡ true → IsTypeWritten o → IsTypeWritten (if here then Some t else o)
type-choice true t o h k = h
type-choice false t o h k = k

first-written : (x : List ℕ) (vs : List Variable) → AreVariablesWritten vs → IsTypeWritten (first_type x vs)
first-written x [] h = tt
first-written x (v ∷ vs) h = type-choice (bytes_eq x v.name) v.ty (first_type x vs) h.0 (first-written x vs h.1)

last-written : (x : List ℕ) (vs : List Variable) (o : Option Ty) → AreVariablesWritten vs → IsTypeWritten o → IsTypeWritten (last_type x vs o)
last-written x [] o h k = k
last-written x (v ∷ vs) o h k = last-written x vs (if bytes_eq x v.name then Some v.ty else o) h.1 (type-choice (bytes_eq x v.name) v.ty o h.0 k)

either-written : (o p : Option Ty) → IsTypeWritten o → IsTypeWritten p → IsTypeWritten (either o p)
either-written None p h k = k
either-written (Some t) p h k = h

pub found-written : (x : List ℕ) (names : Names) → AreNamesWritten names → IsTypeWritten (found x names)
found-written x names h = either-written (last_type x names.locals None) (first_type x names.globals) (last-written x names.locals None h.locals tt) (first-written x names.globals h.globals)

-- a name that isn't missing
in-force : (finding : Bool) (o : Option Ty) → IsTypeWritten o → is_missing finding o ≡ false → is_solid (or_void o) ≡ true
in-force finding None h q = absurd (search (rules, q))
in-force finding (Some t) h q = h

pub name-written : (x : List ℕ) (names : Names) → AreNamesWritten names → is_missing names.finding (found x names) ≡ false → is_solid (type_named x names) ≡ true
name-written x names h q = in-force names.finding (found x names) (found-written x names h) q

abbrev IsMaybeHeadWritten : Option Head → Type 0
IsMaybeHeadWritten None = ⊤
IsMaybeHeadWritten (Some h) = IsHeadWritten h

head-choice : (here : Bool) (h : Head) (o : Option Head) → IsHeadWritten h → IsMaybeHeadWritten o → IsMaybeHeadWritten (if here then Some h else o)
head-choice true h o p q = p
head-choice false h o p q = q

head-written : (x : List ℕ) (hs : List Head) → AllByRecursion IsHeadWritten hs → IsMaybeHeadWritten (function_named x hs)
head-written x [] p = tt
head-written x (h ∷ hs) p = head-choice (bytes_eq x h.name) h (function_named x hs) p.0 (head-written x hs p.1)

parameters-written : (o : Option Head) → IsMaybeHeadWritten o → AreWritten (parameters_of o)
parameters-written None h = tt
parameters-written (Some f) h = h.0

pub arguments-asked : (f : List ℕ) (names : Names) → AreNamesWritten names → AreWritten (parameters_of (function_named f names.functions))
arguments-asked f names h = parameters-written (function_named f names.functions) (head-written f names.functions h.functions)

-- The type of a node that breaks no rule

pub has-type : (e : Tree) → IsValueWritten e → is_solid (type_of e) ≡ true
has-type (node at t f) h = h.0

and-not : (a c : Bool) → a ≡ true → (a && not c) ≡ false → c ≡ true
and-not true true p q = refl
and-not true false p q = absurd (search (rules, q))
and-not false c p q = absurd (search (rules, p))

and-last : (a b : Bool) → b ≡ true → (a && b) ≡ false → a ≡ false
and-last true true p q = absurd (search (rules, q))
and-last true false p q = absurd (search (rules, p))
and-last false b p q = refl

given-known : (a c k : Bool) → a ≡ true → c ≡ false → (a && not c && not k) ≡ false → k ≡ true
given-known true false true p q r = refl
given-known true false false p q r = absurd (search (rules, r))
given-known true true k p q r = absurd (search (rules, q))
given-known false c k p q r = absurd (search (rules, p))

call-written : (void : Bool) (o : Option Head) (es : Trees) → void ≡ true → IsMaybeHeadWritten o → call_rule void o es ≡ None → is_solid (result_of o) ≡ true
call-written void None es v h q = absurd (search (rules, q))
call-written void (Some f) es v h q =
    let last : Option Rule = when (void && not (is_known f.result)) rule.VoidValue None in
    let rest : Option Rule = when (not (length f.parameters == count es)) rule.WrongCount last in
    let q1 : rest ≡ None = (when-none (any_argument_differs f.parameters es) rule.WrongType rest q).1 in
    let q2 : last ≡ None = (when-none (not (length f.parameters == count es)) rule.WrongCount last q1).1 in
    result-written f.result h.1 (and-not void (is_known f.result) v (when-none (void && not (is_known f.result)) rule.VoidValue None q2).0)

method-written : (asked : Asked) (receiver : Tree) (o : Option Row) (es : Trees) → is_value asked ≡ true → is_known (type_of receiver) ≡ true → IsRowWritten o → method_rule asked receiver o es ≡ None → is_solid (given_by o) ≡ true
method-written asked receiver None es v k h q = absurd (let unknown : is_known (type_of receiver) ≡ false = (when-none (is_known (type_of receiver)) rule.UnknownMethod None q).0 in search (rules, sym k ∙ unknown))
method-written asked receiver (Some row) es v k h q =
    let r4 : Option Rule = when (row.changes && is_value asked) rule.MutatorValue None in
    let r3 : Option Rule = when (row.changes && not (is_place receiver)) rule.NotPlace r4 in
    let r2 : Option Rule = when (is_value asked && not row.changes && not (is_known row.gives)) rule.VoidValue r3 in
    let q2 : r2 ≡ None = (when-none (any_argument_differs row.takes es) rule.WrongType r2 q).1 in
    let q3 : ((is_value asked && not row.changes && not (is_known row.gives)) ≡ false) × (r3 ≡ None) = when-none (is_value asked && not row.changes && not (is_known row.gives)) rule.VoidValue r3 q2 in
    let q4 : r4 ≡ None = (when-none (row.changes && not (is_place receiver)) rule.NotPlace r4 q3.1).1 in
    let kept : row.changes ≡ false = and-last row.changes (is_value asked) v (when-none (row.changes && is_value asked) rule.MutatorValue None q4).0 in
    result-written row.gives h.1 (given-known (is_value asked) row.changes (is_known row.gives) v kept q3.0)

-- an empty literal
open-written : (t : Ty) (o : Option Ty) (make : Ty → Ty) → is_solid t ≡ true → ((u : Ty) → o ≡ Some u → is_solid u ≡ true) → ((u : Ty) → is_solid u ≡ true → is_solid (make u) ≡ true) → is_open_under (This t) o ≡ false → is_solid (make (item_type o ty.Void)) ≡ true
open-written t None make h k m q = absurd (search (rules, sym (written-known t h) ∙ q))
open-written t (Some u) make h k m q = m u (k u refl)

-- the type of the items of a literal
item-written : (o : Option Ty) (t : Ty) → ((u : Ty) → o ≡ Some u → is_solid u ≡ true) → is_solid t ≡ true → is_solid (item_type o t) ≡ true
item-written None t h k = k
item-written (Some u) t h k = h u refl

asked-list-written : (asked : Asked) → IsAskedWritten asked → (u : Ty) → asked_list_item asked ≡ Some u → is_solid u ≡ true
asked-list-written Whole h u q = absurd (search (rules, q))
asked-list-written Value h u q = absurd (search (rules, q))
asked-list-written (This t) h u q = list-item-written t u h q

asked-map-written : (asked : Asked) → IsAskedWritten asked → (u : Ty) → asked_map_item asked ≡ Some u → is_solid u ≡ true
asked-map-written Whole h u q = absurd (search (rules, q))
asked-map-written Value h u q = absurd (search (rules, q))
asked-map-written (This t) h u q = map-item-written t u h q

empty-list-written : (names : Names) (asked : Asked) → IsAskedWritten asked → is_value asked ≡ true → rule_at names asked (list none) ≡ None → is_solid (type_at names asked (list none)) ≡ true
empty-list-written names Whole h v q = absurd (search (rules, v))
empty-list-written names Value h v q = absurd (search (rules, q))
empty-list-written names (This t) h v q = open-written t (list_item t) list_of h (λ u e. list-item-written t u h e) list-of-written (when-none (is_open_under (This t) (list_item t)) rule.OpenLiteral None q).0

empty-map-written : (names : Names) (asked : Asked) → IsAskedWritten asked → is_value asked ≡ true → rule_at names asked (mapping no_pairs) ≡ None → is_solid (type_at names asked (mapping no_pairs)) ≡ true
empty-map-written names Whole h v q = absurd (search (rules, v))
empty-map-written names Value h v q = absurd (search (rules, q))
empty-map-written names (This t) h v q = open-written t (map_item t) map_of h (λ u e. map-item-written t u h e) map-of-written (when-none (is_open_under (This t) (map_item t)) rule.OpenLiteral None q).0

prefix-written : (names : Names) (asked : Asked) (o : PrefixOp) (a : Tree) → is_solid (type_at names asked (prefix o a)) ≡ true
prefix-written names asked sign.Neg a = int-written
prefix-written names asked sign.Not a = bool-written

binary-written : (names : Names) (asked : Asked) (o : BinaryOp) (a b : Tree) → IsValueWritten a → IsValueWritten b → rule_at names asked (binary a o b) ≡ None → is_solid (binary_type o (type_of a) (type_of b)) ≡ true
binary-written names asked op.Or a b h k q = bool-written
binary-written names asked op.And a b h k q = bool-written
binary-written names asked op.Equal a b h k q = bool-written
binary-written names asked op.NotEqual a b h k q = bool-written
binary-written names asked op.Less a b h k q = bool-written
binary-written names asked op.AtMost a b h k q = bool-written
binary-written names asked op.Greater a b h k q = bool-written
binary-written names asked op.AtLeast a b h k q = bool-written
binary-written names asked op.Add a b h k q =
    sum-written (type_of a) (type_of b) (has-type a h) (sum-known (is_known (type_of a)) (is_known (type_of b)) (is_known (sum_ty (type_of a) (type_of b)))
    (written-known (type_of a) (has-type a h)) (written-known (type_of b) (has-type b k)) (when-none (is_known (type_of a) && is_known (type_of b) && not (is_known (sum_ty (type_of a) (type_of b)))) rule.WrongType None q).0)
binary-written names asked op.Sub a b h k q = int-written
binary-written names asked op.Mul a b h k q = int-written
binary-written names asked op.Div a b h k q = int-written
binary-written names asked op.Rem a b h k q = int-written

type-written : (names : Names) → AreNamesWritten names → (f : FormTree) (asked : Asked) → IsAskedWritten asked → is_value asked ≡ true → rule_at names asked f ≡ None → ArePartsWritten f → is_solid (type_at names asked f) ≡ true
type-written names n (number w) asked h v q p = int-written
type-written names n (text ps) asked h v q p = text-written
type-written names n (truth b) asked h v q p = bool-written
type-written names n (name x) asked h v q p = name-written x names n (when-none (is_missing names.finding (found x names)) rule.UnknownName None q).0
type-written names n (call f es) asked h v q p = call-written (is_value asked) (function_named f names.functions) es v (head-written f names.functions n.functions) q
type-written names n (group e) asked h v q p = has-type e p
type-written names n (list none) asked h v q p = empty-list-written names asked h v q
type-written names n (list (more e es)) asked h v q p = list-of-written (item_type (asked_list_item asked) (type_of e)) (item-written (asked_list_item asked) (type_of e) (asked-list-written asked h) (has-type e p.0))
type-written names n (mapping no_pairs) asked h v q p = empty-map-written names asked h v q
type-written names n (mapping (more_pairs k x ps)) asked h v q p = map-of-written (item_type (asked_map_item asked) (type_of x)) (item-written (asked_map_item asked) (type_of x) (asked-map-written asked h) (has-type x p.1))
type-written names n (item a i) asked h v q p =
    let bad : Option Rule = when (lacks (type_of a) (is_some (list_item (type_of a)))) rule.BadItem None in
    list-part-written (type_of a) (has-type a p.0) (when-none (lacks (type_of a) (is_some (list_item (type_of a)))) rule.BadItem None (when-none (differ ty.Int (type_of i)) rule.WrongType bad q).1).0
type-written names n (key a k) asked h v q p =
    let bad : Option Rule = when (lacks (type_of a) (is_some (map_item (type_of a)))) rule.BadItem None in
    map-part-written (type_of a) (has-type a p.0) (when-none (lacks (type_of a) (is_some (map_item (type_of a)))) rule.BadItem None (when-none (differ ty.Text (type_of k)) rule.WrongType bad q).1).0
type-written names n (method a m es) asked h v q p = method-written asked a (row_of (type_of a) m (count es)) es v (written-known (type_of a) (has-type a p.0)) (row-written (type_of a) m (count es) (has-type a p.0)) q
type-written names n (prefix o a) asked h v q p = prefix-written names asked o a
type-written names n (binary a o b) asked h v q p = binary-written names asked o a b p.0 p.1 q
type-written names n (choice c a b) asked h v q p = common-written (type_of a) (type_of b) (has-type a p.1) (has-type b p.2)
type-written names n (dependency a b) asked h v q p = bool-written

-- The type of a whole statement, which may be none

call-result : (o : Option Head) → IsMaybeHeadWritten o → is_result (result_of o) ≡ true
call-result None h = void-result
call-result (Some f) h = h.1

method-result : (o : Option Row) → IsRowWritten o → is_result (given_by o) ≡ true
method-result None h = void-result
method-result (Some row) h = h.1

-- a form of which as much is asked whether it is a whole statement or a value
as-value : (names : Names) → AreNamesWritten names → (f : FormTree) → rule_at names Value f ≡ None → ArePartsWritten f → is_result (type_at names Value f) ≡ true
as-value names n f q p = written-result (type_at names Value f) (type-written names n f Value tt refl q p)

whole-result : (names : Names) → AreNamesWritten names → (f : FormTree) → rule_at names Whole f ≡ None → ArePartsWritten f → is_result (type_at names Whole f) ≡ true
whole-result names n (number w) q p = as-value names n (number w) q p
whole-result names n (text ps) q p = as-value names n (text ps) q p
whole-result names n (truth b) q p = as-value names n (truth b) q p
whole-result names n (name x) q p = as-value names n (name x) q p
whole-result names n (call f es) q p = call-result (function_named f names.functions) (head-written f names.functions n.functions)
whole-result names n (group e) q p = as-value names n (group e) q p
whole-result names n (list none) q p = as-value names n (list none) q p
whole-result names n (list (more e es)) q p = as-value names n (list (more e es)) q p
whole-result names n (mapping no_pairs) q p = as-value names n (mapping no_pairs) q p
whole-result names n (mapping (more_pairs k x ps)) q p = as-value names n (mapping (more_pairs k x ps)) q p
whole-result names n (item a i) q p = as-value names n (item a i) q p
whole-result names n (key a k) q p = as-value names n (key a k) q p
whole-result names n (method a m es) q p = method-result (row_of (type_of a) m (count es)) (row-written (type_of a) m (count es) (has-type a p.0))
whole-result names n (prefix o a) q p = as-value names n (prefix o a) q p
whole-result names n (binary a o b) q p = as-value names n (binary a o b) q p
whole-result names n (choice c a b) q p = as-value names n (choice c a b) q p
whole-result names n (dependency a b) q p = as-value names n (dependency a b) q p

-- What is asked of parts

unasked-typed : (asked : Asked) → IsAskedWritten asked → IsAskedWritten (unasked asked)
unasked-typed Whole h = tt
unasked-typed Value h = tt
unasked-typed (This t) h = subst (λ (b : Bool). IsAskedWritten (if b then Value else This t)) (sym (written-known t h)) tt

known-value : (t : Ty) (b : Bool) → is_value (if b then Value else This t) ≡ true
known-value t true = refl
known-value t false = refl

unasked-value : (asked : Asked) → is_value (unasked asked) ≡ true
unasked-value Whole = refl
unasked-value Value = refl
unasked-value (This t) = known-value t (is_known t)

no-whole-typed : (asked : Asked) → IsAskedWritten asked → IsAskedWritten (no_whole asked)
no-whole-typed Whole h = tt
no-whole-typed Value h = tt
no-whole-typed (This t) h = h

no-whole-value : (asked : Asked) → is_value (no_whole asked) ≡ true
no-whole-value Whole = refl
no-whole-value Value = refl
no-whole-value (This t) = refl

-- a type that a value may be asked to have
abbrev IsAskedOfValue : Asked → Type 0
IsAskedOfValue asked = IsAskedWritten asked × (is_value asked ≡ true)

item-asked : (b : Bool) (asked : Asked) → IsAskedOfValue asked → IsAskedOfValue (if b then Value else asked)
item-asked true asked h = (tt, refl)
item-asked false asked h = h

taken-written : (o : Option Row) → IsRowWritten o → AreWritten (taken_by o)
taken-written None h = tt
taken-written (Some row) h = h.0

-- behind a receiver whose type is known
taken-choice : (b : Bool) (ts us : List Ty) → b ≡ true → AreWritten ts → AreWritten (if b then ts else us)
taken-choice true ts us e h = h
taken-choice false ts us e h = absurd (search (rules, e))

-- the first item that isn't open has the type that is asked of the others
among-choice : (open_here : Bool) (e : Tree) (rest given : Asked) (Others : Bool → Type 0) (IsTyped : Asked → Type 0) → is_open e ≡ open_here → (IsTyped Value → IsValueWritten e) → (Others true → IsAskedOfValue rest) →
    IsTyped (if true && not (is_open e) then Value else given) → Others (true && is_open e) → IsAskedOfValue (if is_open e then rest else This (type_of e))
among-choice true e rest given Others IsTyped p h k a b = subst (λ (o : Bool). IsAskedOfValue (if o then rest else This (type_of e))) (sym p) (k (subst (λ (o : Bool). Others (true && o)) p b))
among-choice false e rest given Others IsTyped p h k a b = subst (λ (o : Bool). IsAskedOfValue (if o then rest else This (type_of e))) (sym p) (has-type e (h (subst (λ (o : Bool). IsTyped (if true && not o then Value else given)) p a)), refl)

-- a literal, by the type that is asked of its items
items-choice : (o : Option Ty) (asked : Asked) (AreTyped : Bool → Asked → Type 0) (Have : Type 0) → ((u : Ty) → o ≡ Some u → is_solid u ≡ true) → (AreTyped true asked → IsAskedOfValue asked) →
    ((lone : Bool) (given : Asked) → IsAskedOfValue given → AreTyped lone given → Have) → AreTyped (is_none o) (items_asked o asked) → Have
items-choice None asked AreTyped Have h k m a = m true asked (k a) a
items-choice (Some u) asked AreTyped Have h k m a = m false (This u) (h u refl, refl) a

module _ (names : Names) (n : AreNamesWritten names) where
  mutual
    pub typed-has : (e : Tree) (asked : Asked) → IsAskedOfValue asked → IsWellTyped e names asked → IsValueWritten e
    typed-has (node at t f) asked h w =
        let parts : ArePartsWritten f = parts-have f asked h.0 w.2 in
        (subst (λ (u : Ty). is_solid u ≡ true) (sym w.0) (type-written names n f asked h.0 h.1 (or-deep-none (rule_at names asked f) (type_at names asked f) w.1).0 parts), parts)

    pub parts-have : (f : FormTree) (asked : Asked) → IsAskedWritten asked → ArePartsWellTyped f names asked → ArePartsWritten f
    parts-have (number x) asked h w = tt
    parts-have (text ps) asked h w = tt
    parts-have (truth b) asked h w = tt
    parts-have (name x) asked h w = tt
    parts-have (call f es) asked h w = arguments-have es (parameters_of (function_named f names.functions)) (arguments-asked f names n) w
    parts-have (group e) asked h w = typed-has e (no_whole asked) (no-whole-typed asked h, no-whole-value asked) w
    parts-have (list es) asked h w =
        items-choice (asked_list_item asked) (asked_among es asked) (AreItemsWellTyped es names) (AreValuesWritten es) (asked-list-written asked h)
        (λ a. among-has es asked (asked_among es asked) h a) (λ lone given k a. items-have es lone given k a) w
    parts-have (mapping ps) asked h w =
        items-choice (asked_map_item asked) (asked_among_values ps asked) (ArePairsWellTyped ps names) (ArePairsWritten ps) (asked-map-written asked h)
        (λ a. among-values-has ps asked (asked_among_values ps asked) h a) (λ lone given k a. pairs-have ps lone given k a) w
    parts-have (item a i) asked h w = (typed-has a Value (tt, refl) w.0, typed-has i Value (tt, refl) w.1)
    parts-have (key a k) asked h w = (typed-has a Value (tt, refl) w.0, typed-has k Value (tt, refl) w.1)
    parts-have (method a m es) asked h w =
        let receiver : IsValueWritten a = typed-has a Value (tt, refl) w.0 in
        let t : is_solid (type_of a) ≡ true = has-type a receiver in
        let row : Option Row = row_of (type_of a) m (count es) in
        (receiver, arguments-have es (taken_behind (type_of a) m es) (taken-choice (is_known (type_of a)) (taken_by row) (unknown_types es) (written-known (type_of a) t) (taken-written row (row-written (type_of a) m (count es) t))) w.1)
    parts-have (prefix o a) asked h w = typed-has a Value (tt, refl) w
    parts-have (binary a o b) asked h w = (typed-has a Value (tt, refl) w.0, typed-has b Value (tt, refl) w.1)
    parts-have (choice c a b) asked h w = (typed-has c Value (tt, refl) w.0, typed-has a Value (tt, refl) w.1, typed-has b Value (tt, refl) w.2)
    parts-have (dependency a b) asked h w = (typed-has a Value (tt, refl) w.0, typed-has b Value (tt, refl) w.1)

    pub arguments-have : (es : Trees) (ts : List Ty) → AreWritten ts → AreArgumentsWellTyped es names ts → AreValuesWritten es
    arguments-have none ts h w = tt
    arguments-have (more e es) [] h w = (typed-has e Value (tt, refl) w.0, arguments-have es [] tt w.1)
    arguments-have (more e es) (t ∷ ts) h w = (typed-has e (This t) (h.0, refl) w.0, arguments-have es ts h.1 w.1)

    items-have : (es : Trees) (lone : Bool) (asked : Asked) → IsAskedOfValue asked → AreItemsWellTyped es names lone asked → AreValuesWritten es
    items-have none lone asked h w = tt
    items-have (more e es) lone asked h w = (typed-has e (asked_of_item lone e asked) (item-asked (lone && not (is_open e)) asked h) w.0, items-have es (lone && is_open e) asked h w.1)

    pairs-have : (ps : TreePairs) (lone : Bool) (asked : Asked) → IsAskedOfValue asked → ArePairsWellTyped ps names lone asked → ArePairsWritten ps
    pairs-have no_pairs lone asked h w = tt
    pairs-have (more_pairs k x ps) lone asked h w = (
      typed-has k Value (tt, refl) w.0,
      typed-has x (asked_of_item lone x asked) (item-asked (lone && not (is_open x)) asked h) w.1,
      pairs-have ps (lone && is_open x) asked h w.2,
    )

    among-has : (es : Trees) (asked given : Asked) → IsAskedWritten asked → AreItemsWellTyped es names true given → IsAskedOfValue (asked_among es asked)
    among-has none asked given h w = (unasked-typed asked h, unasked-value asked)
    among-has (more e es) asked given h w =
        among-choice (is_open e) e (asked_among es asked) given (λ lone. AreItemsWellTyped es names lone given) (IsWellTyped e names) refl
        (λ a. typed-has e Value (tt, refl) a) (λ a. among-has es asked given h a) w.0 w.1

    among-values-has : (ps : TreePairs) (asked given : Asked) → IsAskedWritten asked → ArePairsWellTyped ps names true given → IsAskedOfValue (asked_among_values ps asked)
    among-values-has no_pairs asked given h w = (unasked-typed asked h, unasked-value asked)
    among-values-has (more_pairs k x ps) asked given h w =
        among-choice (is_open x) x (asked_among_values ps asked) given (λ lone. ArePairsWellTyped ps names lone given) (IsWellTyped x names) refl
        (λ a. typed-has x Value (tt, refl) a) (λ a. among-values-has ps asked given h a) w.1 w.2

  -- what the walk judges

  pub value-typed : (e : Tree) (asked : Asked) → IsAskedWritten asked → is_value asked ≡ true → (judge e names asked).broken ≡ None → IsValueWritten (judge e names asked).tree
  value-typed e asked h v q = typed-has (judge e names asked).tree asked (h, v) (well-typed e names asked q)

  pub call-typed : (e : Tree) → (judge e names Whole).broken ≡ None → IsCallWritten (judge e names Whole).tree
  call-typed e q = whole-has (judge e names Whole).tree (well-typed e names Whole q)
    where
      whole-has : (t : Tree) → IsWellTyped t names Whole → IsCallWritten t
      whole-has (node at t f) w =
          let parts : ArePartsWritten f = parts-have f Whole tt w.2 in
          (subst (λ (u : Ty). is_result u ≡ true) (sym w.0) (whole-result names n f (or-deep-none (rule_at names Whole f) (type_at names Whole f) w.1).0 parts), parts)

  pub arguments-typed : (es : Trees) (ts : List Ty) → AreWritten ts → (judge_arguments es names ts).broken ≡ None → AreValuesWritten (judge_arguments es names ts).trees
  arguments-typed es ts h q = arguments-have (judge_arguments es names ts).trees ts h (well-typed-arguments es names ts q)
