-- What the first broken node is told by: what items ask of one another, and the globals that functions see. Each is the one that the walk finds.
use Rattle.std.proofs.Common.{◌≡◌, Bool, true, false, List, [], ◌∷◌, Option, Some, None, inl, inr, refl, ap, sym, subst, ◌∙◌, if◌then◌else◌, rules}
use Rattle.bds_value.specs.declared.value.At.{At}
use Rattle.bds_value.specs.declared.value.Ty.{Ty}
use Rattle.bds_value.specs.declared.value.Ty.TheVariants as ty
use Rattle.bds_tree.specs.Tree.{Tree, Trees, TreePairs, none, more, no_pairs, more_pairs, type_of}
use Rattle.bds_tree.specs.StmtTree.{StmtFormTree, RightTree, PartTree, stmt, line, declare, infer, a_function, an_include, a_statement}
use Rattle.bds_check_names.specs.declared.names.Names.{Names}
use Rattle.bds_check_names.specs.declared.names.Head.{Head}
use Rattle.bds_check_names.specs.declared.names.Variable.{Variable}
use Rattle.bds_check_names.specs.declared.names.Asked.{Asked}
use Rattle.bds_check_names.specs.declared.names.Asked.TheVariants.{Value, This}
use Rattle.bds_check_names.specs.Scopes.{variable, declare_in}
use Rattle.bds_check_rules.specs.StmtBreaks.{right_type}
use Rattle.bds_check_typing.specs.Walk.{Broken, Judged, judge, beside, value_beside, asked_beside, is_open}
use Rattle.bds_check_typing.specs.StmtWalk.{JudgedRight, judge_right}
use Rattle.bds_check_typing.specs.Program.{finding_names, globals_from, found_type, type_unless_broken, behind_stmt, behind_part}
use Rattle.bds_check_laws.specs.FirstBroken.{TypedOrNot, AsksBeside, OneOrOther, IsBeside, IsBesideValues, IsFoundType, AreGlobalsBehindForm, AreGlobalsBehindPart, AreGlobalsBehind}
use Rattle.bds_check_laws.proofs.TypedAsLaws.{Types, expr-types, right-types}

-- Where a tree has types, and where it has none

decided : {X : Type 0} {IsTyped : X → Type 0} (With : X → Type 0) (Without : Type 0) (found : Option Broken) (made : X) → Types found made IsTyped → (found ≡ None → With made) → ((b : Broken) → found ≡ Some b → Without) → TypedOrNot IsTyped With Without
decided With Without None made t w o = inl (made, t.to refl, w refl)
decided With Without (Some b) made t w o = inr (λ x h. absurd (let q : Some b ≡ None = (t.from x h).0 in search (rules, q)), o b refl)

by-types : {X : Type 0} {IsTyped : X → Type 0} (With : X → Type 0) (Without P : Type 0) (found : Option Broken) (made : X) → Types found made IsTyped → (found ≡ None → With made → P) → ((b : Broken) → found ≡ Some b → Without → P) → TypedOrNot IsTyped With Without → P
by-types With Without P None made t f g (inl h) = f refl (subst With (sym (t.from h.0 h.1).1) h.2)
by-types With Without P None made t f g (inr h) = absurd (h.0 made (t.to refl))
by-types With Without P (Some b) made t f g (inl h) = absurd (let q : Some b ≡ None = (t.from h.0 h.1).0 in search (rules, q))
by-types With Without P (Some b) made t f g (inr h) = g b refl h.1

-- What items ask of one another

chosen : (o : Bool) (x y : Asked) (P Q : Asked → Type 0) → P x → Q y → OneOrOther o (P (if o then x else y)) (Q (if o then x else y))
chosen true x y P Q h k = h
chosen false x y P Q h k = k

only-chosen : (o : Bool) (a x y : Asked) (P Q : Type 0) → (P → a ≡ x) → (Q → a ≡ y) → OneOrOther o P Q → a ≡ (if o then x else y)
only-chosen true a x y P Q h k p = h p
only-chosen false a x y P Q h k q = k q

asks-beside : (e : Tree) (names : Names) → AsksBeside e names (asked_beside (type_of (judge e names Value).tree) (judge e names Value).broken)
asks-beside e names =
    let j : Judged = judge e names Value in
    let a : Asked = asked_beside (type_of j.tree) j.broken in
    decided (λ (d : Tree). a ≡ This (type_of d)) (a ≡ Value) j.broken j.tree (expr-types e names Value) (λ q. ap (asked_beside (type_of j.tree)) q) (λ b q. ap (asked_beside (type_of j.tree)) q)

only-asks-beside : (e : Tree) (names : Names) (a : Asked) → AsksBeside e names a → a ≡ asked_beside (type_of (judge e names Value).tree) (judge e names Value).broken
only-asks-beside e names a h =
    let j : Judged = judge e names Value in
    by-types (λ (d : Tree). a ≡ This (type_of d)) (a ≡ Value) (a ≡ asked_beside (type_of j.tree) j.broken) j.broken j.tree (expr-types e names Value)
    (λ q w. w ∙ sym (ap (asked_beside (type_of j.tree)) q)) (λ b q w. w ∙ sym (ap (asked_beside (type_of j.tree)) q)) h

pub is-beside : (es : Trees) (names : Names) (asked : Asked) → IsBeside es names asked (beside es names asked)
is-beside none names asked = refl
is-beside (more e es) names asked =
    let j : Judged = judge e names Value in
    chosen (is_open e) (beside es names asked) (asked_beside (type_of j.tree) j.broken) (IsBeside es names asked) (AsksBeside e names) (is-beside es names asked) (asks-beside e names)

pub only-beside : (es : Trees) (names : Names) (asked a : Asked) → IsBeside es names asked a → a ≡ beside es names asked
only-beside none names asked a h = h
only-beside (more e es) names asked a h =
    let j : Judged = judge e names Value in
    only-chosen (is_open e) a (beside es names asked) (asked_beside (type_of j.tree) j.broken) (IsBeside es names asked a) (AsksBeside e names a) (only-beside es names asked a) (only-asks-beside e names a) h

pub is-value-beside : (ps : TreePairs) (names : Names) (asked : Asked) → IsBesideValues ps names asked (value_beside ps names asked)
is-value-beside no_pairs names asked = refl
is-value-beside (more_pairs k v ps) names asked =
    let j : Judged = judge v names Value in
    chosen (is_open v) (value_beside ps names asked) (asked_beside (type_of j.tree) j.broken) (IsBesideValues ps names asked) (AsksBeside v names) (is-value-beside ps names asked) (asks-beside v names)

pub only-value-beside : (ps : TreePairs) (names : Names) (asked a : Asked) → IsBesideValues ps names asked a → a ≡ value_beside ps names asked
only-value-beside no_pairs names asked a h = h
only-value-beside (more_pairs k v ps) names asked a h =
    let j : Judged = judge v names Value in
    only-chosen (is_open v) a (value_beside ps names asked) (asked_beside (type_of j.tree) j.broken) (IsBesideValues ps names asked a) (AsksBeside v names a) (only-value-beside ps names asked a) (only-asks-beside v names a) h

-- The globals that functions see

is-found-type : (heads : List Head) (globals : List Variable) (r : RightTree) → IsFoundType heads globals r (found_type heads globals r)
is-found-type heads globals r =
    let j : JudgedRight = judge_right r (finding_names heads globals) Value in
    let t : Ty = type_unless_broken j.right j.broken in
    decided (λ (q : RightTree). t ≡ right_type q) (t ≡ ty.Void) j.broken j.right (right-types r (finding_names heads globals) Value) (λ q. ap (type_unless_broken j.right) q) (λ b q. ap (type_unless_broken j.right) q)

only-found-type : (heads : List Head) (globals : List Variable) (r : RightTree) (t : Ty) → IsFoundType heads globals r t → t ≡ found_type heads globals r
only-found-type heads globals r t h =
    let j : JudgedRight = judge_right r (finding_names heads globals) Value in
    by-types (λ (q : RightTree). t ≡ right_type q) (t ≡ ty.Void) (t ≡ type_unless_broken j.right j.broken) j.broken j.right (right-types r (finding_names heads globals) Value)
    (λ q w. w ∙ sym (ap (type_unless_broken j.right) q)) (λ b q w. w ∙ sym (ap (type_unless_broken j.right) q)) h

are-globals-form : (heads : List Head) (globals : List Variable) (at : At) (f : StmtFormTree)
    → AreGlobalsBehindForm heads globals f (behind_stmt heads globals (stmt at f))
are-globals-form heads globals at (line (declare t x r)) = refl
are-globals-form heads globals at (line (infer x r)) = (found_type heads globals r, is-found-type heads globals r, refl)
are-globals-form heads globals at (line _) = refl
are-globals-form heads globals at _ = refl

only-globals-form : (heads : List Head) (globals : List Variable) (at : At) (f : StmtFormTree) (behind : List Variable)
    → AreGlobalsBehindForm heads globals f behind → behind ≡ behind_stmt heads globals (stmt at f)
only-globals-form heads globals at (line (declare t x r)) behind h = h
only-globals-form heads globals at (line (infer x r)) behind h = h.2 ∙ ap (λ (t : Ty). declare_in 0 (variable x t) globals) (only-found-type heads globals r h.0 h.1)
only-globals-form heads globals at (line _) behind h = h
only-globals-form heads globals at _ behind h = h

are-globals-part : (heads : List Head) (globals : List Variable) (p : PartTree) → AreGlobalsBehindPart heads globals p (behind_part heads globals p)
are-globals-part heads globals (a_function f) = refl
are-globals-part heads globals (an_include i) = refl
are-globals-part heads globals (a_statement (stmt at f)) = are-globals-form heads globals at f

only-globals-part : (heads : List Head) (globals : List Variable) (p : PartTree) (behind : List Variable) → AreGlobalsBehindPart heads globals p behind → behind ≡ behind_part heads globals p
only-globals-part heads globals (a_function f) behind h = h
only-globals-part heads globals (an_include i) behind h = h
only-globals-part heads globals (a_statement (stmt at f)) behind h = only-globals-form heads globals at f behind h

pub are-globals : (heads : List Head) (globals : List Variable) (ps : List PartTree) → AreGlobalsBehind heads globals ps (globals_from heads globals ps)
are-globals heads globals [] = refl
are-globals heads globals (p ∷ ps) = (behind_part heads globals p, are-globals-part heads globals p, are-globals heads (behind_part heads globals p) ps)

pub only-globals : (heads : List Head) (globals : List Variable) (ps : List PartTree) (behind : List Variable) → AreGlobalsBehind heads globals ps behind → behind ≡ globals_from heads globals ps
only-globals heads globals [] behind h = h
only-globals heads globals (p ∷ ps) behind h =
    only-globals heads h.0 ps behind h.2 ∙ ap (λ (vs : List Variable). globals_from heads vs ps) (only-globals-part heads globals p h.0 h.1)
