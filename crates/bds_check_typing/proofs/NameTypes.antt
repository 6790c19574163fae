-- Which names have types: those behind a declaration of a type, in a block, and in a function.
use Rattle.std.proofs.Common.{◌≡◌, ℕ, Bool, true, false, not, List, [], ◌∷◌, ◌++◌, map, drop, Option, Some, None, refl, sym, subst, ◌∙◌, if◌then◌else◌, rules}
use Rattle.std.specs.Prelude.{⊤}
use Rattle.std.specs.List.{AllByRecursion}
use Rattle.bds_value.specs.declared.value.At.{At}
use Rattle.bds_value.specs.declared.value.Ty.{Ty}
use Rattle.bds_value.specs.Fields.{is_solid}
use Rattle.bds_tree.specs.declared.stmt.Parameter.{Parameter}
use Rattle.bds_tree.specs.Tree.{type_of}
use Rattle.bds_tree.specs.StmtTree.{SuffixTree, at_index, at_key, PlaceTree, SmallFormTree, small_declare, small_infer, SmallTree, StmtTree, LineTree, RightTree, ActFormTree, PartTree, stmt, line, declare, infer, return, right_expr, right_act, act, sys, task, dep, goal, par_call, par_block, a_function, an_include, a_statement}
use Rattle.bds_tree.specs.StmtShape.{is_result}
use Rattle.bds_check_names.specs.declared.names.Names.{Names}
use Rattle.bds_check_names.specs.declared.names.Variable.{Variable}
use Rattle.bds_check_names.specs.declared.names.Asked.{Asked}
use Rattle.bds_check_names.specs.declared.names.Asked.TheVariants.{Value, This}
use Rattle.bds_check_names.specs.declared.names.Site.{Site}
use Rattle.bds_check_rules.specs.declared.rules.Rule.{Rule}
use Rattle.bds_check_rules.specs.declared.rules.Rule.TheVariants as rule
use Rattle.bds_check_names.specs.Types.{is_known}
use Rattle.bds_check_names.specs.Scopes.{variable, found, type_named, is_missing, any_named, declare_in, with_locals, with_globals, declare as declared, with_local, is_value}
use Rattle.bds_check_rules.specs.Declarations.{declared_by_small_form, names_with}
use Rattle.bds_check_rules.specs.Pieces.{when as broken_if}
use Rattle.bds_check_rules.specs.StmtBreaks.{small_breaks, stmt_breaks, into, part_ty, place_ty, is_wrong_suffix, is_bad_suffix, any_bad_suffix, place_breaks, act_form_type, right_type, any_dependency, body_rule, commands_of, is_empty_list, act_breaks}
use Rattle.std.specs.List.{list_any}
use Rattle.bds_check_typing.specs.Walk.{placed, judge}
use Rattle.bds_check_typing.specs.StmtParts.{judge_suffixes, judge_place, judge_small_form, judge_small, returned}
use Rattle.bds_check_typing.specs.StmtWalk.{judge_stmt, judge_right, judge_act_form}
use Rattle.bds_check_typing.specs.Program.{heads_of, declare_parameters, with_parameters}
use Rattle.bds_check_typing.specs.Known.{AreWritten, IsHeadWritten, AreVariablesWritten, AreNamesWritten, IsAskedWritten, AreSmallFormTypesWritten, AreSmallTypesWritten, AreStmtTypesWritten, ArePartTypesWritten}
use Rattle.bds_check_typing.proofs.WellTypedLaws.{first-left, first-right, placed-none}
use Rattle.bds_check_typing.proofs.WellTypedPartLaws.{place-kept}
use Rattle.bds_check_typing.proofs.Agreeing.{when-none, or-none}
use Rattle.bds_check_typing.proofs.Written.{text-written, texts-written, result-written, list-part-written, map-part-written}
use Rattle.bds_check_typing.proofs.ValueTypes.{name-written, has-type, value-typed}

-- One more variable

pub one-more-typed : (vs : List Variable) (v : Variable) → AreVariablesWritten vs → is_solid v.ty ≡ true → AreVariablesWritten (vs ++ v ∷ [])
one-more-typed [] v h k = (k, tt)
one-more-typed (w ∷ vs) v h k = (h.0, one-more-typed vs v h.1 k)

variables-choice : (b : Bool) (vs ws : List Variable) → AreVariablesWritten vs → AreVariablesWritten ws → AreVariablesWritten (if b then vs else ws)
variables-choice true vs ws h k = h
variables-choice false vs ws h k = k

pub declare-in-typed : (start : ℕ) (v : Variable) (vs : List Variable) → AreVariablesWritten vs → is_solid v.ty ≡ true → AreVariablesWritten (declare_in start v vs)
declare-in-typed start v vs h k = variables-choice (any_named v.name (drop start vs)) vs (vs ++ v ∷ []) h (one-more-typed vs v h k)

names-choice : (b : Bool) (m n : Names) → AreNamesWritten m → AreNamesWritten n → AreNamesWritten (if b then m else n)
names-choice true m n h k = h
names-choice false m n h k = k

pub declared-typed : (names : Names) (site : Site) (x : List ℕ) (t : Ty) → AreNamesWritten names → is_solid t ≡ true → AreNamesWritten (declared names site x t)
declared-typed names site x t n h =
    names-choice site.at_top (with_globals names (declare_in 0 (variable x t) names.globals)) (with_locals names (declare_in site.start (variable x t) names.locals))
    (record { functions = n.functions; globals = declare-in-typed 0 (variable x t) names.globals n.globals h; locals = n.locals })
    (record { functions = n.functions; globals = n.globals; locals = declare-in-typed site.start (variable x t) names.locals n.locals h })

pub with-local-typed : (names : Names) (x : List ℕ) (t : Ty) → AreNamesWritten names → is_solid t ≡ true → AreNamesWritten (with_local names x t)
with-local-typed names x t n h = record { functions = n.functions; globals = n.globals; locals = one-more-typed names.locals (variable x t) n.locals h }

-- Places

into-written : (t : Ty) (s : SuffixTree) → is_solid t ≡ true → is_bad_suffix t s ≡ false → is_solid (into t s) ≡ true
into-written t (at_index e) h q = list-part-written t h q
into-written t (at_key e) h q = map-part-written t h q

part-written : (t : Ty) (ss : List SuffixTree) → is_solid t ≡ true → any_bad_suffix t ss ≡ false → is_solid (part_ty t ss) ≡ true
part-written t [] h q = h
part-written t (s ∷ ss) h q = let parts : (is_bad_suffix t s ≡ false) × (any_bad_suffix (into t s) ss ≡ false) = or-none (is_bad_suffix t s) (any_bad_suffix (into t s) ss) q in part-written (into t s) ss (into-written t s h parts.0) parts.1

-- of a place that breaks no rule
pub place-written : (names : Names) → AreNamesWritten names → (p : PlaceTree) → place_breaks names p ≡ None → is_solid (place_ty names p) ≡ true
place-written names n p q =
    let bad : Option Rule = broken_if (any_bad_suffix (type_named p.name names) p.suffixes) rule.BadItem None in
    let wrong : Option Rule = broken_if (list_any is_wrong_suffix p.suffixes) rule.WrongType bad in
    let there : (is_missing names.finding (found p.name names) ≡ false) × (wrong ≡ None) = when-none (is_missing names.finding (found p.name names)) rule.UnknownName wrong q in
    part-written (type_named p.name names) p.suffixes (name-written p.name names n there.0)
    (when-none (any_bad_suffix (type_named p.name names) p.suffixes) rule.BadItem None (when-none (list_any is_wrong_suffix p.suffixes) rule.WrongType bad there.1).1).0

-- what is asked of the right side of an assignment
pub place-asked : (names : Names) → AreNamesWritten names → (p : PlaceTree) → (judge_place p names).broken ≡ None → is_solid (place_ty names p) ≡ true
place-asked names n p q =
    let typed : PlaceTree = (judge_place p names).place in
    subst (λ (t : Ty). is_solid t ≡ true) (place-kept p names)
    (place-written names n typed (placed-none p.at (place_breaks names typed) (first-right (judge_suffixes p.suffixes names).broken (placed p.at (place_breaks names typed)) q)))

-- Right sides

-- an act that is a value
pub act-written : (names : Names) (asked : Asked) (f : ActFormTree) → is_value asked ≡ true → act_breaks names asked f ≡ None → is_solid (act_form_type f) ≡ true
act-written names asked (sys ps) v q = text-written
act-written names asked (task os b) v q = text-written
act-written names asked (dep os b) v q =
    let void : Option Rule = broken_if (is_value asked) rule.VoidValue None in
    let body : Option Rule = body_rule b void in
    absurd (let no_value : is_value asked ≡ false = (when-none (is_value asked) rule.VoidValue None (when-none (is_empty_list (commands_of b)) rule.NoCommand void (when-none (not (any_dependency os)) rule.NoDep body q).1).1).0 in search (rules, sym v ∙ no_value))
act-written names asked (goal e) v q = texts-written
act-written names asked (par_call f es) v q = text-written
act-written names asked (par_block b) v q = text-written

pub right-written : (names : Names) → AreNamesWritten names → (r : RightTree) (asked : Asked) → IsAskedWritten asked → is_value asked ≡ true → (judge_right r names asked).broken ≡ None → is_solid (right_type (judge_right r names asked).right) ≡ true
right-written names n (right_expr e) asked h v q = has-type (judge e names asked).tree (value-typed names n e asked h v q)
right-written names n (right_act (act at f)) asked h v q =
    let typed : ActFormTree = (judge_act_form f names).form in
    act-written names asked typed v (placed-none at (act_breaks names asked typed) (first-right (judge_act_form f names).broken (placed at (act_breaks names asked typed)) q))

-- what is asked of the value of a `return`

abbrev pub IsReturnTyped : Option Ty → Type 0
IsReturnTyped None = ⊤
IsReturnTyped (Some t) = is_result t ≡ true

returned-choice : (t : Ty) (b : Bool) → is_result t ≡ true → is_known t ≡ b → IsAskedWritten (if b then This t else Value)
returned-choice t true h k = result-written t h k
returned-choice t false h k = tt

pub returned-typed : (r : Option Ty) → IsReturnTyped r → IsAskedWritten (returned r)
returned-typed None h = tt
returned-typed (Some t) h = returned-choice t (is_known t) h refl

value-choice : (t : Ty) (b : Bool) → is_value (if b then This t else Value) ≡ true
value-choice t true = refl
value-choice t false = refl

pub returned-value : (r : Option Ty) → is_value (returned r) ≡ true
returned-value None = refl
returned-value (Some t) = value-choice t (is_known t)

-- The names behind a statement, and behind a part of the head of a loop

pub line-names-typed : (names : Names) → AreNamesWritten names → (at : At) (l : LineTree) (site : Site) → AreStmtTypesWritten (stmt at (line l)) → (judge_stmt (stmt at (line l)) names site).broken ≡ None → AreNamesWritten (judge_stmt (stmt at (line l)) names site).names
line-names-typed names n at (declare t x r) site h q = declared-typed names site x t n h.0
line-names-typed names n at (infer x r) site h q =
    let typed : RightTree = (judge_right r names Value).right in
    declared-typed names site x (right_type typed) n (right-written names n r Value tt refl (first-left (judge_right r names Value).broken (placed at (stmt_breaks names site (line (infer x typed)))) q))
line-names-typed names n at _ site h q = n

pub stmt-names-typed : (names : Names) → AreNamesWritten names → (s : StmtTree) (site : Site) → AreStmtTypesWritten s → (judge_stmt s names site).broken ≡ None → AreNamesWritten (judge_stmt s names site).names
stmt-names-typed names n (stmt at (line l)) site h q = line-names-typed names n at l site h q
stmt-names-typed names n (stmt at _) site h q = n

small-form-names-typed : (names : Names) → AreNamesWritten names → (f : SmallFormTree) (site : Site) → AreSmallFormTypesWritten f → (judge_small_form f names).broken ≡ None → AreNamesWritten (names_with names site (declared_by_small_form (judge_small_form f names).form))
small-form-names-typed names n (small_declare t x None) site h q = declared-typed names site x t n h
small-form-names-typed names n (small_declare t x (Some e)) site h q = declared-typed names site x t n h
small-form-names-typed names n (small_infer x e) site h q = declared-typed names site x (type_of (judge e names Value).tree) n (has-type (judge e names Value).tree (value-typed names n e Value tt refl q))
small-form-names-typed names n _ site h q = n

pub small-names-typed : (names : Names) → AreNamesWritten names → (s : Option SmallTree) (site : Site) → AreSmallTypesWritten s → (judge_small s names site).broken ≡ None → AreNamesWritten (judge_small s names site).names
small-names-typed names n None site h q = n
small-names-typed names n (Some s) site h q = small-form-names-typed names n s.form site h (first-left (judge_small_form s.form names).broken (placed s.at (small_breaks names site (judge_small_form s.form names).form)) q)

-- The names in a function

declare-parameters-typed : (vs : List Variable) (ps : List Parameter) → AreVariablesWritten vs → AllByRecursion (λ p. is_solid p.ty ≡ true) ps → AreVariablesWritten (declare_parameters vs ps)
declare-parameters-typed vs [] h k = h
declare-parameters-typed vs (p ∷ ps) h k = declare-parameters-typed (declare_in 0 (variable p.name p.ty) vs) ps (declare-in-typed 0 (variable p.name p.ty) vs h k.0) k.1

pub in-function-typed : (names : Names) → AreNamesWritten names → (ps : List Parameter) → AllByRecursion (λ p. is_solid p.ty ≡ true) ps → AreNamesWritten (with_parameters names ps)
in-function-typed names n ps h = record { functions = n.functions; globals = n.globals; locals = declare-parameters-typed [] ps tt h }

-- The functions of a script

parameter-types : (ps : List Parameter) → AllByRecursion (λ p. is_solid p.ty ≡ true) ps → AreWritten (map (λ p. p.ty) ps)
parameter-types [] h = tt
parameter-types (p ∷ ps) h = (h.0, parameter-types ps h.1)

pub heads-typed : (ps : List PartTree) → AllByRecursion ArePartTypesWritten ps → AllByRecursion IsHeadWritten (heads_of ps)
heads-typed [] h = tt
heads-typed (a_function f ∷ ps) h = ((parameter-types f.parameters h.0.1, h.0.0), heads-typed ps h.1)
heads-typed (an_include i ∷ ps) h = heads-typed ps h.1
heads-typed (a_statement s ∷ ps) h = heads-typed ps h.1
