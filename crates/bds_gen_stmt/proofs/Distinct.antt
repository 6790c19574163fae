-- No two globals of a well-typed script have one name, so its unit is small.
use Rattle.std.proofs.Common.{◌≡◌, ◌≤◌, ◌||◌, ℕ, List, [], ◌∷◌, ◌++◌, Some, None, false, refl, sym, ◌∙◌, ap, subst, arith, if◌then◌else◌}
use Rattle.std.specs.List.{AllByRecursion, list_any}
use Rattle.std.specs.Str.{bytes_eq}
use Rattle.bds_tree.specs.StmtTree.{PartTree, ScriptTree, stmt, line, declare, infer, no_right, a_right, a_function, an_include, a_statement}
use Rattle.bds_check_names.specs.declared.names.Names.{Names}
use Rattle.bds_check_names.specs.declared.names.Head.{Head}
use Rattle.bds_check_names.specs.declared.names.Variable.{Variable}
use Rattle.bds_check_names.specs.Scopes.{any_named, variable, top}
use Rattle.bds_check_rules.specs.StmtBreaks.{right_type, given_rule}
use Rattle.bds_check_typing.specs.Known.{IsFullyTyped}
use Rattle.bds_check_typing.specs.Program.{with_head}
use Rattle.bds_check_typing.specs.WellTypedScripts.{AreWellTypedParts, first_names}
use Rattle.bds_check_typing.specs.WellTypedStmts.{names_behind}
use Rattle.bds_check_size.specs.ScriptSize.{Settings, program_bound, global_names, AreDistinct}
use Rattle.bds_check_size.proofs.ScriptBounds.{program-small}
use Rattle.bds_gen_flow.proofs.ExprParts.{or-none}
use Rattle.bds_gen_stmt.specs.Sizes.{codes_size}
use Rattle.bds_gen_stmt.specs.UnitCode.{unit_of}
use Rattle.bds_gen_stmt.proofs.ParSizes.{program-size}
use Rattle.bds_gen_stmt.proofs.ParsWhole.{named-behind, turned}
use Rattle.bds_gen_stmt.proofs.TopFlow.{is-new}

-- names that none of these variables has
abbrev AreNew : List Variable → List (List ℕ) → Type 0
AreNew gs xs = AllByRecursion (λ x. any_named x gs ≡ false) xs

apart-from : (xs : List (List ℕ)) (gs : List Variable) (v : Variable) → AreNew (gs ++ v ∷ []) xs → AreNew gs xs × (list_any (λ y. bytes_eq v.name y) xs ≡ false)
apart-from [] gs v h = (tt, refl)
apart-from (x ∷ xs) gs v h =
    let both = or-none (any_named x gs) (bytes_eq x v.name) (sym (named-behind x gs v) ∙ h.0) in
    let rest = apart-from xs gs v h.1 in
    ((both.0, rest.0), ap (λ b. b || list_any (λ y. bytes_eq v.name y) xs) (turned x v.name false both.1) ∙ rest.1)

one-more : (gs : List Variable) (v : Variable) (xs : List (List ℕ)) → any_named v.name gs ≡ false → AreDistinct xs → AreNew (if any_named v.name gs then gs else gs ++ v ∷ []) xs → AreDistinct (v.name ∷ xs) × AreNew gs (v.name ∷ xs)
one-more gs v xs d h k =
    let a = apart-from xs gs v (subst (λ b. AreNew (if b then gs else gs ++ v ∷ []) xs) d k) in
    ((a.1, h), (d, a.0))

distinct : (ps : List PartTree) (all names : Names) (before : List Head) → AreWellTypedParts ps all before names → AreDistinct (global_names ps) × AreNew names.globals (global_names ps)
distinct [] all names before w = (tt, tt)
distinct (a_statement (stmt at (line (declare t x no_right))) ∷ ps) all names before w =
    let s = stmt at (line (declare t x no_right)) in
    let r = distinct ps all (names_behind s names top) (with_head before (a_statement s)) w.1 in
    one-more names.globals (variable x t) (global_names ps) (is-new names x None w.0.1) r.0 r.1
distinct (a_statement (stmt at (line (declare t x (a_right y)))) ∷ ps) all names before w =
    let s = stmt at (line (declare t x (a_right y))) in
    let r = distinct ps all (names_behind s names top) (with_head before (a_statement s)) w.1 in
    one-more names.globals (variable x t) (global_names ps) (is-new names x (given_rule t (Some (right_type y))) w.0.1) r.0 r.1
distinct (a_statement (stmt at (line (infer x y))) ∷ ps) all names before w =
    let s = stmt at (line (infer x y)) in
    let r = distinct ps all (names_behind s names top) (with_head before (a_statement s)) w.1 in
    one-more names.globals (variable x (right_type y)) (global_names ps) (is-new names x None w.0.1) r.0 r.1
distinct (a_statement (stmt at (line l)) ∷ ps) all names before w = distinct ps all names (with_head before (a_statement (stmt at (line l)))) w.1
distinct (a_statement (stmt at f) ∷ ps) all names before w = distinct ps all names (with_head before (a_statement (stmt at f))) w.1
distinct (a_function f ∷ ps) all names before w = distinct ps all names (with_head before (a_function f)) w.1
distinct (an_include i ∷ ps) all names before w = distinct ps all names (with_head before (an_include i)) w.1

pub unit-small : (ss : Settings) (args : List (List ℕ)) (s : ScriptTree) → IsFullyTyped s → codes_size (unit_of ss args s).functions ≤ program_bound ss args s
unit-small ss args s typed =
    let d = (distinct s.parts _ (first_names s.parts) [] typed.0.parts).0 in
    let e = program-size ss args s in
    let b = program-small ss args s d in
    omega (arith, e, b)
