-- In an accepted script whose written types can be written each value has a type, and functions see just the globals that the top level declares.
use Rattle.std.proofs.Common.{◌≡◌, ℕ, Option, None, List, [], ◌∷◌, refl, ap, sym, subst, ◌∙◌}
use Rattle.std.specs.List.{AllByRecursion}
use Rattle.bds_value.specs.declared.value.At.{At}
use Rattle.bds_value.specs.declared.value.Ty.{Ty}
use Rattle.bds_tree.specs.StmtTree.{StmtTree, LineTree, RightTree, PartTree, ScriptTree, stmt, line, each, declare, infer, a_function, an_include, a_statement}
use Rattle.bds_check_names.specs.declared.names.Names.{Names}
use Rattle.bds_check_names.specs.declared.names.Head.{Head}
use Rattle.bds_check_names.specs.declared.names.Variable.{Variable}
use Rattle.bds_check_names.specs.declared.names.Asked.TheVariants.{Value}
use Rattle.bds_check_names.specs.Scopes.{variable, declare_in, top, in_function}
use Rattle.bds_check_rules.specs.StmtBreaks.{stmt_breaks}
use Rattle.bds_check_typing.specs.Walk.{Broken, placed}
use Rattle.bds_check_typing.specs.StmtWalk.{JudgedRight, judge_block, judge_stmt, judge_right}
use Rattle.bds_check_typing.specs.Program.{heads_of, with_head, names_of, type_unless_broken, found_type_of, behind_stmt, globals_from, first_globals, globals_of, with_parameters, function_breaks, JudgedParts, judge_function, judge_parts, script_breaks, IsAccepted, typed}
use Rattle.bds_check_typing.specs.WellTypedScripts.{names_behind_parts, IsWellTypedUnder}
use Rattle.bds_check_typing.specs.Known.{AreVariablesWritten, AreNamesWritten, IsPartWritten, IsFullyTyped, AreStmtTypesWritten, ArePartTypesWritten, HasWrittenTypes}
use Rattle.bds_check_typing.proofs.WellTypedLaws.{first-left, first-right}
use Rattle.bds_check_typing.proofs.WellTypedStmtLaws.{names-kept}
use Rattle.bds_check_typing.proofs.WellTypedScriptLaws.{accepted-under, globals-kept}
use Rattle.bds_check_typing.proofs.FoundGlobals.{stmt-globals}
use Rattle.bds_check_typing.proofs.Written.{texts-written}
use Rattle.bds_check_typing.proofs.NameTypes.{stmt-names-typed, in-function-typed, heads-typed}
use Rattle.bds_check_typing.proofs.StmtTypes.{typed-stmt, typed-block}
use Rattle.bds_check_typing.proofs.FindingStmts.{right-alike}

-- The types of globals are found as the top level gives them

infer-found : (heads : List Head) (globals : List Variable) → AreNamesWritten (names_of heads globals) → (at : At) (x : List ℕ) (r : RightTree) → AreStmtTypesWritten (stmt at (line (infer x r))) → (judge_stmt (stmt at (line (infer x r))) (names_of heads globals) top).broken ≡ None →
    behind_stmt heads globals (stmt at (line (infer x r))) ≡ (judge_stmt (stmt at (line (infer x r))) (names_of heads globals) top).names.globals
infer-found heads globals n at x r h q =
    let names : Names = names_of heads globals in
    let j : JudgedRight = judge_right r names Value in
    let unbroken : j.broken ≡ None = first-left j.broken (placed at (stmt_breaks names top (line (infer x j.right)))) q in
    ap (λ (t : Ty). declare_in 0 (variable x t) globals) (ap found_type_of (right-alike r names Value n h unbroken) ∙ ap (type_unless_broken j.right) unbroken)

line-found : (heads : List Head) (globals : List Variable) → AreNamesWritten (names_of heads globals) → (at : At) (l : LineTree) → AreStmtTypesWritten (stmt at (line l)) → (judge_stmt (stmt at (line l)) (names_of heads globals) top).broken ≡ None →
    behind_stmt heads globals (stmt at (line l)) ≡ (judge_stmt (stmt at (line l)) (names_of heads globals) top).names.globals
line-found heads globals n at (declare t x r) h q = refl
line-found heads globals n at (infer x r) h q = infer-found heads globals n at x r h q
line-found heads globals n at _ h q = refl

stmt-found : (heads : List Head) (globals : List Variable) → AreNamesWritten (names_of heads globals) → (s : StmtTree) → AreStmtTypesWritten s → (judge_stmt s (names_of heads globals) top).broken ≡ None → behind_stmt heads globals s ≡ (judge_stmt s (names_of heads globals) top).names.globals
stmt-found heads globals n (stmt at (line l)) h q = line-found heads globals n at l h q
stmt-found heads globals n (stmt at _) h q = refl

abbrev AreGlobalsFound : List Head → List Variable → Names → List Head → List PartTree → Type 0
AreGlobalsFound heads globals all before ps =
    (globals_from heads globals ps ≡ (names_behind_parts (judge_parts all before (names_of heads globals) ps).parts (names_of heads globals)).globals) × AreVariablesWritten (globals_from heads globals ps)

globals-found : (heads : List Head) (globals : List Variable) (all : Names) (before : List Head) (ps : List PartTree) → AreNamesWritten (names_of heads globals) → AllByRecursion ArePartTypesWritten ps → (judge_parts all before (names_of heads globals) ps).broken ≡ None → AreGlobalsFound heads globals all before ps
globals-found heads globals all before [] n h q = (refl, n.globals)
globals-found heads globals all before (a_function f ∷ ps) n h q =
    globals-found heads globals all (with_head before (a_function f)) ps n h.1 (first-right (judge_function all before f).broken (judge_parts all (with_head before (a_function f)) (names_of heads globals) ps).broken q)
globals-found heads globals all before (an_include i ∷ ps) n h q = globals-found heads globals all before ps n h.1 q
globals-found heads globals all before (a_statement s ∷ ps) n h q =
    let now : Names = names_of heads globals in
    let behind : Names = (judge_stmt s now top).names in
    let here : Option Broken = (judge_stmt s now top).broken in
    let others : JudgedParts = judge_parts all before behind ps in
    let q0 : here ≡ None = first-left here others.broken q in
    let same : behind ≡ names_of heads behind.globals = stmt-globals heads globals s in
    let m : AreNamesWritten (names_of heads behind.globals) = subst AreNamesWritten same (stmt-names-typed now n s top h.0 q0) in
    let q1 : (judge_parts all before (names_of heads behind.globals) ps).broken ≡ None = subst (λ (names : Names). (judge_parts all before names ps).broken ≡ None) same (first-right here others.broken q) in
    let rest : AreGlobalsFound heads behind.globals all before ps = globals-found heads behind.globals all before ps m h.1 q1 in
    let found : behind_stmt heads globals s ≡ behind.globals = stmt-found heads globals n s h.0 q0 in
    let front : globals_from heads (behind_stmt heads globals s) ps ≡ globals_from heads behind.globals ps = ap (λ (vs : List Variable). globals_from heads vs ps) found in (
      front ∙ rest.0 ∙ ap (λ (names : Names). (names_behind_parts (judge_parts all before names ps).parts names).globals) (sym same) ∙ ap (λ (names : Names). (names_behind_parts others.parts names).globals) (names-kept s now top),
      subst AreVariablesWritten (sym front) rest.1,
    )

-- Each value has a type

typed-parts : (ps : List PartTree) (all : Names) (before : List Head) (names : Names) → AreNamesWritten all → AreNamesWritten names → AllByRecursion ArePartTypesWritten ps → (judge_parts all before names ps).broken ≡ None → AllByRecursion IsPartWritten (judge_parts all before names ps).parts
typed-parts [] all before names m n h q = tt
typed-parts (a_function f ∷ ps) all before names m n h q =
    let inside : Names = with_parameters all f.parameters in
    let here : Option Broken = (judge_function all before f).broken in
    let others : JudgedParts = judge_parts all (with_head before (a_function f)) names ps in
    let body : (judge_block f.body inside (in_function f.result)).broken ≡ None = first-left (judge_block f.body inside (in_function f.result)).broken (placed f.at (function_breaks before (judge_function all before f).function)) (first-left here others.broken q) in (
      (h.0.1, h.0.0, typed-block f.body inside (in_function f.result) (in-function-typed all m f.parameters h.0.1) h.0.0 h.0.2 body),
      typed-parts ps all (with_head before (a_function f)) names m n h.1 (first-right here others.broken q),
    )
typed-parts (an_include i ∷ ps) all before names m n h q = (tt, typed-parts ps all before names m n h.1 q)
typed-parts (a_statement s ∷ ps) all before names m n h q =
    let behind : Names = (judge_stmt s names top).names in
    let here : Option Broken = (judge_stmt s names top).broken in
    let others : JudgedParts = judge_parts all before behind ps in
    let q0 : here ≡ None = first-left here others.broken q in
    (typed-stmt s names top n tt h.0 q0, typed-parts ps all before behind m (stmt-names-typed names n s top h.0 q0) h.1 (first-right here others.broken q))

-- Scripts

first-names-typed : (ps : List PartTree) → AllByRecursion ArePartTypesWritten ps → AreNamesWritten (names_of (heads_of ps) first_globals)
first-names-typed ps h = record { functions = heads-typed ps h; globals = (texts-written, tt); locals = tt }

-- the globals that are found are those that the top level declares, whatever names are in force in functions
pub globals-as-declared : (ps : List PartTree) (all : Names) → AllByRecursion ArePartTypesWritten ps → (judge_parts all [] (names_of (heads_of ps) first_globals) ps).broken ≡ None →
    globals_of ps ≡ (names_behind_parts (judge_parts all [] (names_of (heads_of ps) first_globals) ps).parts (names_of (heads_of ps) first_globals)).globals
globals-as-declared ps all h q = (globals-found (heads_of ps) first_globals all [] ps (first-names-typed ps h) h q).0

pub written-typed : (source : ScriptTree) → HasWrittenTypes source → IsAccepted source → IsFullyTyped (typed source)
written-typed source h q =
    let ps : List PartTree = source.parts in
    let heads : List Head = heads_of ps in
    let start : Names = names_of heads first_globals in
    let all : Names = names_of heads (globals_of ps) in
    let js : JudgedParts = judge_parts all [] start ps in
    let unbroken : js.broken ≡ None = first-left js.broken (placed source.at (script_breaks js.parts)) q in
    let n : AreNamesWritten start = first-names-typed ps h in
    let found : AreGlobalsFound heads first_globals all [] ps = globals-found heads first_globals all [] ps n h unbroken in
    let m : AreNamesWritten all = record { functions = n.functions; globals = found.1; locals = tt } in (
      subst (IsWellTypedUnder (typed source)) (found.0 ∙ sym (globals-kept source)) (accepted-under source q),
      subst AreVariablesWritten (found.0 ∙ sym (globals-kept source)) found.1,
      typed-parts ps all [] start m n h unbroken,
    )
