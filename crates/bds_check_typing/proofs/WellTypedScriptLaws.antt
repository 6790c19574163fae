-- A script in which the walk meets no broken node is well typed.
use Rattle.std.proofs.Common.{◌≡◌, Option, None, List, [], ◌∷◌, refl, ap, sym, subst, inl}
use Rattle.bds_tree.specs.StmtTree.{FunctionTree, PartTree, ScriptTree, a_function, an_include, a_statement}
use Rattle.bds_check_names.specs.declared.names.Names.{Names}
use Rattle.bds_check_names.specs.declared.names.Head.{Head}
use Rattle.bds_check_names.specs.declared.names.Variable.{Variable}
use Rattle.bds_check_names.specs.Scopes.{top, in_function}
use Rattle.bds_check_typing.specs.Walk.{Broken, placed}
use Rattle.bds_check_typing.specs.StmtWalk.{judge_block, judge_stmt}
use Rattle.bds_check_typing.specs.Program.{head_of, heads_of, with_head, names_of, first_globals, globals_of, with_parameters, function_breaks, JudgedParts, judge_function, judge_part, judge_parts, script_breaks, IsAccepted, typed}
use Rattle.bds_check_typing.specs.WellTypedStmts.{IsWellTypedBlock}
use Rattle.bds_check_typing.specs.WellTypedScripts.{IsWellTypedFunction, IsWellTypedPart, names_behind_part, names_behind_parts, AreWellTypedParts, AreFoundAs, globals_in, IsWellTypedUnder, IsWellTypedFrom}
use Rattle.bds_check_typing.proofs.WellTypedLaws.{first-left, first-right, placed-none}
use Rattle.bds_check_typing.proofs.WellTypedPartLaws.{closed}
use Rattle.bds_check_typing.proofs.WellTypedStmtLaws.{names-kept, stmt-typed, block-typed}
use Rattle.bds_check_typing.proofs.FoundGlobals.{parts-found}

function-typed : (f : FunctionTree) (names : Names) (before : List Head) → (judge_function names before f).broken ≡ None → IsWellTypedFunction (judge_function names before f).function names before
function-typed f names before q =
    let inside : Names = with_parameters names f.parameters in
    closed (IsWellTypedBlock (judge_block f.body inside (in_function f.result)).block inside (in_function f.result)) f.at (judge_block f.body inside (in_function f.result)).broken
    (function_breaks before (judge_function names before f).function) (block-typed f.body inside (in_function f.result)) q

pub part-typed : (p : PartTree) (all : Names) (before : List Head) (names : Names) → (judge_part all before names p).broken ≡ None → IsWellTypedPart (judge_part all before names p).part all before names
part-typed (a_function f) all before names q = function-typed f all before q
part-typed (an_include i) all before names q = tt
part-typed (a_statement s) all before names q = stmt-typed s names top q

-- What typing leaves as it is

head-kept : (p : PartTree) (all : Names) (before : List Head) (names : Names) (heads : List Head) → with_head heads (judge_part all before names p).part ≡ with_head heads p
head-kept (a_function f) all before names heads = refl
head-kept (an_include i) all before names heads = refl
head-kept (a_statement s) all before names heads = refl

pub part-names-kept : (p : PartTree) (all : Names) (before : List Head) (names : Names) → (judge_part all before names p).names ≡ names_behind_part (judge_part all before names p).part names
part-names-kept (a_function f) all before names = refl
part-names-kept (an_include i) all before names = refl
part-names-kept (a_statement s) all before names = names-kept s names top

heads-kept : (ps : List PartTree) (all : Names) (before : List Head) (names : Names) → heads_of (judge_parts all before names ps).parts ≡ heads_of ps
heads-kept [] all before names = refl
heads-kept (a_function f ∷ ps) all before names = ap (λ (hs : List Head). head_of f ∷ hs) (heads-kept ps all (with_head before (a_function f)) names)
heads-kept (an_include i ∷ ps) all before names = heads-kept ps all before names
heads-kept (a_statement s ∷ ps) all before names = heads-kept ps all before (judge_stmt s names top).names

pub parts-typed : (ps : List PartTree) (all : Names) (before : List Head) (names : Names) → (judge_parts all before names ps).broken ≡ None → AreWellTypedParts (judge_parts all before names ps).parts all before names
parts-typed [] all before names q = tt
parts-typed (p ∷ ps) all before names q =
    let behind : Names = (judge_part all before names p).names in
    let here : Option Broken = (judge_part all before names p).broken in
    let others : JudgedParts = judge_parts all (with_head before p) behind ps in (
      part-typed p all before names (first-left here others.broken q),
      subst (λ (hs : List Head). AreWellTypedParts others.parts all hs (names_behind_part (judge_part all before names p).part names)) (sym (head-kept p all before names before))
          (subst (AreWellTypedParts others.parts all (with_head before p)) (part-names-kept p all before names) (parts-typed ps all (with_head before p) behind (first-right here others.broken q))),
    )

-- where the functions are those of the typed script
typed-under : (s : ScriptTree) (heads : List Head) (globals : List Variable) (js : JudgedParts) → heads ≡ heads_of js.parts →
    AreWellTypedParts js.parts (names_of heads globals) [] (names_of heads first_globals) → script_breaks js.parts ≡ None → IsWellTypedUnder (record { at = s.at; files = s.files; parts = js.parts }) globals
typed-under s heads globals js e parts breaks = record {
  parts = subst (λ (hs : List Head). AreWellTypedParts js.parts (names_of hs globals) [] (names_of hs first_globals)) e parts;
  breaks = breaks;
}

-- in the typed script, with the globals that are found in the source
pub accepted-under : (s : ScriptTree) → IsAccepted s → IsWellTypedUnder (typed s) (globals_of s.parts)
accepted-under s q =
    let heads : List Head = heads_of s.parts in
    let all : Names = names_of heads (globals_of s.parts) in
    let start : Names = names_of heads first_globals in
    let js : JudgedParts = judge_parts all [] start s.parts in
    typed-under s heads (globals_of s.parts) js (sym (heads-kept s.parts all [] start))
    (parts-typed s.parts all [] start (first-left js.broken (placed s.at (script_breaks js.parts)) q))
    (placed-none s.at (script_breaks js.parts) (first-right js.broken (placed s.at (script_breaks js.parts)) q))

-- the globals of the typed script, by the functions of its source
pub globals-kept : (s : ScriptTree) → globals_in (typed s) ≡ (names_behind_parts (typed s).parts (names_of (heads_of s.parts) first_globals)).globals
globals-kept s =
    let heads : List Head = heads_of s.parts in
    ap (λ (hs : List Head). (names_behind_parts (typed s).parts (names_of hs first_globals)).globals) (heads-kept s.parts (names_of heads (globals_of s.parts)) [] (names_of heads first_globals))

pub accepted-typed : (source : ScriptTree) → IsAccepted source → IsWellTypedFrom source (typed source)
accepted-typed source q =
    let heads : List Head = heads_of source.parts in
    let globals : List Variable = globals_of source.parts in record {
      found = subst (AreFoundAs globals) (sym (globals-kept source)) (parts-found heads first_globals first_globals (names_of heads globals) [] source.parts (refl, inl refl, tt));
      under = accepted-under source q;
    }
