-- A well-typed script is accepted, and is typed already.
use Rattle.std.proofs.Common.{◌≡◌, Option, None, List, [], ◌∷◌, refl, ap, sym, subst, ◌∙◌}
use Rattle.bds_tree.specs.StmtTree.{FunctionTree, PartTree, ScriptTree, a_function, an_include, a_statement}
use Rattle.bds_check_names.specs.declared.names.Names.{Names}
use Rattle.bds_check_names.specs.declared.names.Head.{Head}
use Rattle.bds_check_rules.specs.declared.rules.Rule.{Rule}
use Rattle.bds_check_names.specs.Scopes.{top, in_function}
use Rattle.bds_check_typing.specs.Walk.{placed}
use Rattle.bds_check_typing.specs.Program.{heads_of, with_head, names_of, globals_of, with_parameters, JudgedFunction, JudgedPart, JudgedParts, JudgedScript, close_function, function_part, statement_part, also_part, close_parts, with_parts, judge_function, judge_part, judge_parts, judge_script, IsAccepted, typed}
use Rattle.bds_check_typing.specs.WellTypedScripts.{IsWellTypedFunction, IsWellTypedPart, names_behind_part, names_behind_parts, AreWellTypedParts, first_names, globals_in, IsWellTypedUnder}
use Rattle.bds_check_typing.specs.Known.{HasWrittenTypes}
use Rattle.bds_check_typing.proofs.AcceptedStmts.{stmt-whole, block-whole}
use Rattle.bds_check_typing.proofs.ScriptTypes.{globals-as-declared}

-- Judged as they stand

abbrev whole_function : FunctionTree → JudgedFunction
whole_function f = record { function = f; broken = None }

abbrev pub whole_part : PartTree → Names → JudgedPart
whole_part p names = record { part = p; broken = None; names = names_behind_part p names }

abbrev pub whole_parts : List PartTree → JudgedParts
whole_parts ps = record { parts = ps; broken = None }

abbrev whole_script : ScriptTree → JudgedScript
whole_script s = record { script = s; broken = None }

function-whole : (f : FunctionTree) (names : Names) (before : List Head) → IsWellTypedFunction f names before → judge_function names before f ≡ whole_function f
function-whole f names before w =
    ap (close_function before f) (block-whole f.body (with_parameters names f.parameters) (in_function f.result) w.0) ∙ ap (λ (r : Option Rule). record { function = f; broken = placed f.at r }) w.1

pub part-whole : (p : PartTree) (all : Names) (before : List Head) (names : Names) → IsWellTypedPart p all before names → judge_part all before names p ≡ whole_part p names
part-whole (a_function f) all before names w = ap (function_part names) (function-whole f all before w)
part-whole (an_include i) all before names w = refl
part-whole (a_statement s) all before names w = ap statement_part (stmt-whole s names top w)

pub parts-whole : (ps : List PartTree) (all : Names) (before : List Head) (names : Names) → AreWellTypedParts ps all before names → judge_parts all before names ps ≡ whole_parts ps
parts-whole [] all before names w = refl
parts-whole (p ∷ ps) all before names w =
    ap (λ (j : JudgedPart). also_part j (judge_parts all (with_head before p) j.names ps)) (part-whole p all before names w.0)
    ∙ ap (also_part (whole_part p names)) (parts-whole ps all (with_head before p) (names_behind_part p names) w.1)

-- where functions see the globals that are found
script-whole : (s : ScriptTree) → IsWellTypedUnder s (globals_of s.parts) → judge_script s ≡ whole_script s
script-whole s w =
    ap (λ (js : JudgedParts). with_parts s (close_parts s.at js)) (parts-whole s.parts (names_of (heads_of s.parts) (globals_of s.parts)) [] (first_names s.parts) w.parts)
    ∙ ap (λ (r : Option Rule). record { script = s; broken = placed s.at r }) w.breaks

-- where types are written, the globals that are found are those that the top level declares
globals-found-alike : (s : ScriptTree) → HasWrittenTypes s → IsWellTypedUnder s (globals_in s) → globals_of s.parts ≡ globals_in s
globals-found-alike s h w =
    let all : Names = names_of (heads_of s.parts) (globals_in s) in
    let start : Names = first_names s.parts in
    let whole : judge_parts all [] start s.parts ≡ whole_parts s.parts = parts-whole s.parts all [] start w.parts in
    globals-as-declared s.parts all h (ap (λ (js : JudgedParts). js.broken) whole) ∙ ap (λ (js : JudgedParts). (names_behind_parts js.parts start).globals) whole

pub script-accepted : (s : ScriptTree) → HasWrittenTypes s → IsWellTypedUnder s (globals_in s) → IsAccepted s × (typed s ≡ s)
script-accepted s h w =
    let whole : judge_script s ≡ whole_script s = script-whole s (subst (IsWellTypedUnder s) (sym (globals-found-alike s h w)) w) in
    (ap (λ (j : JudgedScript). j.broken) whole, ap (λ (j : JudgedScript). j.script) whole)
