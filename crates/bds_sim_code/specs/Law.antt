-- The unit of a script has the code of the script's program, and its main thread begins at the program's term.
use Rattle.std.specs.Prelude.{◌≡◌, ℕ, List, [], ◌∷◌, map, Some, slice_get}
use Rattle.bds_value.specs.Value.{default_of}
use Rattle.bds_tree.specs.StmtTree.{ScriptTree}
use Rattle.bds_code.specs.declared.unit.Function.{Function}
use Rattle.bds_code_frames.specs.Stack.{call_at}
use Rattle.bds_check_typing.specs.Typed.{IsTypedWith}
use Rattle.bds_check_size.specs.ScriptSize.{Settings}
use Rattle.bds_gen_stmt.specs.UnitCode.{unit_of}
use Rattle.bds_meaning.specs.Opening.{source_code}
use Rattle.bds_sim_terms.specs.steps.Law.{StandFor}
use Rattle.bds_sim_terms.specs.steps.Stands.{Codes}
use Rattle.bds_sim_code.specs.ScriptHere.{source_of, ScriptHere}

-- each function that a name calls has the code of the program's function of that name
abbrev pub UnitsHaveCode : Type 0
UnitsHaveCode = (ss : Settings) (args : List (List ℕ)) (s : ScriptTree) → ScriptHere ss args s → Codes (source_of s (unit_of ss args s)) (unit_of ss args s)

-- the main thread as a run begins it, with each global and local at its default and one call at the first place of the first function, stands for the script's code
abbrev pub MainThreadsStand : Type 0
MainThreadsStand =
    (ss : Settings) (args : List (List ℕ)) (s : ScriptTree) → ScriptHere ss args s → (main : Function) → slice_get (unit_of ss args s).functions 0 ≡ Some main
    → StandFor (source_of s (unit_of ss args s)) (unit_of ss args s) (source_code ss args s) (map default_of (unit_of ss args s).globals) (call_at 0 (map default_of main.locals) ∷ [])

-- a typed script has what these ask, with what words set in it
abbrev pub TypedScriptsAreHere : Type 0
TypedScriptsAreHere = (ss : Settings) (args : List (List ℕ)) (s : ScriptTree) → IsTypedWith s ss args → ScriptHere ss args s
