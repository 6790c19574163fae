-- The state with which the run of a script's unit begins stands for the configuration in which the script opens, and so the run is the script's.
use Rattle.std.specs.Prelude.{ℕ, List}
use Rattle.bds_tree.specs.StmtTree.{ScriptTree}
use Rattle.bds_check_size.specs.ScriptSize.{Settings}
use Rattle.bds_check_typing.specs.Typed.{IsTypedWith}
use Rattle.bds_gen_stmt.specs.UnitCode.{unit_of}
use Rattle.bds_meaning.specs.Opening.{opening}
use Rattle.bds_sim_terms.specs.Law.{StandsFor, Agreement}
use Rattle.bds_sim_code.specs.ScriptHere.{source_of, ScriptHere}
use Rattle.bds_state.specs.Changes.{IsOpening}
use Rattle.bds_state.specs.Parts.{Parts}
use Rattle.bds_state.specs.Valid.{IsValid}
use Rattle.bds_engine_parts.specs.Image.{image}
use Rattle.bds_engine_parts.specs.Seen as seen

-- what words set in a script
module _ (ss : Settings) (args : List (List ℕ)) (s : ScriptTree) where
  -- whatever stands in the state, it is that with which a run of the unit begins
  abbrev pub BegunStateStands : Type 0
  BegunStateStands = (path : List ℕ) (cpus budget : ℕ) (p : Parts) → IsOpening (unit_of ss args s) path p → IsValid p
      → StandsFor (source_of s (unit_of ss args s)) (unit_of ss args s) s.files (image (unit_of ss args s)) (opening path cpus budget ss args s) (seen.opening p cpus budget)

  abbrev pub UnitRunsAsScript : Type 0
  UnitRunsAsScript = (path : List ℕ) (cpus budget : ℕ) (p : Parts) → IsOpening (unit_of ss args s) path p → IsValid p
      → Agreement (source_of s (unit_of ss args s)) (unit_of ss args s) s.files (image (unit_of ss args s)) (opening path cpus budget ss args s) (seen.opening p cpus budget)

abbrev pub BegunStatesStand : Type 0
BegunStatesStand = (ss : Settings) (args : List (List ℕ)) (s : ScriptTree) → ScriptHere ss args s → BegunStateStands ss args s

-- of a typed script
abbrev pub UnitsRunAsScripts : Type 0
UnitsRunAsScripts = (ss : Settings) (args : List (List ℕ)) (s : ScriptTree) → IsTypedWith s ss args → UnitRunsAsScript ss args s
