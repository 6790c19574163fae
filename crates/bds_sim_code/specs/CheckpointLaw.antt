-- What the run of a script's unit saves are checkpoints of the script's history, which goes on from what is loaded.
use Rattle.std.specs.Prelude.{ℕ, List, [], Result}
use Rattle.bds_host.specs.Host.{Log}
use Rattle.bds_tree.specs.StmtTree.{ScriptTree}
use Rattle.bds_check_size.specs.ScriptSize.{Settings}
use Rattle.bds_check_typing.specs.Typed.{IsTypedWith}
use Rattle.bds_gen_stmt.specs.UnitCode.{unit_of}
use Rattle.bds_meaning.specs.History.{History}
use Rattle.bds_meaning.specs.Opening.{opening}
use Rattle.bds_sim_code.specs.ScriptHere.{source_of}
use Rattle.bds_state.specs.Changes.{IsOpening}
use Rattle.bds_state.specs.Parts.{Parts}
use Rattle.bds_state.specs.Valid.{IsValid}
use Rattle.bds_sim_code.specs.Checkpoints as checkpoints
use Rattle.bds_engine_parts.specs.Run.{Runs}
use Rattle.bds_engine_parts.specs.declared.stop.RunStop.{RunStop}

-- a script with what words set in it, and what the run was begun with
module _ (ss : Settings) (args : List (List ℕ)) (s : ScriptTree) (path : List ℕ) (cpus budget : ℕ) where
  abbrev pub IsCheckpoint : History → List ℕ → List ℕ → Type 0
  IsCheckpoint h file bytes = checkpoints.IsCheckpoint (source_of s (unit_of ss args s)) (unit_of ss args s)
      (opening path cpus budget ss args s) h file bytes

  abbrev pub RunsOn : History → Log → Log → Result ℕ RunStop → Type 0
  RunsOn h before after result = checkpoints.RunsOn (source_of s (unit_of ss args s)) (unit_of ss args s)
      (opening path cpus budget ss args s) h before after result

  -- with as many processors and ticks as a restart names
  abbrev pub ContinuesFrom : History → List ℕ → List ℕ → ℕ → ℕ → Log → Log → Result ℕ RunStop → Type 0
  ContinuesFrom h file bytes cpus' budget' before after result = checkpoints.ContinuesFrom
      (source_of s (unit_of ss args s)) (unit_of ss args s) (opening path cpus budget ss args s) h file bytes cpus'
      budget' before after result

  pub record HistoryGoesOn : Type 0 where
    -- from the beginning
    pub begun : (p : Parts) → IsOpening (unit_of ss args s) path p → IsValid p
        → (before after : Log) (result : Result ℕ RunStop) → Runs p cpus budget before after result
        → RunsOn [] before after result
    -- and from each checkpoint, with whatever processors and ticks
    pub loaded : checkpoints.CheckpointsGoOn (source_of s (unit_of ss args s)) (unit_of ss args s)
        (opening path cpus budget ss args s)

-- of a typed script
abbrev pub ScriptHistoriesGoOn : Type 0
ScriptHistoriesGoOn = (ss : Settings) (args : List (List ℕ)) (s : ScriptTree) → IsTypedWith s ss args
    → (path : List ℕ) (cpus budget : ℕ) → HistoryGoesOn ss args s path cpus budget
