-- What a script's run saves, and what goes on from a saved state.
use Rattle.std.specs.Prelude.{◌≡◌, ℕ, List, [], ◌++◌, true, Result}
use Rattle.bds_host.specs.declared.asks.Ask.TheVariants.{Read}
use Rattle.bds_host.specs.declared.asks.Reply.TheVariants.{Bytes}
use Rattle.bds_host.specs.Host.{Log, Answered}
use Rattle.bds_tree.specs.StmtTree.{ScriptTree}
use Rattle.bds_check_size.specs.ScriptSize.{Settings}
use Rattle.bds_check_typing.specs.Typed.{IsTypedWith}
use Rattle.bds_meaning.specs.History.{History}
use Rattle.bds_engine_parts.specs.declared.stop.RunStop.{RunStop}
use Rattle.bds_sim_code.specs.CheckpointLaw.{IsCheckpoint, ContinuesFrom}
use Rattle.bds_app_words.specs.declared.command.Over.TheVariants.{Farm}
use Rattle.bds_app_farm.specs.Farmed.{FarmsJob}
use Rattle.bds_app_run.specs.Jobs.{SavesIfScript}
use Rattle.bds_app_run.specs.Commands.{run_outcome}
use Rattle.bds_app_run.specs.Saves.{SavesCheckpoints}
use Rattle.bds_app_run.specs.declared.call.Call.{Call}
use Rattle.bds_app_run.specs.declared.outcome.Outcome.{Outcome}
use Rattle.bds_replay.specs.declared.log.Job.{Job}
use Rattle.bds_app.specs.Causes.{AsksJob, AsksRun, AsksResume}

-- where words ask that a script be run, each save of its run is a checkpoint of its history
abbrev pub AreSaved : List (List ℕ) → Log → Log → Type 0
AreSaved words before after = (c : Call) → AsksRun words c → SavesCheckpoints c before after

-- the history of a typed script goes on from the bytes of a file that are a checkpoint of it, wherever they were saved,
-- whatever words set in the script and with whatever its run was begun
pub record HasGoneOn (ss : Settings) (args : List (List ℕ)) (script : ScriptTree) (path : List ℕ) (cpus budget : ℕ)
    (h : History) (place bytes : List ℕ) (cpus' budget' : ℕ) (before after : Log) (answer : Outcome) : Type 0 where
  pub end : Result ℕ RunStop
  pub is : answer ≡ run_outcome end
  pub continues : ContinuesFrom ss args script path cpus budget h place bytes cpus' budget' before after end

-- what goes on from a file with so many processors and ticks, where its bytes are a checkpoint
abbrev pub GoesOnFromFile : ℕ → ℕ → List ℕ → Log → Log → Outcome → Type 0
GoesOnFromFile cpus' budget' file before after answer =
    (bytes : List ℕ) (log rest : Log) → Answered before log (Read file) (Bytes bytes) → after ≡ log ++ rest
    → (ss : Settings) (args : List (List ℕ)) (script : ScriptTree) → IsTypedWith script ss args
    → (path : List ℕ) (cpus budget : ℕ) (h : History) (place : List ℕ)
    → IsCheckpoint ss args script path cpus budget h place bytes
    → HasGoneOn ss args script path cpus budget h place bytes cpus' budget' log after answer

-- with as many as the words that resume it name
abbrev pub GoesOnFrom : List (List ℕ) → Log → Log → Outcome → Type 0
GoesOnFrom words before after answer =
    (cpus' budget' : ℕ) (file : List ℕ) → AsksResume words cpus' budget' file → GoesOnFromFile cpus' budget' file before after answer

-- over a farm both hold of the farm's own log
abbrev pub GoesOnIfFile : Job → Log → Log → Outcome → Type 0
GoesOnIfFile j before after answer = j.resume ≡ true → GoesOnFromFile j.cpus j.ticks j.path before after answer

abbrev pub FarmKeepsHistories : List (List ℕ) → Log → Log → Outcome → Type 0
FarmKeepsHistories words before after answer =
    (j : Job) (submit poll : List ℕ) → AsksJob words (Farm submit poll) j → (h : FarmsJob j submit poll before after answer)
    → SavesIfScript j [] h.log × GoesOnIfFile j [] h.log answer
