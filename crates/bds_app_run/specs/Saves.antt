-- What the run of a script saves.
use Rattle.std.specs.Prelude.{◌≡◌, ℕ, List, [], ◌∷◌, ◌++◌, Ok, ⊤}
use Rattle.bds_host.specs.declared.asks.Ask.TheVariants.{Save}
use Rattle.bds_host.specs.declared.asks.Reply.{Reply}
use Rattle.bds_host.specs.Host.{Log}
use Rattle.bds_tree.specs.StmtTree.{ScriptTree}
use Rattle.bds_check_typing.specs.Typed.{IsTypedWith}
use Rattle.bds_meaning.specs.Begin.{Reading, opens}
use Rattle.bds_meaning.specs.History.{History}
use Rattle.bds_meaning.specs.Refusals.{Accepted}
use Rattle.bds_schedule.specs.Steps.{Leads}
use Rattle.bds_sim.specs.schedule.Agree.{IsPlain}
use Rattle.bds_sim_code.specs.Checkpoints.{events}
use Rattle.bds_sim_code.specs.CheckpointLaw.{IsCheckpoint}
use Rattle.bds_app_run.specs.Job.{JobSteps, if_fits, job_of, run_opens}
use Rattle.bds_app_run.specs.declared.call.Call.{Call}

-- bytes that are saved in a file as a checkpoint of a typed script's history, with what words set, as a call runs it
abbrev pub IsCheckpointOf : Call → Accepted → History → List ℕ → List ℕ → Type 0
IsCheckpointOf c r h file bytes = IsTypedWith r.script r.preset.settings r.preset.args
    × IsCheckpoint r.preset.settings r.preset.args r.script c.path c.cpus c.ticks h file bytes

-- a save of a script's run: behind the reads of the script and its includes the run has made these pairs, and the bytes
-- are a checkpoint of their history
pub record IsSaved (c : Call) (before earlier : Log) (file bytes : List ℕ) : Type 0 where
  pub accepted : Accepted
  pub reads : Log
  pub opens : Leads (JobSteps c) (Reading []) before (opens (job_of c) accepted) (before ++ reads)
  pub pairs : Log
  pub split : earlier ≡ reads ++ pairs
  pub checkpoint : IsCheckpointOf c accepted (events pairs) file bytes

-- each save among what was added to the log is one
abbrev pub SavesCheckpoints : Call → Log → Log → Type 0
SavesCheckpoints c before after = (earlier rest : Log) (file bytes : List ℕ) (reply : Reply)
    → after ≡ before ++ (earlier ++ (Save file bytes, reply) ∷ rest) → IsSaved c before earlier file bytes

-- For private contracts alone: what a script's run saves from its opening on

abbrev pub RunSaves : Call → Accepted → Log → Log → Type 0
RunSaves c r before after = (earlier rest : Log) (file bytes : List ℕ) (reply : Reply)
    → after ≡ before ++ (earlier ++ (Save file bytes, reply) ∷ rest) → IsCheckpointOf c r (events earlier) file bytes

-- and where it is saved, the script with what words set wasn't too large to run
abbrev pub SavesIfFits : Call → Accepted → Log → Log → Type 0
SavesIfFits c r before after =
    (earlier rest : Log) (file bytes : List ℕ) (reply : Reply)
    → after ≡ before ++ (earlier ++ (Save file bytes, reply) ∷ rest)
    → (if_fits c r.script r.preset ≡ Ok r) × IsCheckpointOf c r (events earlier) file bytes

-- and no word was refused
abbrev pub SavesIfRun : Call → ScriptTree → Log → Log → Type 0
SavesIfRun c script before after =
    (earlier rest : Log) (file bytes : List ℕ) (reply : Reply)
    → after ≡ before ++ (earlier ++ (Save file bytes, reply) ∷ rest)
    → (r : Accepted) × ((run_opens c script ≡ Ok r) × IsCheckpointOf c r (events earlier) file bytes)

abbrev pub ArePlain : Log → Type 0
ArePlain [] = ⊤
ArePlain (p ∷ ps) = IsPlain p.0 × ArePlain ps

-- nothing among what was added is a save
pub record Quiet (before after : Log) : Type 0 where
  pub pairs : Log
  pub grown : after ≡ before ++ pairs
  pub plain : ArePlain pairs
