-- What a script's run asked up to a save, what each call that resumes one asked up to its own, and all that the last one
-- asked: together they are one run of the script.
use Rattle.std.specs.Prelude.{◌≡◌, ℕ, List, [], ◌∷◌, ◌++◌, Result}
use Rattle.bds_host.specs.declared.asks.Ask.TheVariants.{Read, Save}
use Rattle.bds_host.specs.declared.asks.Reply.{Reply}
use Rattle.bds_host.specs.declared.asks.Reply.TheVariants.{Bytes, Done}
use Rattle.bds_host.specs.Host.{Log, Answered}
use Rattle.bds_check_typing.specs.Typed.{IsTypedWith}
use Rattle.bds_meaning.specs.Begin.{Reading, opens}
use Rattle.bds_meaning.specs.History.{History, Lives, pair, restart}
use Rattle.bds_meaning.specs.Opening.{opening, program_of}
use Rattle.bds_meaning.specs.Refusals.{Accepted}
use Rattle.bds_meaning.specs.Run.{Conf}
use Rattle.bds_schedule.specs.Steps.{Leads}
use Rattle.bds_meaning_laws.specs.Jobs.{KeepsLaws}
use Rattle.bds_sim_code.specs.CheckpointLaw.{RunsOn}
use Rattle.bds_sim_code.specs.Checkpoints.{HasRun, events}
use Rattle.bds_engine_parts.specs.declared.stop.RunStop.{RunStop}
use Rattle.bds_app.specs.Histories.{AreSaved, GoesOnFrom}
use Rattle.bds_app_run.specs.Job.{JobSteps, job_of}
use Rattle.bds_app_run.specs.Commands.{run_outcome}
use Rattle.bds_app.specs.Causes.{AsksRun, AsksResume}
use Rattle.bds_app_run.specs.declared.call.Call.{Call}
use Rattle.bds_app_run.specs.declared.outcome.Outcome.{Outcome}

-- where a call stopped: what it had added to its log (one that resumes, behind its read) before it asked for a save of
-- these bytes in this file; and with how many processors and ticks they were resumed
pub record Stop : Type 0 where
  pub earlier : Log
  pub file : List ℕ
  pub bytes : List ℕ
  pub cpus : ℕ
  pub budget : ℕ

-- The calls

-- the log had this save behind these pairs, whatever the reply, and whatever was asked behind it
pub record HasSave (s : Stop) (before after : Log) : Type 0 where
  pub reply : Reply
  pub behind : Log
  pub is : after ≡ before ++ (s.earlier ++ (Save s.file s.bytes, reply) ∷ behind)

-- a call that ran the script and asked for this save, with what its clause says of its saves
pub record WasRun (c : Call) (s : Stop) (before : Log) : Type 0 where
  pub words : List (List ℕ)
  pub after : Log
  pub asks : AsksRun words c
  pub saved : AreSaved words before after
  pub has : HasSave s before after

-- a call that read the bytes of a stop, from whichever file, and resumed them: the log behind the read, all of it, and
-- the answer, with what its clause says of them
pub record WasResumed (s : Stop) (log after : Log) (answer : Outcome) : Type 0 where
  pub words : List (List ℕ)
  pub before : Log
  pub from : List ℕ
  pub rest : Log
  pub asks : AsksResume words s.cpus s.budget from
  pub read : Answered before log (Read from) (Bytes s.bytes)
  pub grown : after ≡ log ++ rest
  pub goes_on : GoesOnFrom words before after answer

-- call by call: the script is run, its stop is resumed, and so is each further stop, one of the call before. The logs
-- and the answer are those of the last call
pub data Calls (c : Call) (start : Log) (first : Stop) : List Stop → Log → Log → Outcome → Type 0 where
  once : (log after : Log) (answer : Outcome) → WasRun c first start → WasResumed first log after answer
      → Calls c start first [] log after answer
  again : (stops : List Stop) (log after : Log) (answer : Outcome) → Calls c start first stops log after answer
      → (s : Stop) → HasSave s log after → (log' after' : Log) (answer' : Outcome)
      → WasResumed s log' after' answer' → Calls c start first (stops ++ s ∷ []) log' after' answer'

-- What they are together

-- these pairs, the save, and a restart from it
abbrev pub until : Log → Stop → History
until pairs s = events pairs ++ pair (Save s.file s.bytes) Done ∷ restart s.cpus s.budget ∷ []

abbrev pub through : List Stop → History
through [] = []
through (s ∷ stops) = until s.earlier s ++ through stops

-- an accepted script, as the call runs it
module _ (c : Call) (r : Accepted) where
  abbrev pub opens_at : Conf
  opens_at = opening c.path c.cpus c.ticks r.preset.settings r.preset.args r.script

  -- its history goes on by what was added to the log, and ends so, or as far as there was memory
  abbrev pub EndsSo : History → Log → Log → Result ℕ RunStop → Type 0
  EndsSo h before after end = HasRun (program_of r.script) opens_at h before after end

  -- wherever its history is behind this one, it keeps the laws of every history
  abbrev pub KeepsOn : History → Type 0
  KeepsOn h = (behind : Log) (at : Conf) → Lives (program_of r.script) opens_at (h ++ events behind) at
      → KeepsLaws (program_of r.script) opens_at at (h ++ events behind)

-- the script with its includes was read and accepted. Behind these reads, what was asked up to each stop, each save
-- and restart, and what the last call asked are one history of the script, as the first call runs it. The last answer
-- is the end of that history, or as far as there was memory; each save of the last call is a checkpoint of it; and it
-- keeps the laws of every history
pub record IsOneRun (c : Call) (start : Log) (first : Stop) (stops : List Stop) (before after : Log)
    (answer : Outcome) : Type 0 where
  pub accepted : Accepted
  pub reads : Log
  pub opens : Leads (JobSteps c) (Reading []) start (opens (job_of c) accepted) (start ++ reads)
  pub typed : IsTypedWith accepted.script accepted.preset.settings accepted.preset.args
  pub pairs : Log
  pub split : first.earlier ≡ reads ++ pairs
  pub end : Result ℕ RunStop
  pub is : answer ≡ run_outcome end
  pub runs_on : RunsOn accepted.preset.settings accepted.preset.args accepted.script c.path c.cpus c.ticks
      (until pairs first ++ through stops) before after end
  pub keeps : KeepsOn c accepted (until pairs first ++ through stops)

-- whatever the calls
abbrev pub StopsMakeOneRun : Type 0
StopsMakeOneRun =
    (c : Call) (start : Log) (first : Stop) (stops : List Stop) (before after : Log) (answer : Outcome)
    → Calls c start first stops before after answer → IsOneRun c start first stops before after answer
