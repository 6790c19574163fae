-- What a job does behind an empty log, it does behind any.
use Rattle.std.proofs.Common.{◌≡◌, ◌∙◌, inl, inr, ℕ, List, [], ◌∷◌, ◌++◌, Bool, true, false, Result, Ok, Err}
use Rattle.std.proofs.Common.{append_assoc, append-nil, ap, sym, subst}
use Rattle.bds_host.specs.declared.asks.Ask.{Ask}
use Rattle.bds_host.specs.declared.asks.Reply.{Reply}
use Rattle.bds_host.specs.declared.asks.Reply.TheVariants.{NoRoom}
use Rattle.bds_host.specs.declared.faults.Fault.{Fault}
use Rattle.bds_host.specs.Host.{Log, Answered, FoundNoRoom}
use Rattle.bds_meaning.specs.Begin.{AtEnd, IsOnWay, Reading}
use Rattle.bds_schedule.specs.Configuration as meaning
use Rattle.bds_schedule.specs.Steps.{Step, Leads, Halts}
use Rattle.bds_state.specs.Parts.{Parts}
use Rattle.bds_engine_parts.specs.Seen.{revived_state}
use Rattle.bds_engine_parts.specs.Saving.{Moves}
use Rattle.bds_engine_parts.specs.Seen.{opening}
use Rattle.bds_engine_parts.specs.declared.stop.RunStop.{RunStop}
use Rattle.bds_engine_parts.specs.declared.stop.RunStop.TheVariants as run_stop
use Rattle.bds_replay.specs.declared.log.Job.{Job}
use Rattle.bds_app_run.specs.Commands.{OpensFile, ResumesFile, RunsScript}
use Rattle.bds_app_run.specs.Job.{JobSteps}
use Rattle.bds_app_run.specs.Resume.{GoesOn, HoldsNone, HoldsState, IsUnloaded}
use Rattle.bds_app_run.specs.Telling.{Says, TellsDevice}
use Rattle.bds_app_run.specs.declared.call.Call.{Call}
use Rattle.bds_app_run.specs.declared.outcome.Outcome.{Outcome}
use Rattle.bds_app_run.specs.Jobs.{DoesAs, DoesJob, call_of}

module _ (start : Log) where
  moved_grown : (before after added : Log) → after ≡ before ++ added → start ++ after ≡ (start ++ before) ++ added
  moved_grown before after added e = ap (λ l. start ++ l) e ∙ sym (append_assoc start before added)

  moved_answered : (before after : Log) (ask : Ask) (r : Reply) → Answered before after ask r
      → Answered (start ++ before) (start ++ after) ask r
  moved_answered before after ask r a = record
      { grown = moved_grown before after ((ask, r) ∷ []) a.grown; fitting = a.fitting; told = a.told }

  moved_room : (before after : Log) (ask : Ask) → FoundNoRoom before after ask
      → FoundNoRoom (start ++ before) (start ++ after) ask
  moved_room before after ask (inl same) = inl (ap (λ l. start ++ l) same)
  moved_room before after ask (inr more) = inr (moved_grown before after ((ask, NoRoom) ∷ []) more)

  module _ {C E : Type 0} (Steps : C → Step C E → Type 0) (from : C) (before : Log) where
    moved_leads : (c : C) (after : Log) → Leads Steps from before c after
        → Leads Steps from (start ++ before) c (start ++ after)
    moved_leads _ _ Leads.here = Leads.here
    moved_leads c after (Leads.goes s _ _ l m) = Leads.goes s c (start ++ after) (moved_leads s after l) m
    moved_leads _ after (Leads.asks s log _ ask next r l m answered) =
        Leads.asks s (start ++ log) (start ++ after) ask next r (moved_leads s log l) m
        (moved_answered log after ask r answered)

    moved_halts : (Way : C → Type 0) (after : Log) → Halts Steps Way from before after
        → Halts Steps Way from (start ++ before) (start ++ after)
    moved_halts Way after (Halts.halts_at s way l) = Halts.halts_at s way (moved_leads s after l)
    moved_halts Way after (Halts.halts_asking s log ask next l m e) =
        Halts.halts_asking s (start ++ log) ask next (moved_leads s log l) m
        (moved_grown log after ((ask, NoRoom) ∷ []) e)

  moved_script : (c : Call) (before after : Log) (o : Outcome) → RunsScript c before after o
      → RunsScript c (start ++ before) (start ++ after) o
  moved_script c before after _ (RunsScript.came end l) =
      RunsScript.came end (moved_leads (JobSteps c) (Reading []) before (AtEnd end) after l)
  moved_script c before after _ (RunsScript.no_memory h) =
      RunsScript.no_memory (moved_halts (JobSteps c) (Reading []) before IsOnWay after h)

  moved_device : (before after : Log) (o : Outcome) → TellsDevice before after o
      → TellsDevice (start ++ before) (start ++ after) o
  moved_device before after _ (TellsDevice.told_so r a) = TellsDevice.told_so r (moved_answered before after _ r a)
  moved_device before after _ (TellsDevice.untold room) = TellsDevice.untold (moved_room before after _ room)

  moved_says : (text : List ℕ) (due : Outcome) (before after : Log) (o : Outcome) → Says text due before after o
      → Says text due (start ++ before) (start ++ after) o
  moved_says text due before after _ (Says.said a) = Says.said (moved_answered before after _ _ a)
  moved_says text due before after o (Says.faulted log _ a t) =
      Says.faulted (start ++ log) o (moved_answered before log _ _ a) (moved_device log after o t)
  moved_says text due before after _ (Says.no_memory room) = Says.no_memory (moved_room before after _ room)

  moved_goes : (cpus ticks : ℕ) (s : Parts) (before after : Log) (r : Result ℕ RunStop)
      → GoesOn cpus ticks s before after r → GoesOn cpus ticks s (start ++ before) (start ++ after) r
  moved_goes cpus ticks s before after (Ok status) h =
      (h.0, moved_leads (Moves (revived_state s).unit) (opening (revived_state s) cpus ticks) before h.0 after h.1, h.2)
  moved_goes cpus ticks s before after (Err run_stop.Device) h =
      (h.0, moved_leads (Moves (revived_state s).unit) (opening (revived_state s) cpus ticks) before h.0 after h.1, h.2)
  moved_goes cpus ticks s before after (Err run_stop.Ticks) h =
      (h.0, moved_leads (Moves (revived_state s).unit) (opening (revived_state s) cpus ticks) before h.0 after h.1, h.2)
  moved_goes cpus ticks s before after (Err run_stop.NoMemory) h =
      moved_halts (Moves (revived_state s).unit) (opening (revived_state s) cpus ticks) before
      (λ d. meaning.IsOnWay d.mode) after h

  module _ (path : List ℕ) (before : Log) where
    moved_state : (s : Parts) (log : Log) → HoldsState path s before log
        → HoldsState path s (start ++ before) (start ++ log)
    moved_state s log h = record { bytes = h.bytes; read = moved_answered before log _ _ h.read; loadable = h.loadable }

    moved_none : (f : Fault) (log : Log) → HoldsNone path before log f
        → HoldsNone path (start ++ before) (start ++ log) f
    moved_none _ log (HoldsNone.missing a) = HoldsNone.missing (moved_answered before log _ _ a)
    moved_none _ log (HoldsNone.not_loadable bytes a none) =
        HoldsNone.not_loadable bytes (moved_answered before log _ _ a) none

    moved_unloaded : (after : Log) → IsUnloaded path before after → IsUnloaded path (start ++ before) (start ++ after)
    moved_unloaded after (inl room) = inl (moved_room before after _ room)
    moved_unloaded after (inr h) = inr (h.0, moved_answered before after _ _ h.1)

    moved_file : (cpus ticks : ℕ) (after : Log) (o : Outcome) → ResumesFile cpus ticks path before after o
        → ResumesFile cpus ticks path (start ++ before) (start ++ after) o
    moved_file cpus ticks after o (OpensFile.held s log _ holds h) =
        OpensFile.held s (start ++ log) o (moved_state s log holds)
        (h.0, (moved_goes cpus ticks s log after h.0 h.1.0, h.1.1))
    moved_file cpus ticks after o (OpensFile.bad_file f log _ none told) =
        OpensFile.bad_file f (start ++ log) o (moved_none f log none) (moved_says _ _ log after o told)
    moved_file cpus ticks after o (OpensFile.unread log _ a told) =
        OpensFile.unread (start ++ log) o (moved_answered before log _ _ a) (moved_device log after o told)
    moved_file cpus ticks after _ (OpensFile.unloaded lacked) = OpensFile.unloaded (moved_unloaded after lacked)

  moved_as : (b : Bool) (j : Job) (before after : Log) (o : Outcome) → DoesAs b j before after o
      → DoesAs b j (start ++ before) (start ++ after) o
  moved_as true j before after o h = moved_file j.path before j.cpus j.ticks after o h
  moved_as false j before after o h = moved_script (call_of j) before after o h

  -- behind any log
  pub moved_job : (j : Job) (pairs : Log) (o : Outcome) → DoesJob j [] pairs o → DoesJob j start (start ++ pairs) o
  moved_job j pairs o h = subst (λ l. DoesJob j l (start ++ pairs) o) (append-nil start)
      (moved_as j.resume j [] pairs o h)
