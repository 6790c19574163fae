-- What a job adds to the log: each reply fits its ask, and the last one alone may have found no room.
use Rattle.std.proofs.Common.{◌≡◌, ◌∙◌, inl, inr, ℕ, List, [], ◌∷◌, ◌++◌, Bool, true, false, Result, Ok, Err}
use Rattle.std.proofs.Common.{append_assoc, append-nil, ap, sym, refl}
use Rattle.std.specs.List.{All}
use Rattle.std.proofs.lemmas.List.Elements.{All-append, All-nil, All-push}
use Rattle.bds_host.specs.declared.asks.Ask.{Ask}
use Rattle.bds_host.specs.declared.asks.Ask.TheVariants.{Read, Err as Tells}
use Rattle.bds_host.specs.declared.asks.Reply.{Reply}
use Rattle.bds_host.specs.declared.asks.Reply.TheVariants as reply
use Rattle.bds_host.specs.declared.asks.Reply.TheVariants.{NoRoom}
use Rattle.bds_host.specs.declared.faults.Fault.{Fault}
use Rattle.bds_host.specs.Host.{Log, Answered, FoundNoRoom}
use Rattle.bds_meaning.specs.Begin.{AtEnd, IsOnWay, Reading}
use Rattle.bds_schedule.specs.Configuration as meaning
use Rattle.bds_schedule.specs.Steps.{Step, Leads, Halts}
use Rattle.bds_state.specs.Parts.{Parts}
use Rattle.bds_engine_parts.specs.Seen.{revived_state}
use Rattle.bds_engine_parts.specs.Saving.{Moves}
use Rattle.bds_engine_parts.specs.Seen.{opening}
use Rattle.bds_engine_parts.specs.declared.stop.RunStop.{RunStop}
use Rattle.bds_engine_parts.specs.declared.stop.RunStop.TheVariants as run_stop
use Rattle.bds_replay.specs.declared.log.Job.{Job}
use Rattle.bds_app_run.specs.Commands.{OpensFile, ResumesFile, RunsScript, outcome_of, run_outcome}
use Rattle.bds_app_run.specs.Job.{JobSteps}
use Rattle.bds_app_run.specs.Resume.{GoesOn, HoldsNone, IsUnloaded}
use Rattle.bds_app_run.specs.Telling.{Says, TellsDevice}
use Rattle.bds_app_run.specs.declared.call.Call.{Call}
use Rattle.bds_app_run.specs.declared.outcome.Outcome.{Outcome}
use Rattle.bds_app_run.specs.declared.outcome.Outcome.TheVariants.{NoMemory}
use Rattle.bds_app_run.specs.Jobs.{DoesAs, DoesJob, call_of}
use Rattle.bds_app_log.proofs.Again.{IsFit, each_fits}

pub data HasFit (o : Outcome) (pairs : Log) : Type 0 where
  whole : All IsFit pairs → HasFit o pairs
  cut : (first : Log) (ask : Ask) → pairs ≡ first ++ (ask, NoRoom) ∷ [] → All IsFit first → o ≡ NoMemory
      → HasFit o pairs

pub record Adds (before after : Log) (o : Outcome) : Type 0 where
  pub pairs : Log
  pub grown : after ≡ before ++ pairs
  pub fit : HasFit o pairs

-- what fits stands before it
fit_on : (first : Log) (o : Outcome) (pairs : Log) → All IsFit first → HasFit o pairs → HasFit o (first ++ pairs)
fit_on first o pairs h (HasFit.whole k) = HasFit.whole (All-append IsFit first pairs h k)
fit_on first o pairs h (HasFit.cut more ask is k none) =
    HasFit.cut (first ++ more) ask (ap (λ l. first ++ l) is ∙ sym (append_assoc first more ((ask, NoRoom) ∷ [])))
    (All-append IsFit first more h k) none

adds_on : (before mid after first : Log) (o : Outcome) → mid ≡ before ++ first → All IsFit first → Adds mid after o
    → Adds before after o
adds_on before mid after first o is h a =
    record {
      pairs = first ++ a.pairs;
      grown = a.grown ∙ ap (λ l. l ++ a.pairs) is ∙ append_assoc before first a.pairs;
      fit = fit_on first o a.pairs h a.fit;
    }

one_fit : (before after : Log) (ask : Ask) (r : Reply) → Answered before after ask r → All IsFit ((ask, r) ∷ [])
one_fit before after ask r a = let here : IsFit (ask, r) =
    record { fitting = a.fitting; told = a.told } in All-push IsFit [] (ask, r) (All-nil IsFit) here

answered_adds : (before after : Log) (ask : Ask) (r : Reply) (o : Outcome) → Answered before after ask r
    → Adds before after o
answered_adds before after ask r o a = record
    { pairs = (ask, r) ∷ []; grown = a.grown; fit = HasFit.whole (one_fit before after ask r a) }

room_adds : (before after : Log) (ask : Ask) → FoundNoRoom before after ask → Adds before after NoMemory
room_adds before after ask (inl same) = record
    { pairs = []; grown = same ∙ sym (append-nil before); fit = HasFit.whole (All-nil IsFit) }
room_adds before after ask (inr more) = record
    { pairs = (ask, NoRoom) ∷ []; grown = more; fit = HasFit.cut [] ask refl (All-nil IsFit) refl }

module _ {C E : Type 0} (Steps : C → Step C E → Type 0) (from : C) (before : Log) where
  leads_adds : (c : C) (after : Log) (o : Outcome) → Leads Steps from before c after → Adds before after o
  leads_adds c after o l = let h = each_fits Steps from before c after l in
      record { pairs = h.0; grown = h.1.0; fit = HasFit.whole h.1.1 }

  halts_adds : (Way : C → Type 0) (after : Log) → Halts Steps Way from before after → Adds before after NoMemory
  halts_adds Way after (Halts.halts_at s way l) = leads_adds s after NoMemory l
  halts_adds Way after (Halts.halts_asking s log ask next l m e) =
      let h = each_fits Steps from before s log l in
      record {
        pairs = h.0 ++ (ask, NoRoom) ∷ [];
        grown = e ∙ ap (λ x. x ++ (ask, NoRoom) ∷ []) h.1.0 ∙ append_assoc before h.0 ((ask, NoRoom) ∷ []);
        fit = HasFit.cut h.0 ask refl h.1.1 refl;
      }

script_adds : (c : Call) (before after : Log) (o : Outcome) → RunsScript c before after o → Adds before after o
script_adds c before after _ (RunsScript.came end l) =
    leads_adds (JobSteps c) (Reading []) before (AtEnd end) after (outcome_of end) l
script_adds c before after _ (RunsScript.no_memory h) = halts_adds (JobSteps c) (Reading []) before IsOnWay after h

pub device_adds : (before after : Log) (o : Outcome) → TellsDevice before after o → Adds before after o
device_adds before after o (TellsDevice.told_so r a) = answered_adds before after _ r _ a
device_adds before after _ (TellsDevice.untold room) = room_adds before after _ room

pub says_adds : (text : List ℕ) (due : Outcome) (before after : Log) (o : Outcome) → Says text due before after o
    → Adds before after o
says_adds text due before after _ (Says.said a) = answered_adds before after (Tells text) reply.Done due a
says_adds text due before after o (Says.faulted log _ a t) =
    adds_on before log after ((Tells text, reply.Fault) ∷ []) o a.grown (one_fit before log _ _ a)
    (device_adds log after o t)
says_adds text due before after _ (Says.no_memory room) = room_adds before after (Tells text) room

goes_adds : (cpus ticks : ℕ) (s : Parts) (before after : Log) (r : Result ℕ RunStop)
    → GoesOn cpus ticks s before after r → Adds before after (run_outcome r)
goes_adds cpus ticks s before after (Ok status) h =
    leads_adds (Moves (revived_state s).unit) (opening (revived_state s) cpus ticks) before h.0 after _ h.1
goes_adds cpus ticks s before after (Err run_stop.Device) h =
    leads_adds (Moves (revived_state s).unit) (opening (revived_state s) cpus ticks) before h.0 after _ h.1
goes_adds cpus ticks s before after (Err run_stop.Ticks) h =
    leads_adds (Moves (revived_state s).unit) (opening (revived_state s) cpus ticks) before h.0 after _ h.1
goes_adds cpus ticks s before after (Err run_stop.NoMemory) h =
    halts_adds (Moves (revived_state s).unit) (opening (revived_state s) cpus ticks) before
    (λ d. meaning.IsOnWay d.mode) after h

same_adds : (before after : Log) (o o' : Outcome) → o ≡ o' → Adds before after o' → Adds before after o
same_adds before after o o' is a = record { pairs = a.pairs; grown = a.grown; fit = by a.fit }
  where
    by : HasFit o' a.pairs → HasFit o a.pairs
    by (HasFit.whole k) = HasFit.whole k
    by (HasFit.cut first ask cuts k none) = HasFit.cut first ask cuts k (is ∙ none)

module _ (path : List ℕ) (before : Log) where
  read_adds : (log after : Log) (r : Reply) (o : Outcome) → Answered before log (Read path) r → Adds log after o
      → Adds before after o
  read_adds log after r o a h = adds_on before log after ((Read path, r) ∷ []) o a.grown
      (one_fit before log (Read path) r a) h

  none_adds : (f : Fault) (log after : Log) (o : Outcome) → HoldsNone path before log f → Adds log after o
      → Adds before after o
  none_adds _ log after o (HoldsNone.missing a) h = read_adds log after reply.Missing o a h
  none_adds _ log after o (HoldsNone.not_loadable bytes a none) h = read_adds log after (reply.Bytes bytes) o a h

  unloaded_adds : (after : Log) → IsUnloaded path before after → Adds before after NoMemory
  unloaded_adds after (inl room) = room_adds before after (Read path) room
  unloaded_adds after (inr h) = answered_adds before after (Read path) (reply.Bytes h.0) NoMemory h.1

  file_adds : (cpus ticks : ℕ) (after : Log) (o : Outcome) → ResumesFile cpus ticks path before after o
      → Adds before after o
  file_adds cpus ticks after o (OpensFile.held s log _ holds h) =
      same_adds before after o (run_outcome h.0) h.1.1
      (read_adds log after (reply.Bytes holds.bytes) (run_outcome h.0) holds.read
      (goes_adds cpus ticks s log after h.0 h.1.0))
  file_adds cpus ticks after o (OpensFile.bad_file f log _ none told) =
      none_adds f log after o none (says_adds _ _ log after o told)
  file_adds cpus ticks after o (OpensFile.unread log _ a told) =
      read_adds log after reply.Fault o a (device_adds log after o told)
  file_adds cpus ticks after _ (OpensFile.unloaded lacked) = unloaded_adds after lacked

adds_as : (b : Bool) (j : Job) (before after : Log) (o : Outcome) → DoesAs b j before after o → Adds before after o
adds_as true j before after o h = file_adds j.path before j.cpus j.ticks after o h
adds_as false j before after o h = script_adds (call_of j) before after o h

pub job_adds : (j : Job) (before after : Log) (o : Outcome) → DoesJob j before after o → Adds before after o
job_adds j before after o h = adds_as j.resume j before after o h
