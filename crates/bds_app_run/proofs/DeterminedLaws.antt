-- What the log of a script that is run, or of a file that is resumed, says of the answer.
use Rattle.std.proofs.Common.{◌≡◌, ◌++◌, ◌⊎◌, ◌<◌, inl, inr, ℕ, List, [], Result, Ok, Err, refl, sym, subst}
use Rattle.bds_host.specs.declared.asks.Ask.TheVariants.{Read, Err as Tells}
use Rattle.bds_host.specs.declared.faults.Fault.{Fault as AFault}
use Rattle.bds_host.specs.Host.{Log, faults}
use Rattle.bds_host.specs.Message.{message_of}
use Rattle.bds_front.specs.Unique.{HasOneEnd, IsRefusedOrRun}
use Rattle.bds_meaning.specs.Begin.{JobEnd, Reading, AtEnd}
use Rattle.bds_schedule.specs.Stages.{Done, Spent, DeviceFault}
use Rattle.bds_state.specs.Parts.{Parts}
use Rattle.bds_engine_parts.specs.Run.{FaultIsTold}
use Rattle.bds_engine_parts.specs.declared.stop.RunStop.{RunStop}
use Rattle.bds_engine_parts.specs.declared.stop.RunStop.TheVariants as run_stop
use Rattle.bds_app_run.specs.Commands.{GoesOnTo, OpensFile, ResumesFile, RunsScript, outcome_of, run_outcome}
use Rattle.bds_app_run.specs.Resume.{HoldsState, HoldsNone, GoesOn}
use Rattle.bds_app_run.specs.declared.call.Call.{Call}
use Rattle.bds_app_run.specs.declared.outcome.Outcome.{Outcome}
use Rattle.bds_app_run.specs.declared.outcome.Outcome.TheVariants.{Ended, BadFile, Device, NoMemory}
use Rattle.bds_app_run.specs.Causes.{FileCause, ScriptCause}
use Rattle.bds_app_run.specs.Complete.{FilesAreDetermined, ScriptsAreDetermined}
use Rattle.bds_app_run.proofs.EndsAsMeant.{Last}
use Rattle.bds_app_run.proofs.FileLaws.{EndsHaveCauses, IsOneState, came_clean, done_comes, failed_told, goes_grows}
use Rattle.bds_app_run.proofs.FileLaws.{goes_same, opened_does, opened_refuses, opened_same, spent_comes}
use Rattle.bds_app_run.proofs.Rooms.{file_room, script_room}
use Rattle.bds_app_run.proofs.ScriptLaws.{last_of, script_completes, script_faults, script_refused, script_same, trail_of}
use Rattle.bds_app_run.proofs.Telling.{Comes, comes_settled, device_comes, device_settled, has_risen, not_risen}
use Rattle.bds_app_run.proofs.Telling.{says_comes, settled_clean, settled_risen}
use Rattle.bds_app_run.proofs.Trails.{JobTrail, none_clean, nothing_yet}

-- Scripts

module _ (c : Call) (before after : Log) where
  script_end : (e : JobEnd) → Last c (Reading []) before after e → JobTrail (AtEnd e) before after
      → ScriptCause c before after (outcome_of e)
  script_end _ (Last.of_run program at (Done status) l m) h = ScriptCause.ended program at status l m
  script_end _ (Last.of_run program at Spent l m) h = ScriptCause.spent program at l m
  script_end _ (Last.of_run program at DeviceFault l m) h = ScriptCause.device h
  script_end _ (Last.of_refusal f log l g) h = ScriptCause.refused f log l g
  script_end _ Last.of_fault h = ScriptCause.device h

  script_cause : (o : Outcome) → RunsScript c before after o → ScriptCause c before after o
  script_cause _ (RunsScript.came e l) = script_end e (last_of c before after e l) (trail_of c before after e l)
  script_cause _ (RunsScript.no_memory h) = ScriptCause.no_memory

pub scripts_are_determined : IsRefusedOrRun → HasOneEnd → ScriptsAreDetermined
scripts_are_determined either one c before after o runs =
    record {
      cause = script_cause c before after o runs;
      complete = λ was clean left. script_completes c before after either was clean left o runs;
      refused = λ was clean. script_refused c before after either was clean o runs;
      device = λ rose. script_faults c before after o runs rose;
      one = λ other runs'. script_same c before after one o other runs runs';
      room = script_room c before after o runs;
    }

-- Files

module _ (cpus ticks : ℕ) (path : List ℕ) (before after : Log) where
  abbrev C : Outcome → Type 0
  C o = FileCause cpus ticks path before after o

  by_device : (o : Outcome) → (o ≡ NoMemory) ⊎ ((o ≡ Device) × FaultIsTold before after) → C o
  by_device o (inl none) = subst C (sym none) FileCause.no_memory
  by_device o (inr told) = subst C (sym told.0) (FileCause.device told.1)

  by_refusal : (f : AFault) (log : Log) (o : Outcome) → HoldsNone path before log f
      → Comes (Tells (message_of f)) BadFile before log after o → C o
  by_refusal f log o none (inl lacked) = subst C (sym lacked) FileCause.no_memory
  by_refusal f log o none (inr (inl h)) = subst C (sym h.0) (FileCause.bad_file f log none h.1)
  by_refusal f log o none (inr (inr h)) = subst C (sym h.0) (FileCause.device h.1)

  module _ (law : EndsHaveCauses) where
    by_run : (s : Parts) (log : Log) (o : Outcome) → HoldsState path s before log → GoesOnTo cpus ticks s log after o
        → C o
    by_run s log o holds h = subst C (sym h.1.1) (by h.0 h.1.0)
      where
        by : (r : Result ℕ RunStop) → GoesOn cpus ticks s log after r → C (run_outcome r)
        by (Ok status) goes = FileCause.ended s log status holds goes
        by (Err run_stop.Ticks) goes = FileCause.spent s log holds goes
        by (Err run_stop.Device) goes =
            FileCause.device (failed_told cpus ticks s log after law path before holds goes)
        by (Err run_stop.NoMemory) goes = FileCause.no_memory

    file_cause : (o : Outcome) → ResumesFile cpus ticks path before after o → C o
    file_cause o (OpensFile.held s log _ holds does) = by_run s log o holds does
    file_cause o (OpensFile.bad_file f log _ none told) =
        by_refusal f log o none
        (says_comes before log (none_clean path f before log none) (message_of f) BadFile after o told)
    file_cause o (OpensFile.unread log _ a told) =
        by_device o (device_comes before before (nothing_yet before) (Read path) log after o a.grown told)
    file_cause _ (OpensFile.unloaded none) = FileCause.no_memory

    -- a fault has no other answer than `Device`, but for want of memory
    module _ (rose : faults before < faults after) where
      abbrev F : Outcome → Type 0
      F o = (o ≡ Device) ⊎ (o ≡ NoMemory)

      run_faults : (s : Parts) (log : Log) (o : Outcome) → HoldsState path s before log
          → GoesOnTo cpus ticks s log after o → F o
      run_faults s log o holds h = subst F (sym h.1.1) (by h.0 h.1.0)
        where
          by : (r : Result ℕ RunStop) → GoesOn cpus ticks s log after r → F (run_outcome r)
          by (Ok status) goes =
              let came = done_comes cpus ticks s log after status goes in
              let same = came_clean cpus ticks s log after law path before holds (Done status) came (λ q. cc q) in
              absurd (not_risen before after same rose)
          by (Err run_stop.Ticks) goes =
              let came = spent_comes cpus ticks s log after goes in
              let same = came_clean cpus ticks s log after law path before holds Spent came (λ q. cc q) in
              absurd (not_risen before after same rose)
          by (Err run_stop.Device) goes = inl refl
          by (Err run_stop.NoMemory) goes = inr refl

      pub file_faults : (o : Outcome) → ResumesFile cpus ticks path before after o → F o
      file_faults o (OpensFile.held s log _ holds does) = run_faults s log o holds does
      file_faults o (OpensFile.bad_file f log _ none told) =
          let clean = none_clean path f before log none in
          let comes = says_comes before log clean (message_of f) BadFile after o told in
          settled_risen BadFile before after o
          (comes_settled (Tells (message_of f)) BadFile before log after o clean comes) rose
      file_faults o (OpensFile.unread log _ a told) =
          settled_risen Device before after o (device_settled Device before after o
          (device_comes before before (nothing_yet before) (Read path) log after o a.grown told)) rose
      file_faults _ (OpensFile.unloaded none) = inr refl

    -- a state goes on to its end
    module _ (one : IsOneState) (o : Outcome) (resumes : ResumesFile cpus ticks path before after o) where
      pub file_completes : (s : Parts) (log rest : Log) → HoldsState path s before log → after ≡ log ++ rest
          → faults after ≡ faults before → (GoesOn cpus ticks s log after (Err run_stop.Ticks) → ⊥)
          → (o ≡ NoMemory) ⊎ ((status : ℕ) × ((o ≡ Ended status) × GoesOn cpus ticks s log after (Ok status)))
      file_completes s log rest holds g clean left =
          by (opened_does path (GoesOnTo cpus ticks) before after one s log rest holds g o
          (λ s log o h. goes_grows cpus ticks s log after o h) resumes)
        where
          Wanted : Outcome → Type 0
          Wanted x = (x ≡ NoMemory) ⊎ ((status : ℕ) × ((x ≡ Ended status) × GoesOn cpus ticks s log after (Ok status)))

          ends : (r : Result ℕ RunStop) → GoesOn cpus ticks s log after r → Wanted (run_outcome r)
          ends (Ok status) h = inr (status, (refl, h))
          ends (Err run_stop.Ticks) h = absurd (left h)
          ends (Err run_stop.Device) h =
              absurd (has_risen before after (failed_told cpus ticks s log after law path before holds h) clean)
          ends (Err run_stop.NoMemory) h = inl refl

          by : (o ≡ NoMemory) ⊎ GoesOnTo cpus ticks s log after o → Wanted o
          by (inl lacked) = inl lacked
          by (inr h) = subst Wanted (sym h.1.1) (ends h.0 h.1.0)

      pub file_refused : (f : AFault) (log rest : Log) → HoldsNone path before log f → after ≡ log ++ rest
          → faults after ≡ faults before → (o ≡ NoMemory) ⊎ (o ≡ BadFile)
      file_refused f log rest none g clean =
          settled_clean BadFile before after o
          (opened_refuses path (GoesOnTo cpus ticks) before after f log rest none g o
          (λ s log o h. goes_grows cpus ticks s log after o h) resumes) clean

pub files_are_determined : EndsHaveCauses → IsOneState → FilesAreDetermined
files_are_determined law one cpus ticks path before after o resumes =
    record {
      cause = file_cause cpus ticks path before after law o resumes;
      complete = file_completes cpus ticks path before after law one o resumes;
      bad_file = file_refused cpus ticks path before after law one o resumes;
      device = λ rose. file_faults cpus ticks path before after law rose o resumes;
      one = λ other resumes'.
          opened_same path (GoesOnTo cpus ticks) before after one (λ s log o h. goes_grows cpus ticks s log after o h)
          (λ s log o other holds h h'. goes_same cpus ticks s log after law o other h h') o other resumes resumes';
      room = file_room path before cpus ticks after o resumes;
    }
