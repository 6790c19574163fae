-- Each answer has its cause.
use Rattle.std.proofs.Common.{◌≡◌, ◌++◌, ◌⊎◌, ◌<◌, inl, inr, ℕ, List, [], ◌∷◌, Option, Some, None, Result, Ok, Err}
use Rattle.std.proofs.Common.{refl, sym, subst, codes}
use Rattle.bds_host.specs.declared.asks.Ask.{Ask}
use Rattle.bds_host.specs.declared.asks.Ask.TheVariants.{Read, Out, Err as Tells}
use Rattle.bds_host.specs.declared.asks.Reply.TheVariants as reply
use Rattle.bds_host.specs.declared.faults.Fault.TheVariants as fault
use Rattle.bds_host.specs.Host.{Log, faults}
use Rattle.bds_host.specs.Message.{message_of}
use Rattle.bds_meaning.specs.Begin.{JobEnd, Reading, AtEnd}
use Rattle.bds_schedule.specs.Stages.{Done, Spent, DeviceFault}
use Rattle.bds_state.specs.Parts.{Parts}
use Rattle.bds_engine_parts.specs.Run.{FaultIsTold}
use Rattle.bds_engine_parts.specs.declared.stop.RunStop.{RunStop}
use Rattle.bds_engine_parts.specs.declared.stop.RunStop.TheVariants as run_stop
use Rattle.bds_tools.specs.Info.{info_text}
use Rattle.bds_tools.specs.Summary.{summary_text}
use Rattle.bds_app_words.specs.Asked.{command_of}
use Rattle.bds_app_words.specs.declared.command.Command.{Command}
use Rattle.bds_app_words.specs.declared.command.Command.TheVariants.{Run, Resume, Check, Info, Make, Format, Replay}
use Rattle.bds_app_words.specs.declared.command.Command.TheVariants.{Dry, Test}
use Rattle.bds_app_words.specs.declared.command.Over.TheVariants.{Plain, Log as Logged, Farm}
use Rattle.bds_app_fmt.specs.Formatting.{FormatsScript}
use Rattle.bds_app_run.specs.Commands.{ChecksScript, GoesOnTo, OpensFile, RunsScript, outcome_of, run_outcome}
use Rattle.bds_app_run.specs.Resume.{HoldsState, GoesOn}
use Rattle.bds_app_run.specs.Telling.{Prints, TellsFault}
use Rattle.bds_app_run.specs.declared.call.Call.{Call}
use Rattle.bds_app_run.specs.declared.outcome.Outcome.{Outcome}
use Rattle.bds_app_run.specs.declared.outcome.Outcome.TheVariants.{Ended, Refused, BadFile, Device, Words, NoMemory}
use Rattle.bds_app_farm.specs.Farmed.{FarmsJob}
use Rattle.bds_app_farm.proofs.Farms.{determined}
use Rattle.bds_app_farm.proofs.Faults.{faults_told}
use Rattle.bds_app_run.specs.Complete.{FilesAreDetermined, ScriptsAreDetermined}
use Rattle.bds_app_log.specs.Logged.{LogsJob}
use Rattle.bds_app_log.specs.Replays.{ReplaysLog}
use Rattle.bds_app_log.proofs.Settled.{logs_settles, replays_settles}
use Rattle.bds_app_trials.specs.DryRuns.{DriesScript}
use Rattle.bds_app_trials.specs.Testing.{TestsScript}
use Rattle.bds_app_trials.proofs.DryAnswers.{dry_answered}
use Rattle.bds_app_trials.proofs.TestAnswers.{tests_answered}
use Rattle.bds_replay.specs.declared.log.Job.{Job}
use Rattle.bds_app.specs.Answers.{Answers, DoesCommand, MakesRun, call_of, job_of_resume, job_of_run}
use Rattle.bds_app.specs.Causes.{Cause, AsksDry, AsksFile, AsksJob, AsksRun, AsksTest}
use Rattle.bds_app.proofs.Checks.{accepted_comes, check_faults, refused_comes, unread_comes}
use Rattle.bds_app_run.proofs.EndsAsMeant.{Last}
use Rattle.bds_app_run.proofs.FileLaws.{EndsHaveCauses, came_clean, done_comes, failed_told, spent_comes}
use Rattle.bds_app.proofs.Formatted.{Found, format_faults, found}
use Rattle.bds_app.proofs.Logged.{Logs, logs, settles_faults}
use Rattle.bds_app.proofs.Made.{made_faults}
use Rattle.bds_app.proofs.Replayed.{Replayed, replayed}
use Rattle.bds_app.proofs.Tested.{TestEnd, test_end}
use Rattle.bds_app_run.proofs.ScriptLaws.{last_of, script_faults, trail_of}
use Rattle.bds_app_run.proofs.Telling.{Comes, comes_settled, device_comes, device_settled, not_risen, prints_comes}
use Rattle.bds_app_run.proofs.Telling.{says_comes, settled_risen}
use Rattle.bds_app_run.proofs.Trails.{JobTrail, none_clean, nothing_yet, state_clean}

module _ (scripts : ScriptsAreDetermined) (files : FilesAreDetermined) (words : List (List ℕ)) (before after : Log)
  where
    abbrev C : Outcome → Type 0
    C o = Cause words before after o

    -- a fault that was told is behind `Device`
    of_fault : FaultIsTold before after → C Device
    of_fault h = Cause.device h.pairs h.ask h.reply h.clean h.room h.grown

    of_device : (o : Outcome) → (o ≡ NoMemory) ⊎ ((o ≡ Device) × FaultIsTold before after) → C o
    of_device o (inl none) = subst C (sym none) Cause.no_memory
    of_device o (inr told) = subst C (sym told.0) (of_fault told.1)

    of_comes : (ask : Ask) (answer : Outcome) (log : Log) (o : Outcome)
        → (after ≡ log ++ (ask, reply.Done) ∷ [] → C answer) → Comes ask answer before log after o → C o
    of_comes ask answer log o cause (inl none) = subst C (sym none) Cause.no_memory
    of_comes ask answer log o cause (inr (inl h)) = subst C (sym h.0) (cause h.1)
    of_comes ask answer log o cause (inr (inr h)) = subst C (sym h.0) (of_fault h.1)

    -- of a script that is run
    of_end : (c : Call) (e : JobEnd) → AsksRun words c → Last c (Reading []) before after e
        → JobTrail (AtEnd e) before after → C (outcome_of e)
    of_end c _ w (Last.of_run program at (Done status) l m) h = Cause.ended c program at status w l m
    of_end c _ w (Last.of_run program at Spent l m) h = Cause.spent c program at w l m
    of_end c _ w (Last.of_run program at DeviceFault l m) h = of_fault h
    of_end c _ w (Last.of_refusal f log l g) h = Cause.refused c f log w l g
    of_end c _ w Last.of_fault h = of_fault h

    of_script : (c : Call) (o : Outcome) → AsksRun words c → RunsScript c before after o → C o
    of_script c _ w (RunsScript.came e l) = of_end c e w (last_of c before after e l) (trail_of c before after e l)
    of_script c _ w (RunsScript.no_memory h) = Cause.no_memory

    -- of a file
    of_file : (path : List ℕ) (Does : Parts → Log → Log → Outcome → Type 0) → AsksFile words path
        → ((s : Parts) (log : Log) (o : Outcome) → HoldsState path s before log → Does s log after o → C o)
        → (o : Outcome) → OpensFile path Does before after o → C o
    of_file path Does w of_state o (OpensFile.held s log _ holds does) = of_state s log o holds does
    of_file path Does w of_state o (OpensFile.bad_file f log _ none told) =
        of_comes (Tells (message_of f)) BadFile log o (λ e. Cause.bad_file path f log w none e)
        (says_comes before log (none_clean path f before log none) (message_of f) BadFile after o told)
    of_file path Does w of_state o (OpensFile.unread log _ a told) =
        of_device o (device_comes before before (nothing_yet before) (Read path) log after o a.grown told)
    of_file path Does w of_state _ (OpensFile.unloaded none) = Cause.no_memory

    of_run : EndsHaveCauses → (cpus ticks : ℕ) (path : List ℕ) → command_of words ≡ Some (Resume cpus ticks path Plain)
        → (s : Parts) (log : Log) (o : Outcome) → HoldsState path s before log → GoesOnTo cpus ticks s log after o → C o
    of_run law cpus ticks path w s log o holds h = subst C (sym h.1.1) (by h.0 h.1.0)
      where
        by : (r : Result ℕ RunStop) → GoesOn cpus ticks s log after r → C (run_outcome r)
        by (Ok status) goes = Cause.resumed_ended cpus ticks path s log status w holds goes
        by (Err run_stop.Ticks) goes = Cause.resumed_spent cpus ticks path s log w holds goes
        by (Err run_stop.Device) goes = of_fault (failed_told cpus ticks s log after law path before holds goes)
        by (Err run_stop.NoMemory) goes = Cause.no_memory

    of_description : (path : List ℕ) → command_of words ≡ Some (Info path) → (s : Parts) (log : Log) (o : Outcome)
        → HoldsState path s before log → Prints (info_text s) log after o → C o
    of_description path w s log o holds p =
        of_comes (Out (info_text s)) (Ended 0) log o (λ e. Cause.described path s log w holds e)
        (prints_comes before log (state_clean path s before log holds) (info_text s) after o p)

    -- of a script that is checked
    of_check : (path : List ℕ) → command_of words ≡ Some (Check path) → (o : Outcome) → ChecksScript path before after o
        → C o
    of_check path w o (ChecksScript.accepted t log _ l p) = of_comes (Out (codes "ok\n")) (Ended 0) log o
        (λ e. Cause.checked path t log w l e) (accepted_comes path before after t log o l p)
    of_check path w o (ChecksScript.refused_for f g log _ l is p) = of_comes (Tells (message_of g)) Refused log o
        (λ e. Cause.unchecked path f g log w l is e) (refused_comes path before after f g log o is l p)
    of_check path w o (ChecksScript.faulted log _ l t) = of_device o (unread_comes path before after log o l t)
    of_check path w _ (ChecksScript.no_memory t l) = Cause.no_memory

    -- of one that is made
    of_made : (n : ℕ) → command_of words ≡ Some (Make n) → (o : Outcome) → MakesRun n before after o → C o
    of_made n w o (MakesRun.done inner status _ runs p) =
        of_comes (Out (summary_text inner status)) (Ended 0) before o (λ e. Cause.made n inner status w runs e)
        (prints_comes before before (nothing_yet before) (summary_text inner status) after o p)
    of_made n w o (MakesRun.refused log text _ runs p) = of_comes (Tells text) Refused before o
        (λ e. Cause.made_refused n log text w runs e) (says_comes before before (nothing_yet before) text Refused after o
        p)
    of_made n w _ (MakesRun.spent inner runs e) = Cause.made_spent n inner w runs e
    of_made n w _ (MakesRun.no_memory e) = Cause.no_memory

    -- of one that is formatted
    of_format : (path : List ℕ) → command_of words ≡ Some (Format path) → (o : Outcome)
        → FormatsScript path before after o → C o
    of_format path w o h = by (found path before after o h)
      where
        by : Found path before after o → C o
        by (Found.canonical_text text log canonical c) =
            of_comes (Out text) (Ended 0) log o (λ e. Cause.formatted path text log w canonical e) c
        by (Found.none f log none c) =
            of_comes (Tells (message_of f)) Refused log o (λ e. Cause.unformatted path f log w none e) c
        by (Found.unread e) = of_device o e

    -- of a job whose log is written
    of_logs : EndsHaveCauses → (j : Job) (path : List ℕ) → AsksJob words (Logged path) j → (o : Outcome)
        → LogsJob j path before after o → C o
    of_logs law j path w o h = by (logs j path before after law o h)
      where
        by : {x : Outcome} → Logs j path before after x → C x
        by Logs.no_memory = Cause.no_memory
        by (Logs.device f) = of_fault f
        by (Logs.spent does) = Cause.logged_spent j path w does
        by (Logs.written pairs bytes came does kept is e) = Cause.logged j path pairs bytes came w does kept is e

    -- of a job over a farm
    of_farm : (j : Job) (submit poll : List ℕ) → AsksJob words (Farm submit poll) j → (o : Outcome)
        → FarmsJob j submit poll before after o → C o
    of_farm j submit poll w o h =
        Cause.farmed j submit poll o w h (determined scripts files j submit poll before after o h)

    -- of a log that is replayed
    of_replay : (path : List ℕ) → command_of words ≡ Some (Replay path) → (o : Outcome) → ReplaysLog path before after o
        → C o
    of_replay path w o h = by (replayed path before after o h)
      where
        by : {x : Outcome} → Replayed path before after x → C x
        by Replayed.no_memory = Cause.no_memory
        by (Replayed.device f) = of_fault f
        by (Replayed.alike l log inner came holds done kept e) = Cause.replayed path l log inner came w holds done kept e
        by (Replayed.unlike l log inner left came holds done unlike e) =
            Cause.unlike path l log inner left came w holds done unlike e
        by (Replayed.no_log f log none e) = Cause.no_log path f log w none e

    -- of one that is run where nothing is done outside
    of_dry : (c : Call) → AsksDry words c → (o : Outcome) → DriesScript c before after o → C o
    of_dry c w o h = Cause.dried c o w h (scripts c [] h.own o h.runs) (dry_answered c before after o h)

    -- of one whose tests are run
    of_tests : (c : Call) → AsksTest words c → (o : Outcome) → TestsScript c before after o → C o
    of_tests c w o h = by (test_end c before after o h)
      where
        by : {x : Outcome} → TestEnd c before after x → C x
        by (TestEnd.counted t loaded log failed loads fits there e passed) =
            Cause.tested c t loaded log failed w loads fits there e
        by (TestEnd.spent t test loaded log n failed loads fits there is run passed) =
            Cause.test_spent c t test loaded log n failed w loads fits there is run
        by (TestEnd.unloaded f g log loads is e) = Cause.untested c f g log w loads is e
        by (TestEnd.big t log loads is e) = Cause.test_too_big c t log w loads is e
        by (TestEnd.device f) = of_fault f
        by TestEnd.no_memory = Cause.no_memory

    of_words : command_of words ≡ None → (o : Outcome) → TellsFault fault.Words Words before after o → C o
    of_words w o p = of_comes (Tells (message_of fault.Words)) Words before o (λ e. Cause.words_refused w e)
        (says_comes before before (nothing_yet before) (message_of fault.Words) Words after o p)

    of_command : EndsHaveCauses → (asked : Option Command) → command_of words ≡ asked → (o : Outcome)
        → DoesCommand asked before after o → C o
    of_command law None w o h = of_words w o h
    of_command law (Some (Run cpus ticks path ws Plain)) w o h = of_script (call_of cpus ticks path ws) o w h
    of_command law (Some (Run cpus ticks path ws (Logged to))) w o h =
        of_logs law (job_of_run cpus ticks path ws) to (AsksJob.run cpus ticks path ws w) o h
    of_command law (Some (Run cpus ticks path ws (Farm submit poll))) w o h =
        of_farm (job_of_run cpus ticks path ws) submit poll (AsksJob.run cpus ticks path ws w) o h
    of_command law (Some (Resume cpus ticks path (Farm submit poll))) w o h =
        of_farm (job_of_resume cpus ticks path) submit poll (AsksJob.resume cpus ticks path w) o h
    of_command law (Some (Resume cpus ticks path (Logged to))) w o h =
        of_logs law (job_of_resume cpus ticks path) to (AsksJob.resume cpus ticks path w) o h
    of_command law (Some (Resume cpus ticks path Plain)) w o h =
        of_file path (GoesOnTo cpus ticks) (AsksFile.resume cpus ticks w) (of_run law cpus ticks path w) o h
    of_command law (Some (Check path)) w o h = of_check path w o h
    of_command law (Some (Info path)) w o h =
        of_file path (λ s. Prints (info_text s)) (AsksFile.info w) (of_description path w) o h
    of_command law (Some (Make n)) w o h = of_made n w o h
    of_command law (Some (Format path)) w o h = of_format path w o h
    of_command law (Some (Replay path)) w o h = of_replay path w o h
    of_command law (Some (Dry cpus ticks path ws)) w o h = of_dry (call_of cpus ticks path ws) w o h
    of_command law (Some (Test cpus ticks path)) w o h = of_tests (call_of cpus ticks path []) (w, refl) o h

    -- each answer has its cause
    pub answers_cause : EndsHaveCauses → (o : Outcome) → Answers words before after o → Cause words before after o
    answers_cause law o h = of_command law (command_of words) refl o h

-- Faults

module _ (scripts : ScriptsAreDetermined) (files : FilesAreDetermined) (before after : Log)
    (rose : faults before < faults after) where
  abbrev F : Outcome → Type 0
  F o = (o ≡ Device) ⊎ (o ≡ NoMemory)

  told_device : (o : Outcome) → (o ≡ NoMemory) ⊎ ((o ≡ Device) × FaultIsTold before after) → F o
  told_device o h = settled_risen Device before after o (device_settled Device before after o h) rose

  file_faults : (path : List ℕ) (Does : Parts → Log → Log → Outcome → Type 0)
      → ((s : Parts) (log : Log) (o : Outcome) → HoldsState path s before log → Does s log after o → F o)
      → (o : Outcome) → OpensFile path Does before after o → F o
  file_faults path Does of_state o (OpensFile.held s log _ holds does) = of_state s log o holds does
  file_faults path Does of_state o (OpensFile.bad_file f log _ none told) =
      let clean = none_clean path f before log none in
      settled_risen BadFile before after o (comes_settled (Tells (message_of f)) BadFile before log after o clean
      (says_comes before log clean (message_of f) BadFile after o told)) rose
  file_faults path Does of_state o (OpensFile.unread log _ a told) =
      told_device o (device_comes before before (nothing_yet before) (Read path) log after o a.grown told)
  file_faults path Does of_state _ (OpensFile.unloaded none) = inr refl

  run_faults : EndsHaveCauses → (cpus ticks : ℕ) (path : List ℕ) (s : Parts) (log : Log) (o : Outcome)
      → HoldsState path s before log → GoesOnTo cpus ticks s log after o → F o
  run_faults law cpus ticks path s log o holds h = subst F (sym h.1.1) (by h.0 h.1.0)
    where
      by : (r : Result ℕ RunStop) → GoesOn cpus ticks s log after r → F (run_outcome r)
      by (Ok status) goes = let same = came_clean cpus ticks s log after law path before holds (Done status)
          (done_comes cpus ticks s log after status goes) (λ q. cc q) in absurd (not_risen before after same rose)
      by (Err run_stop.Ticks) goes = let same = came_clean cpus ticks s log after law path before holds Spent
          (spent_comes cpus ticks s log after goes) (λ q. cc q) in absurd (not_risen before after same rose)
      by (Err run_stop.Device) goes = inl refl
      by (Err run_stop.NoMemory) goes = inr refl

  description_faults : (path : List ℕ) (s : Parts) (log : Log) (o : Outcome) → HoldsState path s before log
      → Prints (info_text s) log after o → F o
  description_faults path s log o holds p =
      let clean = state_clean path s before log holds in
      settled_risen (Ended 0) before after o (comes_settled (Out (info_text s)) (Ended 0) before log after o clean
      (prints_comes before log clean (info_text s) after o p)) rose

  farm_faults : (j : Job) (submit poll : List ℕ) (o : Outcome) → FarmsJob j submit poll before after o → F o
  farm_faults j submit poll o h =
      faults_told j submit poll before after o h (determined scripts files j submit poll before after o h) rose

  command_faults : EndsHaveCauses → (asked : Option Command) (o : Outcome) → DoesCommand asked before after o → F o
  command_faults law None o h = settled_risen Words before after o
      (comes_settled (Tells (message_of fault.Words)) Words before before after o (nothing_yet before)
      (says_comes before before (nothing_yet before) (message_of fault.Words) Words after o h)) rose
  command_faults law (Some (Run cpus ticks path ws Plain)) o h =
      script_faults (call_of cpus ticks path ws) before after o h rose
  command_faults law (Some (Run cpus ticks path ws (Logged to))) o h =
      settles_faults before after o (logs_settles law (job_of_run cpus ticks path ws) to before after o h) rose
  command_faults law (Some (Run cpus ticks path ws (Farm submit poll))) o h =
      farm_faults (job_of_run cpus ticks path ws) submit poll o h
  command_faults law (Some (Resume cpus ticks path (Farm submit poll))) o h =
      farm_faults (job_of_resume cpus ticks path) submit poll o h
  command_faults law (Some (Resume cpus ticks path (Logged to))) o h =
      settles_faults before after o (logs_settles law (job_of_resume cpus ticks path) to before after o h) rose
  command_faults law (Some (Resume cpus ticks path Plain)) o h =
      file_faults path (GoesOnTo cpus ticks) (run_faults law cpus ticks path) o h
  command_faults law (Some (Check path)) o h = check_faults path before after o h rose
  command_faults law (Some (Info path)) o h = file_faults path (λ s. Prints (info_text s)) (description_faults path) o h
  command_faults law (Some (Make n)) o h = made_faults n before after o h rose
  command_faults law (Some (Format path)) o h = format_faults path before after o h rose
  command_faults law (Some (Replay path)) o h =
      settles_faults before after o (replays_settles path before after o h) rose
  command_faults law (Some (Dry cpus ticks path ws)) o h =
      (dry_answered (call_of cpus ticks path ws) before after o h).only rose
  command_faults law (Some (Test cpus ticks path)) o h =
      (tests_answered (call_of cpus ticks path []) before after o h).only rose

-- a fault has no other answer than `Device`, but for want of memory
pub faults_answer : ScriptsAreDetermined → FilesAreDetermined → (words : List (List ℕ)) (before after : Log)
    → EndsHaveCauses → (o : Outcome) → Answers words before after o → faults before < faults after → (o ≡ Device)
    ⊎ (o ≡ NoMemory)
faults_answer scripts files words before after law o h rose =
    command_faults scripts files before after rose law (command_of words) o h
