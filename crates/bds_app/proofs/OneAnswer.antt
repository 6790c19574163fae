-- When the answer is that of the meaning, and that a log has one answer.
use Rattle.std.proofs.Common.{◌≡◌, ◌⊎◌, true, false, inl, inr, ℕ, List, [], Option, Some, None, Result, Ok, Err, refl}
use Rattle.std.proofs.Common.{arith, sym}
use Rattle.std.proofs.Common.{subst}
use Rattle.bds_host.specs.declared.asks.Ask.TheVariants.{Out, Err as Tells}
use Rattle.bds_host.specs.declared.faults.Fault.TheVariants as fault
use Rattle.bds_host.specs.Host.{Log}
use Rattle.bds_host.specs.Message.{message_of}
use Rattle.bds_check_typing.specs.Texts.{IsShort}
use Rattle.bds_front.specs.Unique.{HasOneEnd, HasOneStep, IsRefusedOrRun}
use Rattle.bds_state.specs.Parts.{Parts}
use Rattle.bds_engine_parts.specs.declared.stop.RunStop.{RunStop}
use Rattle.bds_engine_parts.specs.declared.stop.RunStop.TheVariants as run_stop
use Rattle.bds_tools.specs.Info.{info_text}
use Rattle.bds_app_words.proofs.Declared.{within}
use Rattle.bds_app_words.specs.Asked.{command_of}
use Rattle.bds_app_words.specs.declared.command.Command.{Command}
use Rattle.bds_app_words.specs.declared.command.Command.TheVariants.{Run, Resume, Check, Info, Make, Format, Replay}
use Rattle.bds_app_words.specs.declared.command.Command.TheVariants.{Dry, Test}
use Rattle.bds_app_words.specs.declared.command.Over.{Over}
use Rattle.bds_app_words.specs.declared.command.Over.TheVariants.{Plain, Log as Logged, Farm}
use Rattle.bds_app_run.specs.Commands.{GoesOnTo, run_outcome}
use Rattle.bds_app_run.specs.Resume.{HoldsState, GoesOn}
use Rattle.bds_app_run.specs.Telling.{Prints}
use Rattle.bds_app_run.specs.declared.call.Call.{Call}
use Rattle.bds_app_run.specs.declared.outcome.Outcome.{Outcome}
use Rattle.bds_app_run.specs.declared.outcome.Outcome.TheVariants.{Ended, BadFile, Words, NoMemory}
use Rattle.bds_app_log.specs.Replays.{IsDoneAgain}
use Rattle.bds_app_trials.specs.Testing.{TestsScript}
use Rattle.bds_app_farm.proofs.Farms.{determined}
use Rattle.bds_app_run.specs.Complete.{FilesAreDetermined, ScriptsAreDetermined}
use Rattle.bds_app_log.proofs.One.{logs_same}
use Rattle.bds_app_log.proofs.OneReplay as again
use Rattle.bds_app_log.proofs.OneReplay.{replays_same}
use Rattle.bds_app_log.proofs.Same.{replayed_same}
use Rattle.bds_replay.specs.declared.log.Job.{Job}
use Rattle.bds_made.specs.Runs.{IsNeverRefused, IsNeverSpent}
use Rattle.bds_app.specs.Answers.{Answers, DoesCommand, call_of, job_of_resume, job_of_run, made_call}
use Rattle.bds_app.specs.Causes.{AsksFile, AsksJob, AsksTest}
use Rattle.bds_app.specs.Complete.{FileIsDescribed, FileIsLogged, FileIsRefused, FileIsResumed, HasWholeLog, IsComplete}
use Rattle.bds_app.specs.Complete.{IsOnly, IsReplayedAgain, LogIsRefused, LogIsReplayed, ScriptIsChecked}
use Rattle.bds_app.specs.Complete.{ScriptIsFaulty, ScriptIsFormatted, ScriptIsLogged, ScriptIsMade, ScriptIsRefused}
use Rattle.bds_app.specs.Complete.{ScriptIsRun, ScriptIsUnformatted, TestsAreRefused, TestsAreRun, TestsAreTooBig}
use Rattle.bds_app.proofs.Checks.{check_completes, check_refuses, check_same}
use Rattle.bds_app_run.proofs.FileLaws.{EndsHaveCauses, IsOneState, failed_told, goes_grows, goes_same, opened_does}
use Rattle.bds_app_run.proofs.FileLaws.{opened_refuses, opened_same}
use Rattle.bds_app.proofs.Formatted.{format_completes, format_refuses, format_same}
use Rattle.bds_app.proofs.LoggedEnds.{file_log_refused, file_logged, script_log_refused, script_logged}
use Rattle.bds_app.proofs.Made.{made_completes, made_same}
use Rattle.bds_app.proofs.Replayed.{replay_completes, replay_refuses}
use Rattle.bds_app.proofs.Tested.{tests_complete, tests_refuse, tests_too_big}
use Rattle.bds_app_run.proofs.ScriptLaws.{script_completes, script_refused, script_same}
use Rattle.bds_app_run.proofs.Telling.{Grows, Same, comes_settled, has_risen, prints_comes, prints_grows, says_comes}
use Rattle.bds_app_run.proofs.Telling.{settled_clean, settled_same}
use Rattle.bds_app_run.proofs.Trails.{nothing_yet, state_clean}

module _ (before after : Log) where
  description_grows : (s : Parts) (log : Log) (o : Outcome) → Prints (info_text s) log after o → Grows log after
  description_grows s log o p = prints_grows (info_text s) log after o p

  described_same : (path : List ℕ) (s : Parts) (log : Log) (o other : Outcome) → HoldsState path s before log
      → Prints (info_text s) log after o → Prints (info_text s) log after other → Same o other
  described_same path s log o other holds p q =
      let clean = state_clean path s before log holds in
      settled_same (Ended 0) before after o other (comes_settled (Out (info_text s)) (Ended 0) before log after o clean
      (prints_comes before log clean (info_text s) after o p))
      (comes_settled (Out (info_text s)) (Ended 0) before log after other clean
      (prints_comes before log clean (info_text s) after other q))

  -- two answers to one command with one log
  command_same : HasOneEnd → HasOneStep → EndsHaveCauses → IsOneState → (asked : Option Command) → HasWholeLog asked
      → (o other : Outcome) → DoesCommand asked before after o → DoesCommand asked before after other → Same o other
  command_same end step law one None whole o other a b =
      settled_same Words before after o other
      (comes_settled (Tells (message_of fault.Words)) Words before before after o (nothing_yet before)
      (says_comes before before (nothing_yet before) (message_of fault.Words) Words after o a))
      (comes_settled (Tells (message_of fault.Words)) Words before before after other (nothing_yet before)
      (says_comes before before (nothing_yet before) (message_of fault.Words) Words after other b))
  command_same end step law one (Some (Run cpus ticks path ws Plain)) whole o other a b =
      script_same (call_of cpus ticks path ws) before after end o other a b
  command_same end step law one (Some (Run cpus ticks path ws (Logged to))) whole o other a b =
      logs_same (job_of_run cpus ticks path ws) to before after step law one o other a b
  command_same end step law one (Some (Run cpus ticks path ws (Farm submit poll))) whole o other a b = absurd whole
  command_same end step law one (Some (Resume cpus ticks path (Farm submit poll))) whole o other a b = absurd whole
  command_same end step law one (Some (Resume cpus ticks path (Logged to))) whole o other a b =
      logs_same (job_of_resume cpus ticks path) to before after step law one o other a b
  command_same end step law one (Some (Resume cpus ticks path Plain)) whole o other a b =
      opened_same path (GoesOnTo cpus ticks) before after one (λ s log o h. goes_grows cpus ticks s log after o h)
      (λ s log o other holds h h'. goes_same cpus ticks s log after law o other h h') o other a b
  command_same end step law one (Some (Check path)) whole o other a b = check_same path before after o other a b
  command_same end step law one (Some (Info path)) whole o other a b =
      opened_same path (λ s. Prints (info_text s)) before after one description_grows (described_same path) o other a b
  command_same end step law one (Some (Make n)) whole o other a b = made_same n before after o other a b
  command_same end step law one (Some (Format path)) whole o other a b = format_same path before after o other a b
  command_same end step law one (Some (Replay path)) whole o other a b =
      replays_same path before after step law one o other a b
  command_same end step law one (Some (Dry cpus ticks path ws)) whole o other a b = absurd whole
  command_same end step law one (Some (Test cpus ticks path)) whole o other a b = absurd whole

-- what words ask for that want a job over a host of its own
asks_run : (words : List (List ℕ)) (over : Over) (j : Job) → AsksJob words over j → j.resume ≡ false
    → command_of words ≡ Some (Run j.cpus j.ticks j.path j.words over)
asks_run words over _ (AsksJob.run cpus ticks path more e) is = e
asks_run words over _ (AsksJob.resume cpus ticks path e) is = absurd (cc is)

asks_resume : (words : List (List ℕ)) (over : Over) (j : Job) → AsksJob words over j → j.resume ≡ true
    → command_of words ≡ Some (Resume j.cpus j.ticks j.path over)
asks_resume words over _ (AsksJob.run cpus ticks path more e) is = absurd (cc is)
asks_resume words over _ (AsksJob.resume cpus ticks path e) is = e

module _ (words : List (List ℕ)) (before after : Log) where
  pub only_answer : HasOneEnd → HasOneStep → EndsHaveCauses → IsOneState → (o : Outcome) → Answers words before after o
      → IsOnly words before after o
  only_answer end step law one o a whole other b =
      command_same before after end step law one (command_of words) whole o other a b

  -- what is done where it is known what the words ask for
  at_command : (asked : Option Command) → command_of words ≡ asked → (o : Outcome) → Answers words before after o
      → DoesCommand asked before after o
  at_command asked e o a = subst (λ x. DoesCommand x before after o) e a

  script_is_run : IsRefusedOrRun → (o : Outcome) → Answers words before after o → ScriptIsRun words before after o
  script_is_run either o a c w was clean left =
      script_completes c before after either was clean left o
      (at_command (Some (Run c.cpus c.ticks c.path c.words Plain)) w o a)

  script_is_refused : IsRefusedOrRun → (o : Outcome) → Answers words before after o
      → ScriptIsRefused words before after o
  script_is_refused law o a c w was clean =
      script_refused c before after law was clean o (at_command (Some (Run c.cpus c.ticks c.path c.words Plain)) w o a)

  file_is_resumed : EndsHaveCauses → IsOneState → (o : Outcome) → Answers words before after o
      → FileIsResumed words before after o
  file_is_resumed law one o a cpus ticks path s log rest w holds g clean left =
      by (opened_does path (GoesOnTo cpus ticks) before after one s log rest holds g o
      (λ s log o h. goes_grows cpus ticks s log after o h) (at_command (Some (Resume cpus ticks path Plain)) w o a))
    where
      Wanted : Outcome → Type 0
      Wanted x = (x ≡ NoMemory) ⊎ ((status : ℕ) × ((x ≡ Ended status) × GoesOn cpus ticks s log after (Ok status)))

      ends : (r : Result ℕ RunStop) → GoesOn cpus ticks s log after r → Wanted (run_outcome r)
      ends (Ok status) h = inr (status, (refl, h))
      ends (Err run_stop.Ticks) h = absurd (left h)
      ends (Err run_stop.Device) h =
          absurd (has_risen before after (failed_told cpus ticks s log after law path before holds h) clean)
      ends (Err run_stop.NoMemory) h = inl refl

      by : (o ≡ NoMemory) ⊎ GoesOnTo cpus ticks s log after o → Wanted o
      by (inl lacked) = inl lacked
      by (inr h) = subst Wanted (sym h.1.1) (ends h.0 h.1.0)

  file_is_described : IsOneState → (o : Outcome) → Answers words before after o → FileIsDescribed words before after o
  file_is_described one o a path s log rest w holds g clean =
      by (opened_does path (λ s. Prints (info_text s)) before after one s log rest holds g o
      (description_grows before after) (at_command (Some (Info path)) w o a))
    where
      by : (o ≡ NoMemory) ⊎ Prints (info_text s) log after o → (o ≡ NoMemory) ⊎ (o ≡ Ended 0)
      by (inl lacked) = inl lacked
      by (inr p) =
          let fine = state_clean path s before log holds in
          settled_clean (Ended 0) before after o (comes_settled (Out (info_text s)) (Ended 0) before log after o fine
          (prints_comes before log fine (info_text s) after o p)) clean

  file_is_refused : (o : Outcome) → Answers words before after o → FileIsRefused words before after o
  file_is_refused o a path f log rest (AsksFile.resume cpus ticks w) none g clean =
      settled_clean BadFile before after o (opened_refuses path (GoesOnTo cpus ticks) before after f log rest none g o
      (λ s log o h. goes_grows cpus ticks s log after o h) (at_command (Some (Resume cpus ticks path Plain)) w o a))
      clean
  file_is_refused o a path f log rest (AsksFile.info w) none g clean =
      settled_clean BadFile before after o (opened_refuses path (λ s. Prints (info_text s)) before after f log rest none
      g o (description_grows before after) (at_command (Some (Info path)) w o a)) clean

  script_is_checked : IsRefusedOrRun → (o : Outcome) → Answers words before after o
      → ScriptIsChecked words before after o
  script_is_checked either o a path t log rest w l g clean =
      check_completes path before either t log rest after l g clean o (at_command (Some (Check path)) w o a)

  script_is_faulty : IsRefusedOrRun → (o : Outcome) → Answers words before after o → ScriptIsFaulty words before after o
  script_is_faulty law o a path f g log rest w l is grown clean =
      check_refuses path before law f g log rest after l is grown clean o (at_command (Some (Check path)) w o a)

  short_path : IsShort made_call.path
  short_path = omega arith

  script_is_made : IsNeverRefused → IsNeverSpent → (o : Outcome) → Answers words before after o
      → ScriptIsMade words before after o
  script_is_made fine enough o a n w same =
      let few = (within words (Make n) w).1 in
      made_completes n before after same (λ inner runs. fine made_call n inner refl short_path few runs.0 runs.1)
      (λ inner runs. enough made_call n inner refl short_path few runs.0 runs.1) o (at_command (Some (Make n)) w o a)

  script_is_formatted : (o : Outcome) → Answers words before after o → ScriptIsFormatted words before after o
  script_is_formatted o a path text log rest w h g clean =
      format_completes path before after text log rest h g clean o (at_command (Some (Format path)) w o a)

  script_is_unformatted : (o : Outcome) → Answers words before after o → ScriptIsUnformatted words before after o
  script_is_unformatted o a path f log rest w none g clean =
      format_refuses path before after f log rest none g clean o (at_command (Some (Format path)) w o a)

  script_is_logged : IsRefusedOrRun → EndsHaveCauses → (o : Outcome) → Answers words before after o
      → ScriptIsLogged words before after o
  script_is_logged either law o a c path w clean =
      let h = at_command (Some (Run c.cpus c.ticks c.path c.words (Logged path)))
      (asks_run words (Logged path) (job_of_run c.cpus c.ticks c.path c.words) w refl) o a in (
        (λ was left. script_logged either law c path before after clean was left o h),
        λ was. script_log_refused either
            law c path before after clean was o h,
      )

  file_is_logged : EndsHaveCauses → IsOneState → (o : Outcome) → Answers words before after o
      → FileIsLogged words before after o
  file_is_logged law one o a cpus ticks file path log rest w g clean =
      let h = at_command (Some (Resume cpus ticks file (Logged path)))
      (asks_resume words (Logged path) (job_of_resume cpus ticks file) w refl) o a in (
        (λ s holds left. file_logged one law cpus ticks file path before after clean s log rest holds g left o h),
        λ f
            none. file_log_refused one law cpus ticks file path before after clean f log rest none g o h,
      )

  log_is_replayed : HasOneStep → EndsHaveCauses → IsOneState → (o : Outcome) → Answers words before after o
      → LogIsReplayed words before after o
  log_is_replayed step law one o a path l log rest inner left came w holds g clean done =
      let h = at_command (Some (Replay path)) w o a in (
        (λ used kept. replay_completes path before after step law one o h came
            (again.Shown.alike l log inner rest holds g (subst (λ x. IsDoneAgain l inner x came) used done) kept) kept
            clean),
        λ unlike. replay_refuses path before after step law one o h
            (again.Shown.unlike l log inner rest left came holds g done unlike refl) clean,
      )

  log_is_refused : HasOneStep → EndsHaveCauses → IsOneState → (o : Outcome) → Answers words before after o
      → LogIsRefused words before after o
  log_is_refused step law one o a path f log rest w none g clean =
      replay_refuses path before after step law one o (at_command (Some (Replay path)) w o a)
      (again.Shown.no_log f log rest none g refl) clean

  -- a call of tests is one without words
  tests_at : (c : Call) → AsksTest words c → (o : Outcome) → Answers words before after o → TestsScript c before after o
  tests_at c w o a = subst (λ ws. TestsScript (call_of c.cpus c.ticks c.path ws) before after o) (sym w.1)
      (at_command (Some (Test c.cpus c.ticks c.path)) w.0 o a)

  tests_are_run : IsRefusedOrRun → (o : Outcome) → Answers words before after o → TestsAreRun words before after o
  tests_are_run either o a c t log rest w l fits grown clean left =
      tests_complete either c before after clean t log rest l fits grown left o (tests_at c w o a)

  tests_are_refused : IsRefusedOrRun → (o : Outcome) → Answers words before after o
      → TestsAreRefused words before after o
  tests_are_refused either o a c f g log rest w l is grown clean =
      tests_refuse either c before after clean f g log rest l is grown o (tests_at c w o a)

  tests_are_too_big : IsRefusedOrRun → (o : Outcome) → Answers words before after o
      → TestsAreTooBig words before after o
  tests_are_too_big either o a c t log rest w l big grown clean =
      tests_too_big either c before after clean t log rest l big grown o (tests_at c w o a)

  pub replayed_again : HasOneStep → EndsHaveCauses → IsOneState → (o : Outcome) → Answers words before after o
      → IsReplayedAgain words before after o
  replayed_again step law one o a path w =
      replayed_same step law one path before after o (at_command (Some (Replay path)) w o a)

  pub completes : ScriptsAreDetermined → FilesAreDetermined → IsRefusedOrRun → HasOneStep → EndsHaveCauses → IsOneState
      → IsNeverRefused → IsNeverSpent → (o : Outcome) → Answers words before after o
      → IsComplete words before after o
  completes scripts files either step law one fine enough o a = record {
    run = script_is_run either o a;
    refused = script_is_refused either o a;
    resumed = file_is_resumed law one o a;
    described = file_is_described one o a;
    bad_file = file_is_refused o a;
    checked = script_is_checked either o a;
    faulty = script_is_faulty either o a;
    made = script_is_made fine enough o a;
    formatted = script_is_formatted o a;
    unformatted = script_is_unformatted o a;
    script_logged = script_is_logged either law o a;
    file_logged = file_is_logged law one o a;
    replayed = log_is_replayed step law one o a;
    no_log = log_is_refused step law one o a;
    farmed = λ j submit poll w. determined scripts files j submit poll before after o;
    dried = λ c w h. scripts c [] h.own o h.runs;
    tested = tests_are_run either o a;
    untested = tests_are_refused either o a;
    tests_too_big = tests_are_too_big either o a;
  }
