-- A job whose log is written comes to the end to which it comes without.
use Rattle.std.proofs.Common.{◌≡◌, ◌++◌, ◌∙◌, ◌⊎◌, true, inl, inr, ℕ, List, [], ◌∷◌, Result, Ok, Err, refl, sym, ap}
use Rattle.std.proofs.Common.{subst, append_assoc, append-nil}
use Rattle.bds_host.specs.declared.asks.Ask.{Ask}
use Rattle.bds_host.specs.declared.asks.Ask.TheVariants.{Err as Tells, Write}
use Rattle.bds_host.specs.declared.asks.Reply.{Reply}
use Rattle.bds_host.specs.declared.asks.Reply.TheVariants as reply
use Rattle.bds_host.specs.declared.faults.Fault.{Fault as AFault}
use Rattle.bds_host.specs.Host.{Log, faults}
use Rattle.bds_host.specs.Message.{message_of}
use Rattle.bds_front.specs.Unique.{IsRefusedOrRun}
use Rattle.bds_meaning.specs.Begin.{JobEnd, ran, refused, Reading, AtEnd}
use Rattle.bds_schedule.specs.Stages.{Done, Spent, DeviceFault}
use Rattle.bds_schedule.specs.Steps.{Leads}
use Rattle.bds_state.specs.Parts.{Parts}
use Rattle.bds_engine_parts.specs.declared.stop.RunStop.{RunStop}
use Rattle.bds_engine_parts.specs.declared.stop.RunStop.TheVariants as run_stop
use Rattle.bds_app_run.specs.Commands.{GoesOnTo, OpensFile, ResumesFile, RunsScript, outcome_of, run_outcome}
use Rattle.bds_app_run.specs.Job.{JobSteps, job_of, set_by_words, size_with}
use Rattle.bds_app_run.specs.Resume.{HoldsState, HoldsNone, GoesOn}
use Rattle.bds_app_run.specs.Telling.{Says, TellsDevice}
use Rattle.bds_app_run.specs.declared.call.Call.{Call}
use Rattle.bds_app_run.specs.declared.outcome.Outcome.{Outcome}
use Rattle.bds_app_run.specs.declared.outcome.Outcome.TheVariants.{Ended, Refused, BadFile, Device, NoMemory, Ticks}
use Rattle.bds_app_log.specs.Logged.{LogsJob, is_logged, log_of}
use Rattle.bds_replay.specs.Loading.{IsLogOf}
use Rattle.bds_replay.specs.declared.log.Job.{Job}
use Rattle.bds_app_run.specs.Accepted.{WasAccepted, WasRefused, IsSpent}
use Rattle.bds_app_run.proofs.EndsAsMeant.{Last}
use Rattle.bds_app_run.proofs.FileLaws.{EndsHaveCauses, IsOneState, goes_grows, none_or_state, one_state, same_reply}
use Rattle.bds_app_run.proofs.ScriptLaws.{last_of, script_completes, script_refused}
use Rattle.bds_app_run.proofs.Telling.{device_grows, has_risen, says_grows}
use Rattle.bds_app.specs.Answers.{job_of_resume, job_of_run}
use Rattle.bds_app.specs.Complete.{IsLoggedEnd}
use Rattle.bds_app.proofs.Logged.{Logs, logs, unkept, unkept_device, unkept_none}

-- what was added behind a pair that was added
behind : (log mid after : Log) (p q : Ask × Reply) → mid ≡ log ++ p ∷ [] → after ≡ mid ++ q ∷ []
    → after ≡ log ++ p ∷ q ∷ []
behind log mid after p q e f = f ∙ ap (λ l. l ++ q ∷ []) e ∙ append_assoc log (p ∷ []) (q ∷ [])

-- this answer is a status to which a log leads, or there was no memory
abbrev EndsAt : (ℕ → Log → Type 0) → Log → Outcome → Type 0
EndsAt LeadsTo mid o = (o ≡ NoMemory) ⊎ ((status : ℕ) × ((o ≡ Ended status) × LeadsTo status mid))

with_log : (j : Job) (path : List ℕ) (LeadsTo : ℕ → Log → Type 0) (before after pairs : Log) (bytes : List ℕ)
    (o : Outcome) → IsLogOf bytes (log_of j pairs)
    → after ≡ (before ++ pairs) ++ (Write path bytes, reply.Done) ∷ [] → EndsAt LeadsTo (before ++ pairs) o
    → IsLoggedEnd j path LeadsTo before after o
with_log j path LeadsTo before after pairs bytes o is g (inl none) = inl none
with_log j path LeadsTo before after pairs bytes o is g (inr e) =
    inr (e.0, (e.1.0, (record { pairs = pairs; bytes = bytes; is = is; grown = g }, e.1.1)))

module _ (either : IsRefusedOrRun) (law : EndsHaveCauses) (c : Call) (path : List ℕ) (before after : Log)
    (clean : faults after ≡ faults before) where
  abbrev ScriptLeads : ℕ → Log → Type 0
  ScriptLeads status mid = Leads (JobSteps c) (Reading []) before (AtEnd (ran (Done status))) mid

  abbrev pub ScriptEnds : Outcome → Type 0
  ScriptEnds o = IsLoggedEnd (job_of_run c.cpus c.ticks c.path c.words) path ScriptLeads before after o

  -- a script that was accepted is run to its end
  pub script_logged : WasAccepted c before after → (IsSpent c before after → ⊥) → (o : Outcome)
      → LogsJob (job_of_run c.cpus c.ticks c.path c.words) path before after o → ScriptEnds o
  script_logged was left o h = by o (logs (job_of_run c.cpus c.ticks c.path c.words) path before after law o h)
    where
      at_end : (mid : Log) (w : Ask × Reply) (e : JobEnd) → Last c (Reading []) before mid e
          → Leads (JobSteps c) (Reading []) before (AtEnd e) mid → after ≡ mid ++ w ∷ []
          → is_logged (outcome_of e) ≡ true → EndsAt ScriptLeads mid (outcome_of e)
      at_end mid w (ran (Done status)) last led g kept = inr (status, (refl, led))
      at_end mid w (ran Spent) last led g kept = absurd (unkept Ticks kept refl)
      at_end mid w (ran DeviceFault) last led g kept = absurd (unkept_device Device kept refl)
      at_end mid w refused (Last.of_refusal f log m e) led g kept =
          absurd (either (job_of c) (set_by_words c) size_with before log was.log _ was.rest f was.program was.opening m
          was.opens (sym (behind log mid after (Tells (message_of f), reply.Done) w e g) ∙ was.grown))

      came : (mid : Log) (w : Ask × Reply) (o : Outcome) → RunsScript c before mid o → after ≡ mid ++ w ∷ []
          → is_logged o ≡ true → EndsAt ScriptLeads mid o
      came mid w _ (RunsScript.came e l) g kept = at_end mid w e (last_of c before mid e l) l g kept
      came mid w _ (RunsScript.no_memory halts) g kept = absurd (unkept_none NoMemory kept refl)

      spent : EndsAt ScriptLeads after Ticks → ⊥
      spent (inl none) = cc none
      spent (inr e) = let no = e.1.0 in cc no

      by : (o : Outcome) → Logs (job_of_run c.cpus c.ticks c.path c.words) path before after o → ScriptEnds o
      by _ Logs.no_memory = inl refl
      by _ (Logs.device f) = absurd (has_risen before after f clean)
      by _ (Logs.spent does) = absurd (spent (script_completes c before after either was clean left Ticks does))
      by o (Logs.written pairs bytes _ does kept is g) =
          with_log (job_of_run c.cpus c.ticks c.path c.words) path ScriptLeads before after pairs bytes o is g
          (came (before ++ pairs) (Write path bytes, reply.Done) o does g kept)

  -- one that was refused is told as that
  pub script_log_refused : WasRefused c before after → (o : Outcome)
      → LogsJob (job_of_run c.cpus c.ticks c.path c.words) path before after o → (o ≡ NoMemory) ⊎ (o ≡ Refused)
  script_log_refused was o h = by o (logs (job_of_run c.cpus c.ticks c.path c.words) path before after law o h)
    where
      at_end : (mid : Log) (w : Ask × Reply) (e : JobEnd) → Last c (Reading []) before mid e → after ≡ mid ++ w ∷ []
          → is_logged (outcome_of e) ≡ true → (outcome_of e ≡ NoMemory) ⊎ (outcome_of e ≡ Refused)
      at_end mid w (ran (Done status)) (Last.of_run program at _ m move) g kept =
          absurd (either (job_of c) (set_by_words c) size_with before was.log mid was.rest (w ∷ []) was.fault program at
          was.refuses m (sym was.grown ∙ g))
      at_end mid w (ran Spent) last g kept = absurd (unkept Ticks kept refl)
      at_end mid w (ran DeviceFault) last g kept = absurd (unkept_device Device kept refl)
      at_end mid w refused last g kept = inr refl

      came : (mid : Log) (w : Ask × Reply) (o : Outcome) → RunsScript c before mid o → after ≡ mid ++ w ∷ []
          → is_logged o ≡ true → (o ≡ NoMemory) ⊎ (o ≡ Refused)
      came mid w _ (RunsScript.came e l) g kept = at_end mid w e (last_of c before mid e l) g kept
      came mid w _ (RunsScript.no_memory halts) g kept = inl refl

      by : (o : Outcome) → Logs (job_of_run c.cpus c.ticks c.path c.words) path before after o
          → (o ≡ NoMemory) ⊎ (o ≡ Refused)
      by _ Logs.no_memory = inl refl
      by _ (Logs.device f) = absurd (has_risen before after f clean)
      by _ (Logs.spent does) = script_refused c before after either was clean Ticks does
      by o (Logs.written pairs bytes _ does kept is g) =
          came (before ++ pairs) (Write path bytes, reply.Done) o does g kept

module _ (state : IsOneState) (law : EndsHaveCauses) (cpus ticks : ℕ) (file path : List ℕ) (before after : Log)
    (clean : faults after ≡ faults before) where
  -- what more was added behind a call
  more : (log mid rest w : Log) → mid ≡ log ++ rest → after ≡ mid ++ w → after ≡ log ++ (rest ++ w)
  more log mid rest w e f = f ∙ ap (λ l. l ++ w) e ∙ append_assoc log rest w

  -- the file holds a state, with which the job goes on
  opened_at : (s : Parts) (log rest : Log) → HoldsState file s before log → after ≡ log ++ rest → (mid w : Log)
      → after ≡ mid ++ w → (o : Outcome) → ResumesFile cpus ticks file before mid o
      → (o ≡ NoMemory) ⊎ GoesOnTo cpus ticks s log mid o
  opened_at s log rest holds g mid w f o (OpensFile.held s' log' _ holds' goes) =
      let v = goes_grows cpus ticks s' log' mid o goes in
      let same = one_state before after state file file s' s log' log
      (record { holds = holds'; rest = v.0 ++ w; grown = more log' mid v.0 w v.1 f })
      (record { holds = holds; rest = rest; grown = g }) in
      inr (subst (λ x. GoesOnTo cpus ticks x log mid o) same.0
      (subst (λ l. GoesOnTo cpus ticks s' l mid o) same.1 goes))
  opened_at s log rest holds g mid w f o (OpensFile.bad_file a log' _ none told) =
      let v = says_grows (message_of a) BadFile log' mid o told in
      absurd (none_or_state before after file file a s log' log (v.0 ++ w) none (more log' mid v.0 w v.1 f)
      (record { holds = holds; rest = rest; grown = g }))
  opened_at s log rest holds g mid w f o (OpensFile.unread log' _ a told) =
      let v = device_grows log' mid o told in
      let e : reply.Fault ≡ reply.Bytes holds.bytes =
      same_reply before after file file reply.Fault (reply.Bytes holds.bytes) log' log
      (record { read = a.grown; rest = v.0 ++ w; grown = more log' mid v.0 w v.1 f })
      (record { read = holds.read.grown; rest = rest; grown = g }) in
      absurd (cc e)
  opened_at s log rest holds g mid w f _ (OpensFile.unloaded none) = inl refl

  -- a state of a file goes on to its end
  abbrev StateLeads : Parts → Log → ℕ → Log → Type 0
  StateLeads s log status mid = GoesOn cpus ticks s log mid (Ok status)

  abbrev pub FileEnds : Parts → Log → Outcome → Type 0
  FileEnds s log o = IsLoggedEnd (job_of_resume cpus ticks file) path (StateLeads s log) before after o

  pub file_logged : (s : Parts) (log rest : Log) → HoldsState file s before log → after ≡ log ++ rest
      → (GoesOn cpus ticks s log after (Err run_stop.Ticks) → ⊥) → (o : Outcome)
      → LogsJob (job_of_resume cpus ticks file) path before after o → FileEnds s log o
  file_logged s log rest holds g left o h = by o (logs (job_of_resume cpus ticks file) path before after law o h)
    where
      kept_end : (mid : Log) (r : Result ℕ RunStop) → GoesOn cpus ticks s log mid r → is_logged (run_outcome r) ≡ true
          → EndsAt (StateLeads s log) mid (run_outcome r)
      kept_end mid (Ok status) goes kept = inr (status, (refl, goes))
      kept_end mid (Err run_stop.Ticks) goes kept = absurd (unkept Ticks kept refl)
      kept_end mid (Err run_stop.Device) goes kept = absurd (unkept_device Device kept refl)
      kept_end mid (Err run_stop.NoMemory) goes kept = inl refl

      written : (mid : Log) (o : Outcome) → is_logged o ≡ true → (o ≡ NoMemory) ⊎ GoesOnTo cpus ticks s log mid o
          → EndsAt (StateLeads s log) mid o
      written mid o kept (inl none) = inl none
      written mid o kept (inr goes) = subst (λ x. EndsAt (StateLeads s log) mid x) (sym goes.1.1)
          (kept_end mid goes.0 goes.1.0 (subst (λ x. is_logged x ≡ true) goes.1.1 kept))

      spent_end : (r : Result ℕ RunStop) → GoesOn cpus ticks s log after r → Ticks ≡ run_outcome r → ⊥
      spent_end (Ok status) goes e = cc e
      spent_end (Err run_stop.Ticks) goes e = left goes
      spent_end (Err run_stop.Device) goes e = cc e
      spent_end (Err run_stop.NoMemory) goes e = cc e

      spent : (Ticks ≡ NoMemory) ⊎ GoesOnTo cpus ticks s log after Ticks → ⊥
      spent (inl none) = cc none
      spent (inr goes) = spent_end goes.0 goes.1.0 goes.1.1

      by : (o : Outcome) → Logs (job_of_resume cpus ticks file) path before after o → FileEnds s log o
      by _ Logs.no_memory = inl refl
      by _ (Logs.device f) = absurd (has_risen before after f clean)
      by _ (Logs.spent does) = absurd (spent
          (opened_at s log rest holds g after [] (sym (append-nil after)) Ticks does))
      by o (Logs.written pairs bytes _ does kept is f) =
          with_log (job_of_resume cpus ticks file) path (StateLeads s log) before after pairs bytes o is f
          (written (before ++ pairs) o kept (opened_at s log rest holds g (before ++ pairs)
          ((Write path bytes, reply.Done) ∷ []) f o does))

  -- the file holds none
  abbrev pub IsRefused : Outcome → Type 0
  IsRefused o = (o ≡ NoMemory) ⊎ ((o ≡ BadFile) ⊎ (o ≡ Device))

  device_told : (log mid : Log) (o : Outcome) → TellsDevice log mid o → IsRefused o
  device_told log mid _ (TellsDevice.told_so r told) = inr (inr refl)
  device_told log mid _ (TellsDevice.untold room) = inl refl

  bad_told : (text : List ℕ) (log mid : Log) (o : Outcome) → Says text BadFile log mid o → IsRefused o
  bad_told text log mid _ (Says.said a) = inr (inl refl)
  bad_told text log mid o (Says.faulted log' _ a told) = device_told log' mid o told
  bad_told text log mid _ (Says.no_memory room) = inl refl

  refused_at : (f : AFault) (log rest : Log) → HoldsNone file before log f → after ≡ log ++ rest → (mid w : Log)
      → after ≡ mid ++ w → (o : Outcome) → ResumesFile cpus ticks file before mid o → IsRefused o
  refused_at f log rest none g mid w e o (OpensFile.held s log' _ holds goes) =
      let v = goes_grows cpus ticks s log' mid o goes in
      absurd (none_or_state before after file file f s log log' rest none g
      (record { holds = holds; rest = v.0 ++ w; grown = more log' mid v.0 w v.1 e }))
  refused_at f log rest none g mid w e o (OpensFile.bad_file f' log' _ none' told) =
      bad_told (message_of f') log' mid o told
  refused_at f log rest none g mid w e o (OpensFile.unread log' _ a told) = device_told log' mid o told
  refused_at f log rest none g mid w e _ (OpensFile.unloaded lacked) = inl refl

  -- a file without one is told as that
  pub file_log_refused : (f : AFault) (log rest : Log) → HoldsNone file before log f → after ≡ log ++ rest
      → (o : Outcome) → LogsJob (job_of_resume cpus ticks file) path before after o → (o ≡ NoMemory) ⊎ (o ≡ BadFile)
  file_log_refused a log rest none g o h = by o (logs (job_of_resume cpus ticks file) path before after law o h)
    where
      kept_so : (o : Outcome) → is_logged o ≡ true → IsRefused o → (o ≡ NoMemory) ⊎ (o ≡ BadFile)
      kept_so o kept (inl lacked) = inl lacked
      kept_so o kept (inr (inl bad)) = inr bad
      kept_so o kept (inr (inr device)) = absurd (unkept_device o kept device)

      spent : IsRefused Ticks → (Ticks ≡ NoMemory) ⊎ (Ticks ≡ BadFile)
      spent (inl lacked) = inl lacked
      spent (inr (inl bad)) = inr bad
      spent (inr (inr device)) = absurd (cc device)

      by : (o : Outcome) → Logs (job_of_resume cpus ticks file) path before after o → (o ≡ NoMemory) ⊎ (o ≡ BadFile)
      by _ Logs.no_memory = inl refl
      by _ (Logs.device f) = absurd (has_risen before after f clean)
      by _ (Logs.spent does) = spent (refused_at a log rest none g after [] (sym (append-nil after)) Ticks does)
      by o (Logs.written pairs bytes _ does kept is f) =
          kept_so o kept (refused_at a log rest none g (before ++ pairs) ((Write path bytes, reply.Done) ∷ []) f o does)
