-- What was written of a job is replayed as that job.
use Rattle.std.proofs.Common.{◌≡◌, ◌≢◌, ◌∙◌, ◌+◌, inl, inr, ℕ, List, [], ◌∷◌, ◌++◌, true, append_assoc, append-nil, ap}
use Rattle.std.proofs.Common.{sym, subst, arith, drop}
use Rattle.std.proofs.lemmas.List.{append_cancel_left}
use Rattle.bds_host.specs.declared.asks.Ask.{Ask}
use Rattle.bds_host.specs.declared.asks.Ask.TheVariants.{Read, Err as Tells}
use Rattle.bds_host.specs.declared.asks.Reply.{Reply}
use Rattle.bds_host.specs.declared.asks.Reply.TheVariants as reply
use Rattle.bds_host.specs.declared.asks.Reply.TheVariants.{Bytes}
use Rattle.bds_host.specs.declared.faults.Fault.{Fault}
use Rattle.bds_host.specs.declared.faults.Fault.TheVariants as fault
use Rattle.bds_host.specs.Host.{Log, faults}
use Rattle.bds_host.specs.Message.{message_of}
use Rattle.bds_host.proofs.Growing.{faults-append}
use Rattle.bds_engine_parts.proofs.WholeRuns.{first_or}
use Rattle.bds_front.specs.Unique.{HasOneStep}
use Rattle.bds_replay.specs.Loading.{IsLogOf}
use Rattle.bds_replay.specs.declared.log.Job.{Job}
use Rattle.bds_replay.specs.declared.log.Log.{Log as ReplyLog}
use Rattle.bds_app_run.specs.Telling.{TellsDevice}
use Rattle.bds_app_run.specs.declared.outcome.Outcome.{Outcome}
use Rattle.bds_app_run.specs.declared.outcome.Outcome.TheVariants.{BadFile, Device, NoMemory, Ticks}
use Rattle.bds_app_run.specs.Jobs.{DoesJob}
use Rattle.bds_app_run.proofs.Telling.{device_grows, says_grows}
use Rattle.bds_app_log.specs.Logged.{is_logged, log_of}
use Rattle.bds_app_log.specs.Replays.{HoldsLog, HoldsNoLog, IsDoneAgain, IsUnlike, PrintsAgain, ReplaysJob, ReplaysLog}
use Rattle.bds_app_log.specs.Replays.{all_done, printed_in}
use Rattle.bds_app_log.specs.Same.{IsReplayedTheSame, IsSame}
use Rattle.bds_app_log.proofs.Alike.{prints_alike}
use Rattle.bds_app_log.proofs.Clean.{EndsHaveCauses}
use Rattle.bds_app_log.proofs.Jobs.{IsAgain, IsOneState, job_again}
use Rattle.bds_app_log.proofs.Logs.{log_is_one}

-- a fault among what was added shows
pub has_fault : (first : Log) (ask : Ask) (rest : Log) → faults (first ++ (ask, reply.Fault) ∷ rest) ≢ 0
has_fault first ask rest h =
    let split : faults (first ++ (ask, reply.Fault) ∷ rest) ≡ faults first + faults ((ask, reply.Fault) ∷ rest) =
    faults-append first ((ask, reply.Fault) ∷ rest) in
    let one : faults ((ask, reply.Fault) ∷ rest) ≡ 1 + faults rest = faults-append ((ask, reply.Fault) ∷ []) rest in
    omega (arith, split, one, h)

-- the read of a file, and what was added behind it
module _ (path : List ℕ) (before after : Log) (bytes : List ℕ) (rest : Log)
    (grown : after ≡ before ++ (Read path, Bytes bytes) ∷ rest) where
  pairs_same : (r : Reply) (log more : Log) → log ≡ before ++ (Read path, r) ∷ [] → after ≡ log ++ more
      → ◌≡◌ {A = Log} ((Read path, r) ∷ more) ((Read path, Bytes bytes) ∷ rest)
  pairs_same r log more read e =
      append_cancel_left before ((Read path, r) ∷ more) ((Read path, Bytes bytes) ∷ rest)
      (sym (e ∙ ap (λ l. l ++ more) read ∙ append_assoc before ((Read path, r) ∷ []) more) ∙ grown)

  pub reply_same : (r : Reply) (log more : Log) → log ≡ before ++ (Read path, r) ∷ [] → after ≡ log ++ more
      → r ≡ Bytes bytes
  reply_same r log more read e = ap (λ l. (first_or {X = Ask × Reply} (Read path, r) l).1)
      (pairs_same r log more read e)

  rest_same : (r : Reply) (log more : Log) → log ≡ before ++ (Read path, r) ∷ [] → after ≡ log ++ more → more ≡ rest
  rest_same r log more read e = ap (λ l. drop 1 l) (pairs_same r log more read e)

  pub bytes_same : (bs : List ℕ) (log more : Log) → log ≡ before ++ (Read path, Bytes bs) ∷ [] → after ≡ log ++ more
      → bs ≡ bytes
  bytes_same bs log more read e = let same : Bytes bs ≡ Bytes bytes = reply_same (Bytes bs) log more read e in cc same

  module _ (clean : faults rest ≡ 0) (j : Job) (start pairs : Log) (came : Outcome)
      (does : DoesJob j start (start ++ pairs) came) (kept : is_logged came ≡ true)
      (is : IsLogOf bytes (log_of j pairs)) where
    abbrev S : Outcome → Type 0
    S o = IsSame came pairs rest o

    printed_same : (log inner : Log) (left : List Reply) (o' o : Outcome)
        → log ≡ before ++ (Read path, Bytes bytes) ∷ [] → IsAgain pairs inner left came o'
        → PrintsAgain (printed_in inner) o' log after o → S o
    printed_same log inner left o' _ read again (PrintsAgain.printed e) =
        subst (λ o. S o) (sym again.answer)
        (IsSame.same (printed_in inner) (sym (rest_same (Bytes bytes) log (all_done (printed_in inner)) read e))
        (prints_alike inner pairs again.alike))
    printed_same log inner left o' _ read again
        (PrintsAgain.faulted first more ask mid _ split a (TellsDevice.told_so r told)) =
        let tail : Log = (Tells (message_of fault.Device), r) ∷ [] in
        let e : after ≡ log ++ (all_done first ++ (ask, reply.Fault) ∷ tail) =
        told.grown ∙ ap (λ l. l ++ tail) a.grown ∙ append_assoc (log ++ all_done first) ((ask, reply.Fault) ∷ []) tail
        ∙ append_assoc log (all_done first) ((ask, reply.Fault) ∷ tail) in
        absurd (has_fault (all_done first) ask tail
        (ap (λ l. faults l) (rest_same (Bytes bytes) log (all_done first ++ (ask, reply.Fault) ∷ tail) read e)
        ∙ clean))
    printed_same log inner left o' _ read again
        (PrintsAgain.faulted first more ask mid _ split a (TellsDevice.untold room)) = IsSame.no_memory
    printed_same log inner left o' _ read again (PrintsAgain.no_memory first more ask split room) = IsSame.no_memory

    not_unlike : (inner : Log) (left : List Reply) (o' : Outcome) → IsAgain pairs inner left came o' → IsUnlike o' left
        → ⊥
    not_unlike inner left o' again (inl (inl device)) = let no : is_logged Device ≡ true =
        subst (λ x. is_logged x ≡ true) (sym again.answer ∙ device) kept in cc no
    not_unlike inner left o' again (inl (inr ticks)) = let no : is_logged Ticks ≡ true =
        subst (λ x. is_logged x ≡ true) (sym again.answer ∙ ticks) kept in cc no
    not_unlike inner left o' again (inr h) = h.1 again.used

    some_logged : (o : Outcome) → is_logged o ≡ true → o ≢ NoMemory
    some_logged o h e = let no : is_logged NoMemory ≡ true = subst (λ x. is_logged x ≡ true) e h in cc no

    some_unlike : (o : Outcome) (left : List Reply) → IsUnlike o left → o ≢ NoMemory
    some_unlike o left (inl (inl device)) e = let no = sym device ∙ e in cc no
    some_unlike o left (inl (inr ticks)) e = let no = sym ticks ∙ e in cc no
    some_unlike o left (inr h) e = some_logged o h.0 e

    module _ (one : HasOneStep) (law : EndsHaveCauses) (state : IsOneState) where
      again_of : (l : ReplyLog) (inner : Log) (left : List Reply) (o' : Outcome) → l ≡ log_of j pairs
          → IsDoneAgain l inner left o' → o' ≢ NoMemory → IsAgain pairs inner left came o'
      again_of l inner left o' same done some =
          let d : IsDoneAgain (log_of j pairs) inner left o' = subst (λ x. IsDoneAgain x inner left o') same done in
          job_again one law state j start pairs inner left came o' does kept d.does some d.replayed

      held_same : (l : ReplyLog) (log : Log) (o : Outcome) → (h : HoldsLog path l before log) → h.bytes ≡ bytes
          → ReplaysJob path l log after o → S o
      held_same l log o h bs (ReplaysJob.alike inner o' _ done logged prints) =
          let same : l ≡ log_of j pairs = log_is_one bytes l (log_of j pairs) (subst (λ b. IsLogOf b l) bs h.is) is in
          printed_same log inner [] o' o (h.read.grown ∙ ap (λ b. before ++ (Read path, Bytes b) ∷ []) bs)
          (again_of l inner [] o' same done (some_logged o' logged)) prints
      held_same l log o h bs (ReplaysJob.unlike inner left o' _ done unlike told) =
          let same : l ≡ log_of j pairs = log_is_one bytes l (log_of j pairs) (subst (λ b. IsLogOf b l) bs h.is) is in
          absurd (not_unlike inner left o' (again_of l inner left o' same done (some_unlike o' left unlike)) unlike)
      held_same l log _ h bs (ReplaysJob.no_memory e) = IsSame.no_memory

      none_same : (f : Fault) (log : Log) (o : Outcome) → HoldsNoLog path before log f → (more : Log)
          → after ≡ log ++ more → S o
      none_same _ log o (HoldsNoLog.missing a) more e =
          absurd (let no : reply.Missing ≡ Bytes bytes = reply_same reply.Missing log more a.grown e in cc no)
      none_same _ log o (HoldsNoLog.not_loadable bs a none) more e =
          absurd (none (log_of j pairs) (subst (λ b. IsLogOf b (log_of j pairs))
          (sym (bytes_same bs log more a.grown e)) is))

      -- what was added behind the read of a log
      prints_grows : (asks : List Ask) (o' : Outcome) (log : Log) (o : Outcome) → PrintsAgain asks o' log after o
          → (more : Log) × (after ≡ log ++ more)
      prints_grows asks o' log _ (PrintsAgain.printed e) = (all_done asks, e)
      prints_grows asks o' log o (PrintsAgain.faulted first more ask mid _ split a told) =
          let w = device_grows mid after o told in (
            all_done first ++ (ask, reply.Fault) ∷ w.0,
            w.1 ∙ ap (λ l. l ++ w.0) a.grown
                ∙ append_assoc (log ++ all_done first) ((ask, reply.Fault) ∷ []) w.0
                ∙ append_assoc log (all_done first) ((ask, reply.Fault) ∷ w.0),
          )
      prints_grows asks o' log _ (PrintsAgain.no_memory first more ask split (inl same)) = (all_done first, same)
      prints_grows asks o' log _ (PrintsAgain.no_memory first more ask split (inr e)) =
          (all_done first ++ (ask, reply.NoRoom) ∷ [], e ∙ append_assoc log (all_done first) ((ask, reply.NoRoom) ∷ []))

      job_grows : (l : ReplyLog) (log : Log) (o : Outcome) → ReplaysJob path l log after o
          → (more : Log) × (after ≡ log ++ more)
      job_grows l log o (ReplaysJob.alike inner o' _ done logged prints) =
          prints_grows (printed_in inner) o' log o prints
      job_grows l log o (ReplaysJob.unlike inner left o' _ done unlike told) = let w =
          says_grows _ BadFile log after o told in (w.0, w.1)
      job_grows l log _ (ReplaysJob.no_memory e) = ([], e ∙ sym (append-nil log))

      log_same : (o : Outcome) → ReplaysLog path before after o → S o
      log_same o (ReplaysLog.held l log _ h job) =
          let w = job_grows l log o job in
          held_same l log o h (bytes_same h.bytes log w.0 h.read.grown w.1) job
      log_same o (ReplaysLog.bad_file f log _ none told) = let w =
          says_grows _ BadFile log after o told in none_same f log o none w.0 w.1
      log_same o (ReplaysLog.unread log _ a told) =
          let w = device_grows log after o told in
          absurd (let no : reply.Fault ≡ Bytes bytes = reply_same reply.Fault log w.0 a.grown w.1 in cc no)
      log_same _ (ReplaysLog.no_room room) = IsSame.no_memory
      log_same _ (ReplaysLog.unloaded bs a) = IsSame.no_memory

pub replayed_same : HasOneStep → EndsHaveCauses → IsOneState → (path : List ℕ) (before after : Log) (answer : Outcome)
    → ReplaysLog path before after answer → IsReplayedTheSame path before after answer
replayed_same one law state path before after answer h j start pairs came does kept bytes is rest grown clean =
    log_same path before after bytes rest grown clean j start pairs came does kept is one law state answer h
