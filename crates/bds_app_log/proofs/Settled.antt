-- Whether a reply was a fault, of a job whose log is written and of a replay.
use Rattle.std.proofs.Common.{◌≡◌, ◌≢◌, ◌∙◌, ◌+◌, inl, inr, ℕ, List, [], ◌∷◌, ◌++◌, true, append_assoc, ap, refl, subst}
use Rattle.std.proofs.Common.{arith}
use Rattle.bds_host.specs.declared.asks.Ask.{Ask}
use Rattle.bds_host.specs.declared.asks.Ask.TheVariants.{Read, Write}
use Rattle.bds_host.specs.declared.asks.Reply.TheVariants as reply
use Rattle.bds_host.specs.declared.faults.Fault.{Fault}
use Rattle.bds_host.specs.declared.faults.Fault.TheVariants as fault
use Rattle.bds_host.specs.Host.{Log, faults}
use Rattle.bds_host.specs.Message.{message_of}
use Rattle.bds_host.proofs.Growing.{faults-append}
use Rattle.bds_engine_parts.proofs.Told.{IsClean, grown_by}
use Rattle.bds_replay.specs.declared.log.Job.{Job}
use Rattle.bds_replay.specs.declared.log.Log.{Log as ReplyLog}
use Rattle.bds_app_run.specs.declared.outcome.Outcome.{Outcome}
use Rattle.bds_app_run.specs.declared.outcome.Outcome.TheVariants.{Device}
use Rattle.bds_app_run.specs.Jobs.{DoesJob}
use Rattle.bds_app_run.proofs.Telling.{clean_faults, device_comes, done_clean}
use Rattle.bds_app_run.proofs.Trails.{nothing_yet}
use Rattle.bds_app_log.specs.Logged.{LogsJob, Writes, is_logged}
use Rattle.bds_app_log.specs.Replays.{HoldsLog, HoldsNoLog, PrintsAgain, ReplaysJob, ReplaysLog, all_done, printed_in}
use Rattle.bds_app_log.proofs.Clean.{EndsHaveCauses, Settles, device_settles, job_quiet, job_settles, says_settles}

pub no_device : (o : Outcome) → is_logged o ≡ true → o ≢ Device
no_device o kept e = let no : is_logged Device ≡ true = subst (λ x. is_logged x ≡ true) e kept in cc no

-- a job whose log is written
module _ (law : EndsHaveCauses) (j : Job) (path : List ℕ) (before : Log) where
  pairs_clean : (pairs : Log) (came : Outcome) → DoesJob j before (before ++ pairs) came → is_logged came ≡ true
      → IsClean before (before ++ pairs)
  pairs_clean pairs came does kept = record
      { pairs = pairs; grown = refl; clean = job_quiet law j before pairs came does kept }

  writes_settles : (pairs : Log) (bytes : List ℕ) (came : Outcome) (after : Log) (o : Outcome)
      → IsClean before (before ++ pairs) → is_logged came ≡ true → Writes path bytes came (before ++ pairs) after o
      → Settles before after o
  writes_settles pairs bytes came after _ clean kept (Writes.written a) =
      inr (inl (
        no_device came kept,
        done_clean (before ++ pairs) after (Write path bytes) a.grown
            ∙ clean_faults before (before ++ pairs) clean,
      ))
  writes_settles pairs bytes came after o clean kept (Writes.faulted log _ a t) =
      device_settles before after o (device_comes before (before ++ pairs) clean (Write path bytes) log after o a.grown
      t)
  writes_settles pairs bytes came after _ clean kept (Writes.no_memory room) = inl refl

  pub logs_settles : (after : Log) (o : Outcome) → LogsJob j path before after o → Settles before after o
  logs_settles after o (LogsJob.logged pairs bytes came _ does kept is writes) =
      writes_settles pairs bytes came after o (pairs_clean pairs came does kept) kept writes
  logs_settles after _ (LogsJob.unspelled came does kept) = inl refl
  logs_settles after o (LogsJob.unlogged _ does not) = job_settles law j before after o does
  logs_settles after _ (LogsJob.lost pairs ask does unkept) = inl refl

-- A replay

done_faults : (asks : List Ask) → faults (all_done asks) ≡ 0
done_faults [] = refl
done_faults (a ∷ asks) =
    let split : faults ((a, reply.Done) ∷ all_done asks) ≡ faults ((a, reply.Done) ∷ []) + faults (all_done asks) =
    faults-append ((a, reply.Done) ∷ []) (all_done asks) in
    let one : faults ((a, reply.Done) ∷ []) ≡ 0 = refl in
    let rest = done_faults asks in
    omega (arith, split, one, rest)

module _ (path : List ℕ) (before : Log) where
  pub printed_clean : (asks : List Ask) (log after : Log) → IsClean before log → after ≡ log ++ all_done asks
      → IsClean before after
  printed_clean asks log after clean e =
      let split : faults (clean.pairs ++ all_done asks) ≡ faults clean.pairs + faults (all_done asks) =
      faults-append clean.pairs (all_done asks) in
      let first : faults clean.pairs ≡ 0 = clean.clean in
      let rest = done_faults asks in
      record {
        pairs = clean.pairs ++ all_done asks;
        grown = e ∙ ap (λ l. l ++ all_done asks) clean.grown ∙ append_assoc before clean.pairs (all_done asks);
        clean = omega (arith, split, first, rest);
      }

  prints_settles : (asks : List Ask) (came : Outcome) (log after : Log) (o : Outcome) → IsClean before log
      → is_logged came ≡ true → PrintsAgain asks came log after o → Settles before after o
  prints_settles asks came log after _ clean kept (PrintsAgain.printed e) =
      inr (inl (no_device came kept, clean_faults before after (printed_clean asks log after clean e)))
  prints_settles asks came log after o clean kept (PrintsAgain.faulted first rest ask mid _ split a t) =
      device_settles before after o (device_comes before (log ++ all_done first)
      (printed_clean first log (log ++ all_done first) clean refl) ask mid after o a.grown t)
  prints_settles asks came log after _ clean kept (PrintsAgain.no_memory first rest ask split room) = inl refl

  pub log_clean : (l : ReplyLog) (log : Log) → HoldsLog path l before log → IsClean before log
  log_clean l log h = grown_by before before log (Read path) (reply.Bytes h.bytes) (nothing_yet before) h.read.grown
      refl

  pub none_clean : (f : Fault) (log : Log) → HoldsNoLog path before log f → IsClean before log
  none_clean _ log (HoldsNoLog.missing a) =
      grown_by before before log (Read path) reply.Missing (nothing_yet before) a.grown refl
  none_clean _ log (HoldsNoLog.not_loadable bytes a none) =
      grown_by before before log (Read path) (reply.Bytes bytes) (nothing_yet before) a.grown refl

  job_replays : (l : ReplyLog) (log after : Log) (o : Outcome) → IsClean before log → ReplaysJob path l log after o
      → Settles before after o
  job_replays l log after o clean (ReplaysJob.alike inner came _ done kept prints) =
      prints_settles (printed_in inner) came log after o clean kept prints
  job_replays l log after o clean (ReplaysJob.unlike inner left came _ done unlike told) =
      says_settles (message_of (fault.NotLoadable path)) before log after o clean told
  job_replays l log after _ clean (ReplaysJob.no_memory e) = inl refl

  pub replays_settles : (after : Log) (o : Outcome) → ReplaysLog path before after o → Settles before after o
  replays_settles after o (ReplaysLog.held l log _ h job) = job_replays l log after o (log_clean l log h) job
  replays_settles after o (ReplaysLog.bad_file f log _ none told) =
      says_settles (message_of f) before log after o (none_clean f log none) told
  replays_settles after o (ReplaysLog.unread log _ a told) =
      device_settles before after o (device_comes before before (nothing_yet before) (Read path) log after o a.grown
      told)
  replays_settles after _ (ReplaysLog.no_room room) = inl refl
  replays_settles after _ (ReplaysLog.unloaded bytes a) = inl refl
