-- What becomes of a job whose log is written.
use Rattle.std.proofs.Common.{◌≡◌, ◌≢◌, ◌++◌, ◌∙◌, ◌⊎◌, ◌<◌, true, inl, inr, ℕ, List, [], ◌∷◌, refl, sym, subst}
use Rattle.bds_host.specs.declared.asks.Ask.TheVariants.{Write}
use Rattle.bds_host.specs.declared.asks.Reply.TheVariants as reply
use Rattle.bds_host.specs.Host.{Log, faults}
use Rattle.bds_engine_parts.specs.Run.{FaultIsTold}
use Rattle.bds_replay.specs.Loading.{IsLogOf}
use Rattle.bds_replay.specs.declared.log.Job.{Job}
use Rattle.bds_app_run.specs.declared.outcome.Outcome.{Outcome}
use Rattle.bds_app_run.specs.declared.outcome.Outcome.TheVariants.{Ended, Refused, BadFile, Device, Words, NoMemory}
use Rattle.bds_app_run.specs.declared.outcome.Outcome.TheVariants.{Ticks}
use Rattle.bds_app_run.specs.Telling.{TellsDevice}
use Rattle.bds_app_run.specs.Jobs.{DoesJob}
use Rattle.bds_app_run.proofs.NeverWords.{never_words}
use Rattle.bds_app_log.specs.Logged.{LogsJob, Writes, is_logged, log_of}
use Rattle.bds_app_log.proofs.Clean.{Settles, job_settles}
use Rattle.bds_app_log.proofs.Settled.{logs_settles}
use Rattle.bds_app_run.proofs.FileLaws.{EndsHaveCauses}
use Rattle.bds_app_run.proofs.Telling.{not_risen}

-- an answer of which no log is kept
pub unkept : (o : Outcome) → is_logged o ≡ true → o ≡ Ticks → ⊥
unkept o kept e = let no : is_logged Ticks ≡ true = subst (λ x. is_logged x ≡ true) e kept in cc no

pub unkept_device : (o : Outcome) → is_logged o ≡ true → o ≡ Device → ⊥
unkept_device o kept e = let no : is_logged Device ≡ true = subst (λ x. is_logged x ≡ true) e kept in cc no

pub unkept_none : (o : Outcome) → is_logged o ≡ true → o ≡ NoMemory → ⊥
unkept_none o kept e = let no : is_logged NoMemory ≡ true = subst (λ x. is_logged x ≡ true) e kept in cc no

-- a fault has no other answer than `Device`, but for want of memory
pub settles_faults : (before after : Log) (o : Outcome) → Settles before after o → faults before < faults after
    → (o ≡ Device) ⊎ (o ≡ NoMemory)
settles_faults before after o (inl none) rose = inr none
settles_faults before after o (inr (inl h)) rose = absurd (not_risen before after h.1 rose)
settles_faults before after o (inr (inr h)) rose = inl h.0

pub told_if_device : (before after : Log) (o : Outcome) → Settles before after o → o ≡ Device → FaultIsTold before after
told_if_device before after o (inl none) is = let no : Device ≡ NoMemory = sym is ∙ none in cc no
told_if_device before after o (inr (inl h)) is = absurd (h.0 is)
told_if_device before after o (inr (inr h)) is = h.1

module _ (j : Job) (path : List ℕ) (before after : Log) where
  -- how it came out: there was no memory; a fault was told; the ticks are spent; or the log was written
  pub data Logs : Outcome → Type 0 where
    no_memory : Logs NoMemory
    device : FaultIsTold before after → Logs Device
    spent : DoesJob j before after Ticks → Logs Ticks
    written : (pairs : Log) (bytes : List ℕ) (came : Outcome) → DoesJob j before (before ++ pairs) came
        → is_logged came ≡ true → IsLogOf bytes (log_of j pairs)
        → after ≡ (before ++ pairs) ++ (Write path bytes, reply.Done) ∷ [] → Logs came

  unlogged : EndsHaveCauses → (o : Outcome) → DoesJob j before after o → is_logged o ≢ true → Logs o
  unlogged law NoMemory does not = Logs.no_memory
  unlogged law Device does not = Logs.device
      (told_if_device before after Device (job_settles law j before after Device does) refl)
  unlogged law Ticks does not = Logs.spent does
  unlogged law Words does not = absurd (never_words j before after Words does refl)
  unlogged law (Ended status) does not = absurd (not refl)
  unlogged law Refused does not = absurd (not refl)
  unlogged law BadFile does not = absurd (not refl)

  pub logs : EndsHaveCauses → (o : Outcome) → LogsJob j path before after o → Logs o
  logs law _ (LogsJob.logged pairs bytes came _ does kept is (Writes.written a)) =
      Logs.written pairs bytes came does kept is a.grown
  logs law _ (LogsJob.logged pairs bytes came _ does kept is (Writes.faulted log _ a (TellsDevice.told_so r told))) =
      Logs.device (told_if_device before after Device
      (logs_settles law j path before after Device
      (LogsJob.logged pairs bytes came Device does kept is
      (Writes.faulted log Device a (TellsDevice.told_so r told)))) refl)
  logs law _ (LogsJob.logged pairs bytes came _ does kept is (Writes.faulted log _ a (TellsDevice.untold room))) =
      Logs.no_memory
  logs law _ (LogsJob.logged pairs bytes came _ does kept is (Writes.no_memory room)) = Logs.no_memory
  logs law _ (LogsJob.unspelled came does kept) = Logs.no_memory
  logs law o (LogsJob.unlogged _ does not) = unlogged law o does (λ e. let no = sym e ∙ not in cc no)
  logs law _ (LogsJob.lost pairs ask does unkept) = Logs.no_memory
