-- A job that was recorded, and the log that is written behind it.
use Rattle.std.proofs.Common.{◌≡◌, ◌∙◌, ℕ, List, ◌++◌, true, sym, subst}
use Rattle.std.specs.List.{All}
use Rattle.bds_host.specs.declared.asks.Reply.{Reply}
use Rattle.bds_host.specs.Host.{Log}
use Rattle.bds_replay.specs.Loading.{IsLogOf}
use Rattle.bds_replay.specs.Log.{IsGiven}
use Rattle.bds_replay.specs.Recorded.{replies_of}
use Rattle.bds_replay.specs.declared.log.Job.{Job}
use Rattle.bds_replay.specs.declared.log.Log.{Log as ReplyLog}
use Rattle.bds_app_run.specs.declared.outcome.Outcome.{Outcome}
use Rattle.bds_app_run.specs.declared.outcome.Outcome.TheVariants.{NoMemory}
use Rattle.bds_app_run.specs.Jobs.{DoesJob}
use Rattle.bds_app_log.specs.Logged.{IsUnkept, LogsJob, RecordsJob, Writes, WritesIfLogged, is_logged}
use Rattle.bds_app_log.proofs.Again.{IsFit}
use Rattle.bds_app_log.proofs.Bounds.{HasFit, job_adds}
use Rattle.bds_app_log.proofs.Clean.{EndsHaveCauses, all_given, job_quiet}
use Rattle.std.proofs.lemmas.List.{append_cancel_left}

abbrev log_with : Job → List Reply → ReplyLog
log_with j replies = record { job = j; replies = replies }

all_fit : (pairs added : Log) (o : Outcome) → pairs ≡ added → is_logged o ≡ true → HasFit o added → All IsFit pairs
all_fit pairs added o same kept (HasFit.whole fit) = subst (λ l. All IsFit l) (sym same) fit
all_fit pairs added o same kept (HasFit.cut first ask is fit none) =
    absurd (let no : is_logged NoMemory ≡ true = subst (λ x. is_logged x ≡ true) none kept in cc no)

-- by each reply that was stored something was answered
pub records_given : EndsHaveCauses → (j : Job) (before after : Log) (replies : List Reply) (came : Outcome)
    → RecordsJob j before after replies came → is_logged came ≡ true → All IsGiven replies
records_given law j before after replies came (RecordsJob.kept pairs _ does grown stored) kept =
    let a = job_adds j before (before ++ pairs) came does in
    let fit = all_fit pairs a.pairs came (append_cancel_left before pairs a.pairs a.grown) kept a.fit in
    subst (λ l. All IsGiven l) (sym stored) (all_given pairs fit (job_quiet law j before pairs came does kept))
records_given law j before after replies _ (RecordsJob.lost pairs ask does unkept) kept = absurd (cc kept)

module _ (j : Job) (path : List ℕ) (before after : Log) where
  kept_logs : (pairs mid : Log) (replies : List Reply) (came answer : Outcome) → DoesJob j before (before ++ pairs) came
      → mid ≡ before ++ pairs → replies ≡ replies_of pairs
      → WritesIfLogged (log_with j replies) path came mid after answer → LogsJob j path before after answer
  kept_logs pairs mid replies came answer does is stored (WritesIfLogged.written bytes _ kept spelled writes) =
      LogsJob.logged pairs bytes came answer does kept (subst (λ l. IsLogOf bytes (log_with j l)) stored spelled)
      (subst (λ l. Writes path bytes came l after answer) is writes)
  kept_logs pairs mid replies came _ does is stored (WritesIfLogged.unspelled kept same) =
      LogsJob.unspelled came (subst (λ l. DoesJob j before l came) (sym (same ∙ is)) does) kept
  kept_logs pairs mid replies came _ does is stored (WritesIfLogged.unlogged not same) =
      LogsJob.unlogged came (subst (λ l. DoesJob j before l came) (sym (same ∙ is)) does) not

  pub logs_job : (mid : Log) (replies : List Reply) (came answer : Outcome) → RecordsJob j before mid replies came
      → WritesIfLogged (log_with j replies) path came mid after answer → LogsJob j path before after answer
  logs_job mid replies came answer (RecordsJob.kept pairs _ does is stored) w =
      kept_logs pairs mid replies came answer does is stored w
  logs_job mid replies _ answer (RecordsJob.lost pairs ask does unkept)
      (WritesIfLogged.written bytes _ kept spelled writes) = absurd (cc kept)
  logs_job mid replies _ _ (RecordsJob.lost pairs ask does unkept) (WritesIfLogged.unspelled kept same) =
      absurd (cc kept)
  logs_job mid replies _ _ (RecordsJob.lost pairs ask does unkept) (WritesIfLogged.unlogged not same) =
      LogsJob.lost pairs ask does (subst (λ l. IsUnkept ask (before ++ pairs) l) (sym same) unkept)
