-- What a replay comes to where its job has come to an answer.
use Rattle.std.proofs.Common.{◌≡◌, ◌∙◌, inr, ℕ, List, [], Bool, true, false, sym, subst}
use Rattle.bds_host.specs.declared.asks.Reply.{Reply}
use Rattle.bds_host.specs.declared.faults.Fault.TheVariants as fault
use Rattle.bds_host.specs.Host.{Log}
use Rattle.bds_replay.specs.Loading.{GivesLog, IsLogOf}
use Rattle.bds_replay.specs.Replayed.{IsReplayed, Replaying}
use Rattle.bds_replay.specs.declared.log.Job.{Job}
use Rattle.bds_replay.specs.declared.log.Log.{Log as ReplyLog}
use Rattle.bds_replay.specs.declared.log.LogFault.{LogFault}
use Rattle.bds_replay.specs.declared.log.LogFault.TheVariants as log
use Rattle.std.specs.Prelude.{Err}
use Rattle.bds_app_run.specs.Telling.{TellsFault}
use Rattle.bds_app_run.specs.declared.outcome.Outcome.{Outcome}
use Rattle.bds_app_run.specs.declared.outcome.Outcome.TheVariants.{BadFile}
use Rattle.bds_app_run.specs.Jobs.{DoesJob}
use Rattle.bds_app_log.specs.Asking.{is_want}
use Rattle.bds_app_log.specs.Logged.{is_logged}
use Rattle.bds_app_log.specs.Replays.{IsDoneAgain, PrintsAgain, ReplaysJob, printed_in}

module _ (path : List ℕ) (l : ReplyLog) (inner : Log) (left : List Reply) (came : Outcome) (before after : Log)
    (done : IsDoneAgain l inner left came) where
  pub used_up : (answer : Outcome) → left ≡ [] → is_logged came ≡ true
      → PrintsAgain (printed_in inner) came before after answer → ReplaysJob path l before after answer
  used_up answer none kept prints = ReplaysJob.alike inner came answer
      (subst (λ x. IsDoneAgain l inner x came) none done) kept prints

  pub left_over : (used : Bool) (answer : Outcome) → (left ≡ [] → used ≡ true) → used ≡ false → is_logged came ≡ true
      → TellsFault (fault.NotLoadable path) BadFile before after answer → ReplaysJob path l before after answer
  left_over used answer still not kept told =
      ReplaysJob.unlike inner left came answer done
      (inr (kept, λ none. let clash : true ≡ false = sym (still none) ∙ not in cc clash)) told

-- bytes that aren't read, but for want of memory, are those of no log
pub are_no_log : (fault : LogFault) (bytes : List ℕ) → is_want fault ≡ false
    → ((l : ReplyLog) → IsLogOf bytes l → GivesLog l (Err fault)) → (l : ReplyLog) → IsLogOf bytes l → ⊥
are_no_log (log.Short at) bytes not exact l h = exact l h
are_no_log (log.BadTag at byte) bytes not exact l h = exact l h
are_no_log (log.BadNumber at n) bytes not exact l h = exact l h
are_no_log (log.Extra at) bytes not exact l h = exact l h
are_no_log log.NoMemory bytes not exact l h = absurd (cc not)

-- a job was done over a host that gives replies, whose log was empty when it began
pub done_again : (j : Job) (replies given : List Reply) (begun : Log) (r : Replaying) (inner : Log) (came : Outcome)
    → begun ≡ [] → inner ≡ r.log → replies ≡ given → DoesJob j begun r.log came → IsReplayed given r
    → IsDoneAgain (record { job = j; replies = replies }) inner r.left came
done_again j replies given begun r inner came none is same does replayed =
    record {
      does = subst (λ l. DoesJob j [] l came) (sym is) (subst (λ l. DoesJob j l r.log came) none does);
      replayed = subst (λ l. IsReplayed replies (record { left = r.left; log = l })) (sym is)
          (subst (λ rs. IsReplayed rs r) (sym same) replayed);
    }
