-- A job comes to its end again over the replies that it was given.
use Rattle.std.proofs.Common.{◌≡◌, ◌≢◌, ◌∙◌, inl, inr, ℕ, List, [], ◌++◌, Bool, true, false, ap, sym, refl, subst}
use Rattle.bds_host.specs.declared.asks.Reply.{Reply}
use Rattle.bds_host.specs.Host.{Log, faults}
use Rattle.bds_state.specs.Parts.{Parts}
use Rattle.bds_ckpt.specs.Loading.{Loadable}
use Rattle.bds_meaning.specs.Begin.{AtEnd, Reading}
use Rattle.bds_meaning.specs.Begin as begin
use Rattle.bds_schedule.specs.Determined.{replies_of}
use Rattle.bds_front.specs.Unique.{AreLikePairs, HasOneStep, IsLikeAsk, IsSameStage, same}
use Rattle.bds_front.proofs.OneJob.{agrees}
use Rattle.bds_replay.specs.Replayed.{IsReplayed}
use Rattle.bds_replay.specs.declared.log.Job.{Job}
use Rattle.bds_app_run.specs.Commands.{ResumesFile, RunsScript, outcome_of}
use Rattle.bds_app_run.specs.Job.{JobSteps, job_of, set_by_words, size_with}
use Rattle.bds_app_run.specs.declared.call.Call.{Call}
use Rattle.bds_app_run.specs.declared.outcome.Outcome.{Outcome}
use Rattle.bds_app_run.specs.declared.outcome.Outcome.TheVariants.{NoMemory}
use Rattle.bds_app_run.specs.Jobs.{DoesAs, DoesJob, call_of}
use Rattle.bds_app_log.specs.Logged.{is_logged}
use Rattle.bds_app_log.proofs.Again.{comes_again}
use Rattle.bds_app_log.proofs.Clean.{EndsHaveCauses, job_quiet}
use Rattle.bds_app_log.proofs.Files.{FileStage, FileSteps, Unread, file_steps_agree}
use Rattle.bds_app_log.proofs.Files as files
use Rattle.bds_app_log.proofs.Resumes.{ComesSo, file_comes, file_outcome}

abbrev pub IsOneState : Type 0
IsOneState = (bytes : List ℕ) (a b : Parts) → Loadable bytes a → Loadable bytes b → a ≡ b

-- a job came to this answer again, by all replies, and what it asked is alike
pub record IsAgain (pairs inner : Log) (left : List Reply) (came again : Outcome) : Type 0 where
  pub answer : again ≡ came
  pub used : left ≡ []
  pub alike : AreLikePairs IsLikeAsk inner pairs

module _ (start pairs inner : Log) (left : List Reply)
    (replayed : IsReplayed (replies_of pairs) (record { left = left; log = inner })) (clean : faults pairs ≡ 0) where
  abbrev A : Outcome → Outcome → Type 0
  A o o' = IsAgain pairs inner left o o'

  script_again : HasOneStep → (c : Call) (o o' : Outcome) → RunsScript c start (start ++ pairs) o → is_logged o ≡ true
      → RunsScript c [] inner o' → o' ≢ NoMemory → A o o'
  script_again one c _ _ (RunsScript.came end l) kept (RunsScript.came end' l') some =
      let r = comes_again (JobSteps c) IsSameStage (agrees one (job_of c) (set_by_words c) size_with) (Reading [])
      (Reading []) (AtEnd end) (AtEnd end') start pairs inner left end end'
      (same (Reading [])) l (begin.Steps.comes end) clean l' (begin.Steps.comes end') replayed in
      record { answer = ap (λ e. outcome_of e) r.end; used = r.used; alike = r.alike }
  script_again one c _ _ (RunsScript.came end l) kept (RunsScript.no_memory h) some = absurd (some refl)
  script_again one c _ _ (RunsScript.no_memory h) kept other some = absurd (cc kept)

  module _ (one : IsOneState) (path : List ℕ) (cpus ticks : ℕ) where
    led_again : (o o' : Outcome) → ComesSo path cpus ticks start (start ++ pairs) o → is_logged o ≡ true
        → ComesSo path cpus ticks [] inner o' → o' ≢ NoMemory → A o o'
    led_again o o' (inl none) kept other some =
        absurd (let no : is_logged NoMemory ≡ true = subst (λ x. is_logged x ≡ true) none kept in cc no)
    led_again o o' (inr h) kept (inl none) some = absurd (some none)
    led_again o o' (inr h) kept (inr k) some =
        let r = comes_again (FileSteps path cpus ticks) (λ (s t : FileStage). s ≡ t)
        (file_steps_agree path cpus ticks one) Unread Unread (files.AtEnd h.0) (files.AtEnd k.0) start pairs inner
        left h.0 k.0
        refl h.1.1 (FileSteps.comes h.0) clean k.1.1 (FileSteps.comes k.0) replayed in
        record { answer = k.1.0 ∙ ap (λ e. file_outcome e) r.end ∙ sym h.1.0; used = r.used; alike = r.alike }

    file_again : (o o' : Outcome) → ResumesFile cpus ticks path start (start ++ pairs) o → is_logged o ≡ true
        → ResumesFile cpus ticks path [] inner o' → o' ≢ NoMemory → A o o'
    file_again o o' h kept k some = led_again o o' (file_comes path cpus ticks start (start ++ pairs) o h) kept
        (file_comes path cpus ticks [] inner o' k) some

  again_as : HasOneStep → IsOneState → (b : Bool) (j : Job) (o o' : Outcome) → DoesAs b j start (start ++ pairs) o
      → is_logged o ≡ true → DoesAs b j [] inner o' → o' ≢ NoMemory → A o o'
  again_as one state true j o o' h kept k some = file_again state j.path j.cpus j.ticks o o' h kept k some
  again_as one state false j o o' h kept k some = script_again one (call_of j) o o' h kept k some

pub job_again : HasOneStep → EndsHaveCauses → IsOneState
    → (j : Job) (start pairs inner : Log) (left : List Reply) (o o' : Outcome) → DoesJob j start (start ++ pairs) o
    → is_logged o ≡ true → DoesJob j [] inner o' → o' ≢ NoMemory
    → IsReplayed (replies_of pairs) (record { left = left; log = inner }) → IsAgain pairs inner left o o'
job_again one law state j start pairs inner left o o' h kept k some replayed =
    again_as start pairs inner left replayed (job_quiet law j start pairs o h kept) one state j.resume j o o' h kept k
    some
