-- A log of asks has one answer, of a job whose log is written and of a replay.
use Rattle.std.proofs.Common.{◌≡◌, ◌≢◌, ◌∙◌, inl, inr, ℕ, List, [], ◌∷◌, ◌++◌, Bool, true, false, append_assoc}
use Rattle.std.proofs.Common.{append-nil, ap, sym, refl, subst}
use Rattle.std.proofs.lemmas.List.{append_cancel_left, map-append}
use Rattle.bds_host.specs.declared.asks.Ask.{Ask}
use Rattle.bds_host.specs.declared.asks.Ask.TheVariants.{Write}
use Rattle.bds_host.specs.declared.asks.Reply.{Reply}
use Rattle.bds_host.specs.declared.asks.Reply.TheVariants as reply
use Rattle.bds_host.specs.Host.{Log}
use Rattle.bds_meaning.specs.Begin.{AtEnd, Reading}
use Rattle.bds_meaning.specs.Begin as begin
use Rattle.bds_schedule.specs.Determined.{replies_of}
use Rattle.bds_front.specs.Unique.{HasOneStep, IsLikeAsk, IsSameStage, same}
use Rattle.bds_front.proofs.OneEnd.{one_end}
use Rattle.bds_front.proofs.OneJob.{agrees}
use Rattle.bds_replay.specs.declared.log.Job.{Job}
use Rattle.bds_app_run.specs.Commands.{RunsScript, outcome_of}
use Rattle.bds_app_run.specs.Job.{JobSteps, job_of, set_by_words, size_with}
use Rattle.bds_app_run.specs.Telling.{TellsDevice}
use Rattle.bds_app_run.specs.declared.call.Call.{Call}
use Rattle.bds_app_run.specs.declared.outcome.Outcome.{Outcome}
use Rattle.bds_app_run.specs.declared.outcome.Outcome.TheVariants as outcome
use Rattle.bds_app_run.specs.declared.outcome.Outcome.TheVariants.{Device, NoMemory}
use Rattle.bds_app_run.specs.Jobs.{DoesAs, DoesJob, call_of}
use Rattle.bds_app_run.proofs.Telling.{Same, has_risen}
use Rattle.bds_app_log.specs.Logged.{LogsJob, Writes, is_logged}
use Rattle.bds_app_log.proofs.Bounds.{job_adds}
use Rattle.bds_app_log.proofs.Clean.{EndsHaveCauses, Settles}
use Rattle.bds_app_log.proofs.Files.{FileStage, FileSteps, Unread, file_steps_agree}
use Rattle.bds_app_log.proofs.Files as files
use Rattle.bds_app_log.proofs.Jobs.{IsOneState}
use Rattle.bds_app_log.proofs.Resumes.{ComesSo, file_comes, file_outcome}
use Rattle.bds_app_log.proofs.Settled.{logs_settles}

-- no pair comes behind the end of a job, and it has one answer
module _ (before p q : Log) (rest : List Reply) (is : replies_of q ≡ replies_of p ++ rest) where
  abbrev One : Outcome → Outcome → Type 0
  One o o' = (rest ≡ []) × (o ≡ o')

  script_one : HasOneStep → (c : Call) (o o' : Outcome) → RunsScript c before (before ++ p) o → o ≢ NoMemory
      → RunsScript c before (before ++ q) o' → o' ≢ NoMemory → One o o'
  script_one one c _ _ (RunsScript.came end l) some (RunsScript.came end' l') other =
      let r = one_end (JobSteps c) IsLikeAsk IsSameStage (agrees one (job_of c) (set_by_words c) size_with) (Reading [])
      (Reading []) before before p q rest (AtEnd end) (AtEnd end') end end'
      (same (Reading [])) l (begin.Steps.comes end) l' (begin.Steps.comes end') is in
      (r.0, ap (λ e. outcome_of e) r.1)
  script_one one c _ _ (RunsScript.came end l) some (RunsScript.no_memory h) other = absurd (other refl)
  script_one one c _ _ (RunsScript.no_memory h) some k other = absurd (some refl)

  module _ (one : IsOneState) (path : List ℕ) (cpus ticks : ℕ) where
    led_one : (o o' : Outcome) → ComesSo path cpus ticks before (before ++ p) o → o ≢ NoMemory
        → ComesSo path cpus ticks before (before ++ q) o' → o' ≢ NoMemory → One o o'
    led_one o o' (inl none) some k other = absurd (some none)
    led_one o o' (inr h) some (inl none) other = absurd (other none)
    led_one o o' (inr h) some (inr k) other =
        let r = one_end (FileSteps path cpus ticks) IsLikeAsk (λ (s t : FileStage). s ≡ t)
        (file_steps_agree path cpus ticks one) Unread Unread before before p q rest (files.AtEnd h.0)
        (files.AtEnd k.0) h.0 k.0
        refl h.1.1 (FileSteps.comes h.0) k.1.1 (FileSteps.comes k.0) is in
        (r.0, h.1.0 ∙ ap (λ e. file_outcome e) r.1 ∙ sym k.1.0)

  one_as : HasOneStep → IsOneState → (b : Bool) (j : Job) (o o' : Outcome) → DoesAs b j before (before ++ p) o
      → o ≢ NoMemory → DoesAs b j before (before ++ q) o' → o' ≢ NoMemory → One o o'
  one_as one state true j o o' h some k other =
      led_one state j.path j.cpus j.ticks o o' (file_comes j.path j.cpus j.ticks before (before ++ p) o h) some
      (file_comes j.path j.cpus j.ticks before (before ++ q) o' k) other
  one_as one state false j o o' h some k other = script_one one (call_of j) o o' h some k other

no_replies : (more : Log) → replies_of more ≡ [] → more ≡ []
no_replies [] e = refl
no_replies (p ∷ more) e = absurd (cc e)

pub job_one : HasOneStep → IsOneState → (j : Job) (before p more : Log) (o o' : Outcome)
    → DoesJob j before (before ++ p) o → o ≢ NoMemory → DoesJob j before (before ++ (p ++ more)) o' → o' ≢ NoMemory
    → (more ≡ []) × (o ≡ o')
job_one one state j before p more o o' h some k other =
    let r = one_as before p (p ++ more) (replies_of more) (map-append (λ (x : Ask × Reply). x.1) p more) one state
    j.resume j o o' h some k other in
    (no_replies more r.0, r.1)

-- A job whose log is written

abbrev but_last : Log → Log
but_last [] = []
but_last (p ∷ []) = []
but_last (p ∷ (q ∷ log)) = p ∷ but_last (q ∷ log)

front_is : (xs : Log) (p : Ask × Reply) → but_last (xs ++ p ∷ []) ≡ xs
front_is [] p = refl
front_is (x ∷ []) p = refl
front_is (x ∷ (y ∷ xs)) p = ap (λ l. x ∷ l) (front_is (y ∷ xs) p)

abbrev is_lacking : Outcome → Bool
is_lacking NoMemory = true
is_lacking _ = false

lacking_is : (o : Outcome) → is_lacking o ≡ true → o ≡ NoMemory
lacking_is (outcome.Ended status) e = absurd (cc e)
lacking_is outcome.Refused e = absurd (cc e)
lacking_is outcome.BadFile e = absurd (cc e)
lacking_is outcome.Device e = absurd (cc e)
lacking_is outcome.Words e = absurd (cc e)
lacking_is outcome.NoMemory e = refl
lacking_is outcome.Ticks e = absurd (cc e)

not_lacking : (o : Outcome) → is_lacking o ≡ false → o ≢ NoMemory
not_lacking o e q = let no : is_lacking NoMemory ≡ false = subst (λ x. is_lacking x ≡ false) q e in cc no

-- two answers with one log, by what their replies show
pub same_by : (before after : Log) (o o' : Outcome) → (o ≢ NoMemory → o ≢ Device → o' ≢ NoMemory → o' ≢ Device → o ≡ o')
    → Settles before after o → Settles before after o' → Same o o'
same_by before after o o' both (inl none) k = inr (inl none)
same_by before after o o' both (inr h) (inl none) = inr (inr none)
same_by before after o o' both (inr (inl h)) (inr (inl k)) = by (is_lacking o) refl (is_lacking o') refl
  where
    by : (b : Bool) → is_lacking o ≡ b → (b' : Bool) → is_lacking o' ≡ b' → Same o o'
    by true e b' e' = inr (inl (lacking_is o e))
    by false e true e' = inr (inr (lacking_is o' e'))
    by false e false e' = inl (both (not_lacking o e) h.0 (not_lacking o' e') k.0)
same_by before after o o' both (inr (inl h)) (inr (inr k)) = absurd (has_risen before after k.1 h.1)
same_by before after o o' both (inr (inr h)) (inr (inl k)) = absurd (has_risen before after h.1 k.1)
same_by before after o o' both (inr (inr h)) (inr (inr k)) = inl (h.0 ∙ sym k.0)

module _ (j : Job) (path : List ℕ) (before after : Log) where
  -- a log without a fault: the job came to this answer, and its log was written behind, or none is kept of it
  data Came (o : Outcome) : Type 0 where
    written : (pairs : Log) (bytes : List ℕ) → DoesJob j before (before ++ pairs) o → is_logged o ≡ true
        → after ≡ before ++ (pairs ++ (Write path bytes, reply.Done) ∷ []) → Came o
    unwritten : (pairs : Log) → DoesJob j before (before ++ pairs) o → after ≡ before ++ pairs → Came o

  came_of : (o : Outcome) → LogsJob j path before after o → o ≢ NoMemory → o ≢ Device → Came o
  came_of _ (LogsJob.logged pairs bytes came _ does kept is (Writes.written a)) some well =
      Came.written pairs bytes does kept (a.grown ∙ append_assoc before pairs ((Write path bytes, reply.Done) ∷ []))
  came_of _ (LogsJob.logged pairs bytes came _ does kept is (Writes.faulted log _ a (TellsDevice.told_so r told))) some
      well = absurd (well refl)
  came_of _ (LogsJob.logged pairs bytes came _ does kept is (Writes.faulted log _ a (TellsDevice.untold room))) some
      well = absurd (some refl)
  came_of _ (LogsJob.logged pairs bytes came _ does kept is (Writes.no_memory room)) some well = absurd (some refl)
  came_of _ (LogsJob.unspelled came does kept) some well = absurd (some refl)
  came_of o (LogsJob.unlogged _ does not) some well =
      let a = job_adds j before after o does in
      Came.unwritten a.pairs (subst (λ l. DoesJob j before l o) a.grown does) a.grown
  came_of _ (LogsJob.lost pairs ask does unkept) some well = absurd (some refl)

  module _ (one : HasOneStep) (state : IsOneState) (o o' : Outcome) (some : o ≢ NoMemory) (other : o' ≢ NoMemory) where
    both : (p q : Log) → DoesJob j before (before ++ p) o → DoesJob j before (before ++ q) o' → q ≡ p → o ≡ o'
    both p q h k e =
        (job_one one state j before p [] o o' h some
        (subst (λ l. DoesJob j before (before ++ l) o') (e ∙ sym (append-nil p)) k) other).1

    longer : (p q : Log) (x : Ask × Reply) → DoesJob j before (before ++ p) o → DoesJob j before (before ++ q) o'
        → q ≡ p ++ x ∷ [] → o ≡ o'
    longer p q x h k e = absurd (cc ((job_one one state j before p (x ∷ []) o o' h some
        (subst (λ l. DoesJob j before (before ++ l) o') e k) other).0))

    added : (p q : Log) → after ≡ before ++ p → after ≡ before ++ q → p ≡ q
    added p q e f = append_cancel_left before p q (sym e ∙ f)

    shorter : (p q : Log) (x : Ask × Reply) → DoesJob j before (before ++ p) o → DoesJob j before (before ++ q) o'
        → p ≡ q ++ x ∷ [] → o ≡ o'
    shorter p q x h k e = absurd (cc ((job_one one state j before q (x ∷ []) o' o k other
        (subst (λ l. DoesJob j before (before ++ l) o) e h) some).0))

    came_one : Came o → Came o' → o ≡ o'
    came_one (Came.written p bytes h kept e) (Came.written q bytes' k kept' f) =
        both p q h k (sym (front_is q (Write path bytes', reply.Done))
        ∙ ap (λ l. but_last l) (added (q ++ (Write path bytes', reply.Done) ∷ [])
        (p ++ (Write path bytes, reply.Done) ∷ []) f e) ∙ front_is p (Write path bytes, reply.Done))
    came_one (Came.written p bytes h kept e) (Came.unwritten q k f) =
        longer p q (Write path bytes, reply.Done) h k (added q (p ++ (Write path bytes, reply.Done) ∷ []) f e)
    came_one (Came.unwritten p h e) (Came.written q bytes k kept f) =
        shorter p q (Write path bytes, reply.Done) h k (added p (q ++ (Write path bytes, reply.Done) ∷ []) e f)
    came_one (Came.unwritten p h e) (Came.unwritten q k f) = both p q h k (added q p f e)

  -- two answers of a job whose log is written
  pub logs_same : HasOneStep → EndsHaveCauses → IsOneState → (o o' : Outcome) → LogsJob j path before after o
      → LogsJob j path before after o' → Same o o'
  logs_same one law state o o' h k =
      same_by before after o o' (λ some well other well'. came_one one state o o' some other (came_of o h some well)
      (came_of o' k other well'))
      (logs_settles law j path before after o h) (logs_settles law j path before after o' k)
