-- What a host that stores replies has come to.
use Rattle.std.proofs.Common.{◌≡◌, ◌∙◌, ◌⊎◌, inl, inr, List, [], ◌∷◌, ◌++◌, append_assoc, append-nil, ap, sym, subst}
use Rattle.std.proofs.Common.{refl, true, drop}
use Rattle.std.specs.List.{All}
use Rattle.std.proofs.lemmas.List.Elements.{All-head, All-tail}
use Rattle.bds_host.specs.declared.asks.Ask.{Ask}
use Rattle.bds_host.specs.declared.asks.Reply.{Reply}
use Rattle.bds_host.specs.declared.asks.Reply.TheVariants.{NoRoom}
use Rattle.bds_host.specs.Asks.{fits}
use Rattle.bds_host.specs.Host.{Log}
use Rattle.bds_engine_parts.proofs.WholeRuns.{first_or, none_behind}
use Rattle.bds_replay.specs.Recorded.{AreAskedFor, IsRecorded, Recording}
use Rattle.bds_replay.specs.declared.log.Job.{Job}
use Rattle.bds_app_run.specs.declared.outcome.Outcome.{Outcome}
use Rattle.bds_app_run.specs.declared.outcome.Outcome.TheVariants.{NoMemory}
use Rattle.bds_app_run.specs.Jobs.{DoesJob}
use Rattle.bds_app_log.specs.Logged.{IsUnkept, RecordsJob}
use Rattle.bds_app_log.proofs.Again.{IsFit, fit_there}
use Rattle.bds_app_log.proofs.Bounds.{HasFit, job_adds}
use Rattle.bds_app_log.proofs.Moved.{moved_job}

-- where all but the last pair fit, none stands behind one that doesn't
none_later : (xs first rest : Log) (q : Ask × Reply) (ask : Ask) → All IsFit xs
    → xs ++ q ∷ [] ≡ first ++ (ask, NoRoom) ∷ rest → rest ≡ []
none_later [] [] rest q ask h e = sym (ap (λ l. drop 1 l) e)
none_later [] (p ∷ first) rest q ask h e = absurd (none_behind first (ask, NoRoom) rest (ap (λ l. drop 1 l) e))
none_later (x ∷ xs) [] rest q ask h e =
    let here : IsFit x = All-head IsFit x xs h in
    let same : x ≡ (ask, NoRoom) = ap (λ l. first_or x l) e in
    absurd (here.told (ap (λ (p : Ask × Reply). p.1) same))
none_later (x ∷ xs) (p ∷ first) rest q ask h e =
    none_later xs first rest q ask (All-tail IsFit x xs h) (ap (λ l. drop 1 l) e)

-- what was asked inside for no pair, and for one that was lost
none_asked : (own inner : Log) → AreAskedFor own inner → own ≡ [] → inner ≡ []
none_asked _ _ AreAskedFor.none e = refl
none_asked _ _ (AreAskedFor.kept own inner p h) e = absurd (none_behind own p [] (sym e))
none_asked _ _ (AreAskedFor.lost own inner ask reply h fit) e = absurd (none_behind own (ask, NoRoom) [] (sym e))
none_asked _ _ (AreAskedFor.unasked own inner ask h) e = absurd (none_behind own (ask, NoRoom) [] (sym e))

one_alone : (own : Log) (p q : Ask × Reply) → own ++ p ∷ [] ≡ q ∷ [] → (own ≡ []) × (p ≡ q)
one_alone [] p q e = (refl, ap (λ l. first_or p l) e)
one_alone (x ∷ own) p q e = absurd (none_behind own p [] (sym (ap (λ l. drop 1 l) e)))

abbrev MayBe : Ask → Log → Type 0
MayBe ask inner = (inner ≡ []) ⊎ ((reply : Reply) × ((fits ask reply ≡ true) × (inner ≡ (ask, reply) ∷ [])))

alone : (inner : Log) (p q : Ask × Reply) → inner ≡ [] → p ≡ q → inner ++ p ∷ [] ≡ q ∷ []
alone inner p q none same = ap (λ l. l ++ p ∷ []) none ∙ ap (λ x. x ∷ []) same

lost_asked : (own inner : Log) (ask : Ask) → AreAskedFor own inner → own ≡ (ask, NoRoom) ∷ [] → MayBe ask inner
lost_asked _ _ ask AreAskedFor.none e = absurd (cc e)
lost_asked _ _ ask (AreAskedFor.kept own inner p h) e =
    let w = one_alone own p (ask, NoRoom) e in
    inr (NoRoom, (refl, alone inner p (ask, NoRoom) (none_asked own inner h w.0) w.1))
lost_asked _ _ ask (AreAskedFor.lost own inner a reply h fit) e =
    let w = one_alone own (a, NoRoom) (ask, NoRoom) e in
    let same : a ≡ ask = ap (λ (p : Ask × Reply). p.0) w.1 in
    inr (
      reply,
      (
        subst (λ x. fits x reply ≡ true) same fit,
        alone inner (a, reply) (ask, reply)
            (none_asked own inner h w.0) (ap (λ x. (x, reply)) same),
      ),
    )
lost_asked _ _ ask (AreAskedFor.unasked own inner a h) e =
    inl (none_asked own inner h (one_alone own (a, NoRoom) (ask, NoRoom) e).0)

unkept : (before more after : Log) (ask : Ask) → after ≡ before ++ more → MayBe ask more → IsUnkept ask before after
unkept before more after ask e (inl none) = inl (e ∙ ap (λ l. before ++ l) none ∙ append-nil before)
unkept before more after ask e (inr h) = inr (h.0, (h.1.0, e ∙ ap (λ l. before ++ l) h.1.1))

module _ (j : Job) (start : Log) (r : Recording) where
  lost_records : (first more : Log) (ask : Ask) → r.log ≡ first ++ (ask, NoRoom) ∷ []
      → r.inner ≡ start ++ (first ++ more) → AreAskedFor ((ask, NoRoom) ∷ []) more → DoesJob j [] r.log NoMemory
      → RecordsJob j start r.inner r.replies NoMemory
  lost_records first more ask is inner asked does =
      let there : DoesJob j start (start ++ (first ++ (ask, NoRoom) ∷ [])) NoMemory =
      moved_job start j (first ++ (ask, NoRoom) ∷ []) NoMemory (subst (λ l. DoesJob j [] l NoMemory) is does) in
      RecordsJob.lost first ask there
      (unkept (start ++ first) more r.inner ask (inner ∙ sym (append_assoc start first more))
      (lost_asked ((ask, NoRoom) ∷ []) more ask asked refl))

  lost_by : (came : Outcome) (first more rest : Log) (ask : Ask) → r.log ≡ first ++ (ask, NoRoom) ∷ rest
      → r.inner ≡ start ++ (first ++ more) → AreAskedFor ((ask, NoRoom) ∷ rest) more → DoesJob j [] r.log came
      → (pairs : Log) → r.log ≡ pairs → HasFit came pairs → RecordsJob j start r.inner r.replies came
  lost_by came first more rest ask is inner asked does pairs same (HasFit.whole fit) =
      let pair : IsFit (ask, NoRoom) = fit_there first rest (ask, NoRoom) (subst (λ l. All IsFit l) (sym same ∙ is) fit)
      in
      absurd (pair.told refl)
  lost_by came first more rest ask is inner asked does pairs same (HasFit.cut front last cuts fit none) =
      let ends : rest ≡ [] = none_later front first rest (last, NoRoom) ask fit (sym cuts ∙ sym same ∙ is) in
      let log_is : r.log ≡ first ++ (ask, NoRoom) ∷ [] = is ∙ ap (λ l. first ++ (ask, NoRoom) ∷ l) ends in
      let asked_is : AreAskedFor ((ask, NoRoom) ∷ []) more =
      subst (λ l. AreAskedFor ((ask, NoRoom) ∷ l) more) ends asked in
      subst (λ o. RecordsJob j start r.inner r.replies o) (sym none)
      (lost_records first more ask log_is inner asked_is (subst (λ o. DoesJob j [] r.log o) none does))

  -- the job was done over the host that stored the replies
  pub records_job : (came : Outcome) → IsRecorded start r → DoesJob j [] r.log came
      → RecordsJob j start r.inner r.replies came
  records_job came (IsRecorded.all inner replies) does =
      RecordsJob.kept r.log came (moved_job start j r.log came does) inner replies
  records_job came (IsRecorded.up_to first more rest ask is inner asked) does =
      let a = job_adds j [] r.log came does in
      lost_by came first more rest ask is inner asked does a.pairs a.grown a.fit

-- the same of what a host gives back: its log was empty when the job began
pub recorded_job : (j : Job) (start begun : Log) (r : Recording) (inner : Log) (replies : List Reply) (came : Outcome)
    → begun ≡ [] → inner ≡ r.inner → replies ≡ r.replies → IsRecorded start r → DoesJob j begun r.log came
    → RecordsJob j start inner replies came
recorded_job j start begun r inner replies came none is stored recorded does =
    subst (λ l. RecordsJob j start l replies came) (sym is)
    (subst (λ rs. RecordsJob j start r.inner rs came) (sym stored)
    (records_job j start r came recorded (subst (λ l. DoesJob j l r.log came) none does)))
