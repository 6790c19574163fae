-- Replies lead to one end of a job.
use Rattle.std.proofs.Common.{◌≡◌, ◌∙◌, ℕ, List, [], ◌∷◌, ◌++◌, ◌⊎◌, inl, inr, Result, ap, refl, sym, subst}
use Rattle.bds_host.specs.declared.asks.Ask.{Ask}
use Rattle.bds_host.specs.declared.asks.Reply.{Reply}
use Rattle.bds_host.specs.declared.asks.Reply.TheVariants as reply
use Rattle.bds_host.specs.declared.faults.Fault.{Fault}
use Rattle.bds_host.specs.declared.faults.Fault.TheVariants as fault
use Rattle.bds_host.specs.Host.{Log}
use Rattle.bds_tree.specs.StmtTree.{ScriptTree}
use Rattle.bds_meaning.specs.Begin.{Job, JobEnd, ran, refused, Stage, Reading, Refusing, Running, AtEnd, Steps, JobComesTo, or_faulting}
use Rattle.bds_schedule.specs.Determined.{replies_of}
use Rattle.bds_meaning.specs.Refusals.{Preset}
use Rattle.bds_meaning.specs.Run.{Program, Conf}
use Rattle.bds_schedule.specs.Steps.{Step, Goes, Asks, Ends, Leads}
use Rattle.bds_front.specs.Unique.{IsSameStage, IsSameJobStep, same, HasOneStep, IsLikeAsk, like, like_told, AreLikePairs}
use Rattle.bds_front.proofs.OneEnd.{ComesThrough, Front, StepsAgree, StillComes, either_in_log, goes_through, one_end, log_has_one_end}

same_as : (s t : Stage) → s ≡ t → IsSameStage s t
same_as s t e = subst (λ x. IsSameStage s x) e (same s)

agree_step : (s t : Step Stage JobEnd) → IsSameJobStep s t → StepsAgree IsLikeAsk IsSameStage s t
agree_step (Goes s) (Goes t) h = h
agree_step (Goes s) (Asks ask next) h = absurd h
agree_step (Goes s) (Ends e) h = absurd h
agree_step (Asks ask next) (Goes t) h = absurd h
agree_step (Asks ask next) (Asks ask' next') h = (like ask ask' h.0, λ reply. same_as (next reply) (next' reply) (h.1 reply))
agree_step (Asks ask next) (Ends e) h = absurd h
agree_step (Ends e) (Goes t) h = absurd h
agree_step (Ends e) (Asks ask next) h = absurd h
agree_step (Ends e) (Ends e') h = h

abbrev first_or : Ask × Reply → Log → Ask × Reply
first_or p [] = p
first_or p (q ∷ log) = q

abbrev rest_of : Log → Log
rest_of [] = []
rest_of (p ∷ log) = log

-- of two fronts of a log one is the front of the other
one_ahead : (a b c d : Log) → a ++ c ≡ b ++ d → ((more : Log) × (b ≡ a ++ more)) ⊎ ((more : Log) × (a ≡ b ++ more))
one_ahead [] b c d is = inl (b, refl)
one_ahead (p ∷ a) [] c d is = inr (p ∷ a, refl)
one_ahead (p ∷ a) (q ∷ b) c d is = go (one_ahead a b c d (ap rest_of is))
  where
    go : ((more : Log) × (b ≡ a ++ more)) ⊎ ((more : Log) × (a ≡ b ++ more)) → ((more : Log) × (q ∷ b ≡ p ∷ (a ++ more))) ⊎ ((more : Log) × (p ∷ a ≡ q ∷ (b ++ more)))
    go (inl h) = inl (h.0, ap (λ x. first_or q x ∷ b) (sym is) ∙ ap (λ l. p ∷ l) h.1)
    go (inr h) = inr (h.0, ap (λ x. first_or p x ∷ a) is ∙ ap (λ l. q ∷ l) h.1)

module _ (one : HasOneStep) (job : Job) (words : ScriptTree → Result Preset Fault) (size : ScriptTree → Preset → ℕ) where
  told_agree : (path : List ℕ) (line line' : ℕ) (s t : Step Stage JobEnd) → Steps job words size (Refusing (fault.Syntax path line)) s → Steps job words size (Refusing (fault.Syntax path line')) t → StepsAgree IsLikeAsk IsSameStage s t
  told_agree path line line' _ _ (Steps.refuses _) (Steps.refuses _) = (like_told path line line', λ reply. same (or_faulting (AtEnd refused) reply))

  pub agrees : (c d : Stage) (s t : Step Stage JobEnd) → IsSameStage c d → Steps job words size c s → Steps job words size d t → StepsAgree IsLikeAsk IsSameStage s t
  agrees _ _ s t (IsSameStage.same c) a b = agree_step s t (one job words size c s t a b)
  agrees _ _ s t (IsSameStage.other_line path line line') a b = told_agree path line line' s t a b

  pub made_by_replies : (before before' pairs pairs' : Log) (rest : List Reply) (e e' : JobEnd) → JobComesTo job words size before (before ++ pairs) e → JobComesTo job words size before' (before' ++ pairs') e' → replies_of pairs' ≡ replies_of pairs ++ rest →
      (rest ≡ []) × (e ≡ e') × AreLikePairs IsLikeAsk pairs pairs'
  made_by_replies before before' pairs pairs' rest e e' l k is =
      one_end (Steps job words size) IsLikeAsk IsSameStage agrees (Reading []) (Reading []) before before' pairs pairs' rest (AtEnd e) (AtEnd e') e e' (same (Reading [])) l (Steps.comes e) k (Steps.comes e') is

  pub has_one_end : (before after : Log) (e e' : JobEnd) → JobComesTo job words size before after e → JobComesTo job words size before after e' → e ≡ e'
  has_one_end before after e e' l k =
      log_has_one_end (Steps job words size) IsLikeAsk IsSameStage agrees (Reading []) (Reading []) before after (AtEnd e) (AtEnd e') e e' (same (Reading [])) l (Steps.comes e) k (Steps.comes e')

  -- The run, from its opening to its end

  abbrev IsRun : Stage → Type 0
  IsRun (Running program c) = Unit {0}
  IsRun (AtEnd (ran end)) = Unit {0}
  IsRun _ = ⊥

  same_run : (s t : Stage) → IsSameStage s t → IsRun s → IsRun t
  same_run _ _ (IsSameStage.same s) h = h
  same_run _ _ (IsSameStage.other_line path line line') h = absurd h

  goes_run : (s t : Stage) → Steps job words size s (Goes t) → IsRun s → IsRun t
  goes_run _ _ (Steps.long_path files next is long) h = absurd h
  goes_run _ _ (Steps.flawed files path text flaw f has told) h = absurd h
  goes_run _ _ (Steps.whole files program beyond made all) h = absurd h
  goes_run _ _ (Steps.run_goes program c d moves) h = tt
  goes_run _ _ (Steps.run_ends program c end moves) h = tt

  asks_run : (s : Stage) (ask : Ask) (next : Reply → Stage) (reply : Reply) → Steps job words size s (Asks ask next) → IsRun s → IsRun (next reply)
  asks_run _ _ _ reply (Steps.reads files next is short) h = absurd h
  asks_run _ _ _ reply (Steps.run_asks program c ask next moves) h = tt
  asks_run _ _ _ reply (Steps.refuses f) h = absurd h
  asks_run _ _ _ reply Steps.faults h = absurd h

  run_stays : (s d : Stage) (log : Log) → Front (Steps job words size) s log d → IsRun s → IsRun d
  run_stays s d log (Front.here _) h = h
  run_stays s d log (Front.goes _ t _ _ m f) h = run_stays t d log f (goes_run s t m h)
  run_stays s d log (Front.asks _ _ ask next reply added m f) h = run_stays (next reply) d added f (asks_run s ask next reply m h)

  pub runs_on : (before before' pairs pairs' : Log) (rest : List Reply) (program : Program) (c : Conf) → Leads (Steps job words size) (Reading []) before (Running program c) (before ++ pairs) → JobComesTo job words size before' (before' ++ pairs') refused →
      replies_of pairs' ≡ replies_of pairs ++ rest → ⊥
  runs_on before before' pairs pairs' rest program c l k is =
      let b = goes_through (Steps job words size) IsLikeAsk IsSameStage agrees (Reading []) (Reading []) before before' pairs pairs' rest (Running program c) (AtEnd refused) refused (same (Reading [])) l k is (Steps.comes refused) in
      run_stays b.at (AtEnd refused) b.later b.ahead (same_run (Running program c) b.at b.same tt)

  -- A refusal, from where it is told

  abbrev IsTold : Stage → Type 0
  IsTold (Reading files) = ⊥
  IsTold (Running program c) = ⊥
  IsTold _ = Unit {0}

  goes_told : (s t : Stage) → Steps job words size s (Goes t) → IsTold s → IsTold t
  goes_told _ _ (Steps.long_path files next is long) h = tt
  goes_told _ _ (Steps.flawed files path text flaw f has told) h = tt
  goes_told _ _ (Steps.whole files program beyond made all) h = absurd h
  goes_told _ _ (Steps.run_goes program c d moves) h = absurd h
  goes_told _ _ (Steps.run_ends program c end moves) h = tt

  or_told : (s : Stage) → IsTold s → (r : Reply) → IsTold (or_faulting s r)
  or_told s h (reply.Bytes text) = h
  or_told s h reply.Missing = h
  or_told s h (reply.Stamp there size time) = h
  or_told s h reply.Done = h
  or_told s h (reply.SysDone code out) = h
  or_told s h reply.Started = h
  or_told s h (reply.Run k) = h
  or_told s h (reply.Ended task code) = h
  or_told s h reply.Fault = tt
  or_told s h reply.NoRoom = h

  asks_told : (s : Stage) (ask : Ask) (next : Reply → Stage) (reply : Reply) → Steps job words size s (Asks ask next) → IsTold s → IsTold (next reply)
  asks_told _ _ _ reply (Steps.reads files next is short) h = absurd h
  asks_told _ _ _ reply (Steps.run_asks program c ask next moves) h = absurd h
  asks_told _ _ _ reply (Steps.refuses f) h = or_told (AtEnd refused) tt reply
  asks_told _ _ _ reply Steps.faults h = tt

  told_stays : (s d : Stage) (log : Log) → Front (Steps job words size) s log d → IsTold s → IsTold d
  told_stays s d log (Front.here _) h = h
  told_stays s d log (Front.goes _ t _ _ m f) h = told_stays t d log f (goes_told s t m h)
  told_stays s d log (Front.asks _ _ ask next reply added m f) h = told_stays (next reply) d added f (asks_told s ask next reply m h)

  same_told : (s t : Stage) → IsSameStage s t → IsTold s → IsTold t
  same_told _ _ (IsSameStage.same s) h = h
  same_told _ _ (IsSameStage.other_line path line line') h = tt

  back_told : (s t : Stage) → IsSameStage s t → IsTold t → IsTold s
  back_told _ _ (IsSameStage.same s) h = h
  back_told _ _ (IsSameStage.other_line path line line') h = tt

  back_run : (s t : Stage) → IsSameStage s t → IsRun t → IsRun s
  back_run _ _ (IsSameStage.same s) h = h
  back_run _ _ (IsSameStage.other_line path line line') h = absurd h

  -- a front of the log is a refusal, and more of it a run, or the other way round
  run_behind : (before between later : Log) (f : Fault) (program : Program) (c : Conf) → Leads (Steps job words size) (Reading []) before (Refusing f) between → Leads (Steps job words size) (Reading []) before (Running program c) (between ++ later) → ⊥
  run_behind before between later f program c l k = go (either_in_log (Steps job words size) IsLikeAsk IsSameStage agrees (Reading []) before between later (Refusing f) (Running program c) (same (Reading [])) l k)
    where
      go : (a b : Log) × (rest : List Reply) × (ComesThrough (Steps job words size) IsLikeAsk IsSameStage agrees (Refusing f) (Running program c) a b rest ⊎ StillComes (Steps job words size) IsLikeAsk IsSameStage agrees (Refusing f) (Running program c)) → ⊥
      go (a, b, rest, inl h) = told_stays h.at (Running program c) h.later h.ahead (same_told (Refusing f) h.at h.same tt)
      go (a, b, rest, inr h) = run_stays h.next (Refusing f) [] h.ahead (goes_run h.at h.next h.moves (back_run h.at (Running program c) h.same tt))

  refusal_behind : (before between later : Log) (f : Fault) (program : Program) (c : Conf) → Leads (Steps job words size) (Reading []) before (Running program c) between → Leads (Steps job words size) (Reading []) before (Refusing f) (between ++ later) → ⊥
  refusal_behind before between later f program c l k = go (either_in_log (Steps job words size) IsLikeAsk IsSameStage agrees (Reading []) before between later (Running program c) (Refusing f) (same (Reading [])) l k)
    where
      go : (a b : Log) × (rest : List Reply) × (ComesThrough (Steps job words size) IsLikeAsk IsSameStage agrees (Running program c) (Refusing f) a b rest ⊎ StillComes (Steps job words size) IsLikeAsk IsSameStage agrees (Running program c) (Refusing f)) → ⊥
      go (a, b, rest, inl h) = run_stays h.at (Refusing f) h.later h.ahead (same_run (Running program c) h.at h.same tt)
      go (a, b, rest, inr h) = told_stays h.next (Running program c) [] h.ahead (goes_told h.at h.next h.moves (back_told h.at (Refusing f) h.same tt))

  pub refused_or_run : (before refusal run later later' : Log) (f : Fault) (program : Program) (c : Conf) → Leads (Steps job words size) (Reading []) before (Refusing f) refusal → Leads (Steps job words size) (Reading []) before (Running program c) run →
      refusal ++ later ≡ run ++ later' → ⊥
  refused_or_run before refusal run later later' f program c l k is = go (one_ahead refusal run later later' is)
    where
      go : ((more : Log) × (run ≡ refusal ++ more)) ⊎ ((more : Log) × (refusal ≡ run ++ more)) → ⊥
      go (inl h) = run_behind before refusal h.0 f program c l (subst (λ x. Leads (Steps job words size) (Reading []) before (Running program c) x) h.1 k)
      go (inr h) = refusal_behind before run h.0 f program c k (subst (λ x. Leads (Steps job words size) (Reading []) before (Refusing f) x) h.1 l)
