-- The run of a script that is made is never told a fault, so it doesn't end by one.
use Rattle.std.proofs.Common.{◌≡◌, ◌≢◌, ◌⊎◌, ℕ, List, [], ◌∷◌, ◌++◌, inl, inr, refl, sym, subst, min}
use Rattle.std.specs.List.{All, reduce}
use Rattle.std.proofs.lemmas.List.Elements.{All-head, All-tail}
use Rattle.bds_host.specs.declared.asks.Ask.{Ask}
use Rattle.bds_host.specs.declared.asks.Ask.TheVariants as ask
use Rattle.bds_host.specs.declared.asks.Reply.{Reply}
use Rattle.bds_host.specs.declared.asks.Reply.TheVariants as reply
use Rattle.bds_host.specs.Auto.{next_reply}
use Rattle.bds_host.specs.Host.{Log}
use Rattle.bds_meaning.specs.Begin.{JobEnd, ran, refused, Reading, AtEnd}
use Rattle.bds_schedule.specs.Stages.{Done, Spent, DeviceFault}
use Rattle.bds_schedule.specs.Steps.{Leads}
use Rattle.bds_engine_parts.specs.Run.{FaultIsTold}
use Rattle.bds_tools.specs.Made.{AllMade, made_reply}
use Rattle.bds_app_run.specs.Commands.{RunsScript, outcome_of}
use Rattle.bds_app_run.specs.Job.{JobSteps}
use Rattle.bds_app_run.specs.declared.call.Call.{Call}
use Rattle.bds_app_run.specs.declared.outcome.Outcome.{Outcome}
use Rattle.bds_app_run.specs.declared.outcome.Outcome.TheVariants.{BadFile, Device, Words}
use Rattle.bds_app_run.proofs.ScriptLaws.{trail_of}
use Rattle.bds_app_trials.specs.DryRuns.{NamesOne, NamesOneOf, NamesOnePair}
use Rattle.bds_app_trials.proofs.JobPairs.{job_pairs}

-- each ask has a reply that is none, where one that asks what goes on names somebody
no_end : (ks ns : List ℕ) → NamesOneOf ks ns → reply.Fault ≢ next_reply (reduce min ks) (reduce min ns)
no_end [] [] named is = absurd named
no_end [] (n ∷ ns) named is = cc is
no_end (k ∷ ks) ns named is = cc is

no_fault : (text : List ℕ) (a : Ask) → NamesOne a → reply.Fault ≢ made_reply text a
no_fault text (ask.Read p) named is = cc is
no_fault text (ask.Stamp p) named is = cc is
no_fault text (ask.Write p t) named is = cc is
no_fault text (ask.Remove p) named is = cc is
no_fault text (ask.Out t) named is = cc is
no_fault text (ask.Err t) named is = cc is
no_fault text (ask.Sys t) named is = cc is
no_fault text (ask.Start n k t) named is = cc is
no_fault text (ask.Next ks ns) named is = no_end ks ns named is
no_fault text (ask.Save p t) named is = cc is

among : {X : Type 0} (P : X → Type 0) (xs : List X) (y : X) (ys : List X) → All P (xs ++ y ∷ ys) → P y
among P [] y ys all = All-head P y ys all
among P (x ∷ xs) y ys all = among P xs y ys (All-tail P x (xs ++ y ∷ ys) all)

module _ (text : List ℕ) (c : Call) (inner : Log) (made : AllMade text inner) where
  abbrev IsMade : Ask × Reply → Type 0
  IsMade p = p.1 ≡ made_reply text p.0

  untold : (e : JobEnd) → Leads (JobSteps c) (Reading []) [] (AtEnd e) inner → FaultIsTold [] inner → ⊥
  untold e l told =
      let pairs = job_pairs c (Reading []) [] (AtEnd e) inner l in
      let named : All NamesOnePair inner = subst (All NamesOnePair) (sym pairs.grown) pairs.named in
      no_fault text told.ask
      (among NamesOnePair told.pairs (told.ask, reply.Fault) _ (subst (All NamesOnePair) told.grown named))
      (among IsMade told.pairs (told.ask, reply.Fault) _ (subst (All IsMade) told.grown made))

  -- none of these is its answer
  abbrev pub IsOdd : Outcome → Type 0
  IsOdd o = (o ≡ Device) ⊎ (o ≡ BadFile) ⊎ (o ≡ Words)

  even : (e : JobEnd) → Leads (JobSteps c) (Reading []) [] (AtEnd e) inner → IsOdd (outcome_of e) → ⊥
  even (ran (Done status)) l (inl is) = cc is
  even (ran (Done status)) l (inr (inl is)) = cc is
  even (ran (Done status)) l (inr (inr is)) = cc is
  even (ran Spent) l (inl is) = cc is
  even (ran Spent) l (inr (inl is)) = cc is
  even (ran Spent) l (inr (inr is)) = cc is
  even (ran DeviceFault) l is = untold (ran DeviceFault) l (trail_of c [] inner (ran DeviceFault) l)
  even refused l (inl is) = cc is
  even refused l (inr (inl is)) = cc is
  even refused l (inr (inr is)) = cc is

  pub made_well : (o : Outcome) → RunsScript c [] inner o → IsOdd o → ⊥
  made_well _ (RunsScript.came e l) odd = even e l odd
  made_well _ (RunsScript.no_memory h) (inl is) = cc is
  made_well _ (RunsScript.no_memory h) (inr (inl is)) = cc is
  made_well _ (RunsScript.no_memory h) (inr (inr is)) = cc is
