-- The pairs of a job: each reply was told, and each ask for what comes next names somebody.
use Rattle.std.proofs.Common.{◌≡◌, ◌∙◌, [], ◌∷◌, ◌++◌, ap, sym, append_assoc, append-nil}
use Rattle.std.specs.Prelude.{◌≢◌}
use Rattle.std.specs.List.{All}
use Rattle.std.proofs.lemmas.List.Elements.{All-nil, All-push}
use Rattle.bds_host.specs.declared.asks.Ask.{Ask}
use Rattle.bds_host.specs.declared.asks.Reply.{Reply}
use Rattle.bds_host.specs.declared.asks.Reply.TheVariants.{NoRoom}
use Rattle.bds_host.specs.Host.{Log}
use Rattle.bds_meaning.specs.Begin.{Stage}
use Rattle.bds_meaning.specs.Begin as begin
use Rattle.bds_schedule.specs.Steps.{Asks, Leads}
use Rattle.bds_app_run.specs.Job.{JobSteps}
use Rattle.bds_app_run.specs.declared.call.Call.{Call}
use Rattle.bds_app_trials.specs.DryRuns.{NamesOne, NamesOnePair}
use Rattle.bds_app_trials.proofs.Naming.{source_one}

abbrev pub IsToldPair : Ask × Reply → Type 0
IsToldPair p = p.1 ≢ NoRoom

pub record JobPairs (before after : Log) : Type 0 where
  pub pairs : Log
  pub grown : after ≡ before ++ pairs
  pub named : All NamesOnePair pairs
  pub told : All IsToldPair pairs

step_names : (call : Call) (s : Stage) (a : Ask) (next : Reply → Stage) → JobSteps call s (Asks a next) → NamesOne a
step_names call s a next (begin.Steps.reads files file is short) = tt
step_names call s a next (begin.Steps.run_asks program c _ go m) = source_one program c _ m
step_names call s a next (begin.Steps.refuses f) = tt
step_names call s a next begin.Steps.faults = tt

pub job_pairs : (call : Call) (from : Stage) (before : Log) (s : Stage) (after : Log)
    → Leads (JobSteps call) from before s after
    → JobPairs before after
job_pairs call from before s after Leads.here =
    record { pairs = []; grown = sym (append-nil before); named = All-nil NamesOnePair; told = All-nil IsToldPair }
job_pairs call from before s after (Leads.goes u _ _ there step) = job_pairs call from before u after there
job_pairs call from before s after (Leads.asks u log _ a next r there step answered) =
    let h = job_pairs call from before u log there in
    record {
      pairs = h.pairs ++ (a, r) ∷ [];
      grown = answered.grown ∙ ap (λ l. l ++ (a, r) ∷ []) h.grown ∙ append_assoc before h.pairs ((a, r) ∷ []);
      named = All-push NamesOnePair h.pairs (a, r) h.named (step_names call u a next step);
      told = All-push IsToldPair h.pairs (a, r) h.told answered.told;
    }
