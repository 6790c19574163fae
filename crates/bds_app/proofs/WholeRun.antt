-- A run without a stop is one history.
use Rattle.std.proofs.Common.{◌≡◌, ◌∙◌, ◌⊎◌, inl, inr, ℕ, [], ◌∷◌, ◌++◌, Result, Ok, Err, refl, sym, ap, subst}
use Rattle.std.proofs.Common.{append_assoc, append-nil}
use Rattle.bds_host.specs.declared.asks.Ask.{Ask}
use Rattle.bds_host.specs.declared.asks.Reply.{Reply}
use Rattle.bds_host.specs.declared.asks.Reply.TheVariants as reply
use Rattle.bds_host.specs.declared.faults.Fault.{Fault}
use Rattle.bds_host.specs.Host.{Log, Answered}
use Rattle.bds_meaning.specs.Begin.{JobEnd, ran, Stage, Reading, Refusing, Faulting, Running, AtEnd, Steps, IsOnWay}
use Rattle.bds_meaning.specs.Begin.{opens, opens_if, reads_of}
use Rattle.bds_meaning.specs.History.{Lives}
use Rattle.bds_meaning.specs.Opening.{program_of}
use Rattle.bds_meaning.specs.Refusals.{Accepted, accepted}
use Rattle.bds_meaning.specs.Run.{Program, Conf, Moves}
use Rattle.bds_schedule.specs.Stages.{End, Done, Spent, DeviceFault}
use Rattle.bds_schedule.specs.Steps.{Step, Goes, Asks, Ends, Leads, Halts}
use Rattle.bds_meaning_laws.specs.Histories.{ScriptsOpenSo}
use Rattle.bds_meaning_laws.specs.Jobs.{HistoriesKeepTheLaws, JobsAreHistories}
use Rattle.bds_sim_code.specs.Checkpoints.{HasRun, HasEnded, events}
use Rattle.bds_engine_parts.specs.declared.stop.RunStop.{RunStop}
use Rattle.bds_engine_parts.specs.declared.stop.RunStop.TheVariants as run_stop
use Rattle.bds_app_run.specs.Commands.{RunsScript, outcome_of, run_outcome}
use Rattle.bds_app_run.specs.Job.{JobSteps, job_of, set_by_words, size_with}
use Rattle.bds_app_run.specs.declared.call.Call.{Call}
use Rattle.bds_app_run.specs.declared.outcome.Outcome.{Outcome}
use Rattle.bds_app.specs.OneRun.{opens_at}
use Rattle.bds_app.specs.WholeRun.{IsWholeRun, RunsAreWhole, WasNotRun}

-- steps behind another log
behind_log : {S E : Type 0} (steps : S → Step S E → Type 0) (from : S) (before : Log) (to : S) (pairs : Log)
    → Leads steps from [] to pairs → Leads steps from before to (before ++ pairs)
behind_log steps from before _ _ Leads.here =
    subst (λ l. Leads steps from before from l) (sym (append-nil before)) Leads.here
behind_log steps from before _ _ (Leads.goes s t log l step) =
    Leads.goes s t (before ++ log) (behind_log steps from before s log l) step
behind_log steps from before _ _ (Leads.asks s log after ask next reply l step answered) =
    Leads.asks s (before ++ log) (before ++ after) ask next reply (behind_log steps from before s log l) step
    (record {
      grown = ap (λ l. before ++ l) answered.grown ∙ sym (append_assoc before log ((ask, reply) ∷ []));
      fitting = answered.fitting;
      told = answered.told;
    })

module _ (jobs : JobsAreHistories) (opened : ScriptsOpenSo) (keep : HistoriesKeepTheLaws) (c : Call) (before : Log)
  where
    abbrev first_of : Accepted → Conf
    first_of r = opens_at c r

    -- where the run of the job is, its history
    record Lived (program : Program) (at : Conf) (log : Log) : Type 0 where
      run : Accepted
      program_is : program ≡ program_of run.script
      reads : Log
      opens : Leads (JobSteps c) (Reading []) before (opens (job_of c) run) (before ++ reads)
      pairs : Log
      grown : log ≡ (before ++ reads) ++ pairs
      lives : Lives (program_of run.script) (first_of run) (events pairs) at

    lived : (program : Program) (at : Conf) (log : Log)
        → Leads (JobSteps c) (Reading []) before (Running program at) log → Lived program at log
    lived program at log leads =
        let h = jobs (job_of c) (set_by_words c) size_with program before log at leads in
        let same : program_of h.run.script ≡ program =
        program_in (program_of h.run.script) program (first_of h.run) h.first h.opening in
        let start : first_of h.run ≡ h.first =
        first_in (program_of h.run.script) program (first_of h.run) h.first h.opening in
        let begins : Leads (JobSteps c) (Reading []) before (Running program h.first) (before ++ reads_of h.files) =
        behind_log (JobSteps c) (Reading []) before (Running program h.first) (reads_of h.files) h.begins in
        record {
          run = h.run;
          program_is = sym same;
          reads = reads_of h.files;
          opens =
              subst (λ s. Leads (JobSteps c) (Reading []) before s (before ++ reads_of h.files)) (sym h.opening)
              begins;
          pairs = h.pairs;
          grown = h.grown ∙ sym (append_assoc before (reads_of h.files) h.pairs);
          lives =
              subst (λ p. Lives p (first_of h.run) (events h.pairs) at) (sym same)
              (subst (λ f. Lives program f (events h.pairs) at) (sym start)
              (subst (λ es. Lives program h.first es at) h.events h.lives));
        }
      where
        program_in : (p q : Program) (x y : Conf) → ◌≡◌ {A = Stage} (Running p x) (Running q y) → p ≡ q
        program_in p q x y e = cc e

        first_in : (p q : Program) (x y : Conf) → ◌≡◌ {A = Stage} (Running p x) (Running q y) → x ≡ y
        first_in p q x y e = cc e

    abbrev Come : Log → Outcome → Type 0
    Come after answer = IsWholeRun c before after answer ⊎ WasNotRun c before after answer

    whole : (run : Accepted) (reads : Log)
        → Leads (JobSteps c) (Reading []) before (opens (job_of c) run) (before ++ reads)
        → (after : Log) (end : Result ℕ RunStop)
        → HasRun (program_of run.script) (first_of run) [] (before ++ reads) after end → Come after (run_outcome end)
    whole run reads opens after end has = inl (record {
      accepted = run;
      reads = reads;
      opens = opens;
      end = end;
      is = refl;
      has_run = has;
      keeps =
          λ pairs at lives. keep (program_of run.script) (first_of run) at (events pairs)
          (opened c.path c.cpus c.ticks run.preset.settings run.preset.args run.script) lives;
    })

    -- its run has ended
    ended : (program : Program) (at : Conf) (after : Log) (e : End) → Lived program at after
        → Moves program at (Ends e) → Come after (outcome_of (ran e))
    ended program at after e l moves =
        by e
        (record {
          pairs = l.pairs;
          grown = l.grown;
          at = at;
          lives = l.lives;
          ends = subst (λ p. Moves p at (Ends e))
              l.program_is moves;
        })
      where
        by : (e : End) → HasEnded (program_of l.run.script) (first_of l.run) [] (before ++ l.reads) after e
            → Come after (outcome_of (ran e))
        by (Done status) has = whole l.run l.reads l.opens after (Ok status) has
        by Spent has = whole l.run l.reads l.opens after (Err run_stop.Ticks) has
        by DeviceFault has = whole l.run l.reads l.opens after (Err run_stop.Device) has

    -- The end of the job

    goes_end : (s t : Stage) (end : JobEnd) (log : Log) → Leads (JobSteps c) (Reading []) before s log
        → JobSteps c s (Goes t) → t ≡ AtEnd end → Come log (outcome_of end)
    goes_end _ _ end log leads (Steps.long_path files next is long) e = absurd (cc e)
    goes_end _ _ end log leads (Steps.flawed files path text flaw f has told) e = absurd (cc e)
    goes_end _ _ end log leads (Steps.whole files program beyond made same) e =
        absurd (opens_none (accepted c.path (set_by_words c) size_with program beyond) e)
      where
        opens_none : (r : Result Accepted Fault) → opens_if (job_of c) r ≡ AtEnd end → ⊥
        opens_none (Ok r) e = absurd (cc e)
        opens_none (Err f) e = absurd (cc e)
    goes_end _ _ end log leads (Steps.run_goes program x y moves) e = absurd (cc e)
    goes_end _ _ end log leads (Steps.run_ends program x v moves) e =
        let same : ran v ≡ end = cc e in
        subst (λ z. Come log (outcome_of z)) same (ended program x log v (lived program x log leads) moves)

    asks_end : (s : Stage) (ask : Ask) (next : Reply → Stage) (r : Reply) (end : JobEnd) (log after : Log)
        → Leads (JobSteps c) (Reading []) before s log → JobSteps c s (Asks ask next) → next r ≡ AtEnd end
        → Answered log after ask r → Come after (outcome_of end)
    asks_end _ _ _ r end log after leads (Steps.reads files next is short) e told =
        inr (WasNotRun.told (Reading files) log _ _ r end tt leads (Steps.reads files next is short) told e)
    asks_end _ _ _ r end log after leads (Steps.run_asks program x _ next moves) e told = absurd (cc e)
    asks_end _ _ _ r end log after leads (Steps.refuses f) e told =
        inr (WasNotRun.told (Refusing f) log _ _ r end tt leads (Steps.refuses f) told e)
    asks_end _ _ _ r end log after leads Steps.faults e told =
        inr (WasNotRun.told Faulting log _ _ r end tt leads Steps.faults told e)

    at_end : (t : Stage) (end : JobEnd) (after : Log) → Leads (JobSteps c) (Reading []) before t after → t ≡ AtEnd end
        → Come after (outcome_of end)
    at_end _ end _ Leads.here e = absurd (cc e)
    at_end _ end _ (Leads.goes s t log leads step) e = goes_end s t end log leads step e
    at_end _ end _ (Leads.asks s log after ask next r leads step answered) e =
        asks_end s ask next r end log after leads step e answered

    -- No memory

    halted : (s : Stage) (after : Log) → IsOnWay s → Leads (JobSteps c) (Reading []) before s after
        → Come after (run_outcome (Err run_stop.NoMemory))
    halted (Reading files) after way leads = inr (WasNotRun.stopped (Reading files) tt leads)
    halted (Refusing f) after way leads = inr (WasNotRun.stopped (Refusing f) tt leads)
    halted Faulting after way leads = inr (WasNotRun.stopped Faulting tt leads)
    halted (Running program at) after way leads =
        let l = lived program at after leads in
        whole l.run l.reads l.opens after (Err run_stop.NoMemory)
        (record { pairs = l.pairs; at = at; lives = l.lives; grown = inl (l.grown, way) })
    halted (AtEnd end) after way leads = absurd way

    halted_asking : (s : Stage) (ask : Ask) (next : Reply → Stage) (log after : Log)
        → Leads (JobSteps c) (Reading []) before s log → JobSteps c s (Asks ask next)
        → after ≡ log ++ (ask, reply.NoRoom) ∷ [] → Come after (run_outcome (Err run_stop.NoMemory))
    halted_asking _ _ _ log after leads (Steps.reads files next is short) grown =
        inr (WasNotRun.stopped_asking (Reading files) log _ _ tt leads (Steps.reads files next is short) grown)
    halted_asking _ ask _ log after leads (Steps.run_asks program x _ next moves) grown =
        let l = lived program x log leads in
        whole l.run l.reads l.opens after (Err run_stop.NoMemory) (record {
          pairs = l.pairs;
          at = x;
          lives = l.lives;
          grown =
              inr (
                ask,
                (
                  next,
                  grown ∙ ap (λ z. z ++ (ask, reply.NoRoom) ∷ []) l.grown
                      ∙ append_assoc (before ++ l.reads) l.pairs ((ask, reply.NoRoom) ∷ []),
                  subst (λ p. Moves p x (Asks ask next)) l.program_is moves,
                ),
              );
        })
    halted_asking _ _ _ log after leads (Steps.refuses f) grown =
        inr (WasNotRun.stopped_asking (Refusing f) log _ _ tt leads (Steps.refuses f) grown)
    halted_asking _ _ _ log after leads Steps.faults grown =
        inr (WasNotRun.stopped_asking Faulting log _ _ tt leads Steps.faults grown)

    halts : (after : Log) → Halts (JobSteps c) IsOnWay (Reading []) before after
        → Come after (run_outcome (Err run_stop.NoMemory))
    halts after (Halts.halts_at s way leads) = halted s after way leads
    halts after (Halts.halts_asking s log ask next leads step grown) =
        halted_asking s ask next log after leads step grown

pub runs_are_whole : JobsAreHistories → ScriptsOpenSo → HistoriesKeepTheLaws → RunsAreWhole
runs_are_whole jobs opened keep c before after _ (RunsScript.came end leads) =
    at_end jobs opened keep c before (AtEnd end) end after leads refl
runs_are_whole jobs opened keep c before after _ (RunsScript.no_memory h) = halts jobs opened keep c before after h
