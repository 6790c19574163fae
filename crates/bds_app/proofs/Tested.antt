-- What each answer to a call that runs tests stands for, and that the log determines it.
use Rattle.std.proofs.Common.{◌≡◌, ◌≢◌, ◌∙◌, ◌+◌, ◌-◌, ◌++◌, ◌⊎◌, ℕ, Bool, true, false, List, [], ◌∷◌, Some, None}
use Rattle.std.proofs.Common.{Result, Ok, Err, inl, inr, length, if◌then◌else◌}
use Rattle.std.proofs.Common.{arith, refl, ap, ap₂, sym, subst, append_assoc}
use Rattle.std.specs.Prelude.{nat_le}
use Rattle.bds_value.specs.Results.{◌>>=◌}
use Rattle.bds_value.specs.declared.TheConstants.{MAX_CODE}
use Rattle.bds_host.specs.declared.asks.Ask.{Ask}
use Rattle.bds_host.specs.declared.asks.Ask.TheVariants.{Out, Err as Tells}
use Rattle.bds_host.specs.declared.asks.Reply.TheVariants as reply
use Rattle.bds_host.specs.declared.faults.Fault.{Fault as AFault}
use Rattle.bds_host.specs.declared.faults.Fault.TheVariants as fault
use Rattle.bds_host.specs.Host.{Log, faults}
use Rattle.bds_host.specs.Message.{message_of}
use Rattle.bds_host.proofs.Growing.{faults-append}
use Rattle.bds_tree.specs.StmtTree.{ScriptTree}
use Rattle.bds_tree.specs.StmtView.{script_of}
use Rattle.bds_check.specs.declared.checking.TypedScript.{TypedScript}
use Rattle.bds_check_tests.specs.Tests.{IsTestOf}
use Rattle.bds_app_run.proofs.Begins.{begun}
use Rattle.bds_app_run.specs.Begun.{Begun, told}
use Rattle.bds_front.specs.Loading.{Loads}
use Rattle.bds_front.specs.Unique.{IsRefusedOrRun}
use Rattle.bds_front.specs.declared.front_fault.FrontFault.{FrontFault}
use Rattle.bds_meaning.specs.Begin.{Job, Reading, Refusing, Steps, opens, opens_if}
use Rattle.bds_meaning.specs.Refusals.{Accepted, Preset, accepted, too_big, unless}
use Rattle.bds_schedule.specs.Stages.{DeviceFault, Spent}
use Rattle.bds_schedule.specs.Steps.{Goes, Leads}
use Rattle.bds_engine_parts.specs.Run.{FaultIsTold}
use Rattle.bds_engine_parts.proofs.Told.{IsClean}
use Rattle.bds_app_run.specs.declared.call.Call.{Call}
use Rattle.bds_app_run.specs.declared.outcome.Outcome.{Outcome}
use Rattle.bds_app_run.specs.declared.outcome.Outcome.TheVariants.{Ended, Refused, Device, NoMemory, Ticks}
use Rattle.bds_app_trials.specs.DryRuns.{DriesScript, HasPassed}
use Rattle.bds_app_trials.specs.Testing.{HaveRun, RunsTest, StopsTest, TellsCounts, TestsLoaded, TestsScript}
use Rattle.bds_app_trials.specs.Testing.{any_too_big, is_any_too_big}
use Rattle.bds_app_trials.specs.Testing.{status_of, summary_line, tests_of}
use Rattle.bds_app_trials.proofs.DryFaults.{dry_passed}
use Rattle.bds_app_trials.proofs.FaultTold.{fault_is_told}
use Rattle.bds_app_trials.proofs.JobPairs.{job_pairs}
use Rattle.bds_app_trials.proofs.Passing.{have_passed, loaded_passed, run_passed, tests_passed}
use Rattle.bds_app_trials.proofs.TestAnswers.{done_calm, have_calm, ran_trail}
use Rattle.bds_app_run.proofs.Telling.{Comes, clean_faults, has_risen, prints_comes, says_comes}
use Rattle.bds_app.specs.Answers.{Answers, DoesCommand, call_of}
use Rattle.bds_app.specs.Complete.{AreTested, HasPassedOnly, IsTestSpent}
use Rattle.bds_app.proofs.Checks.{accepted_clean, refused_comes, unread_comes}

-- Logs without a fault

clean_on : (before log after : Log) → IsClean before log → HasPassed log after → faults after ≡ faults log
    → IsClean before after
clean_on before log after h k calm = record {
  pairs = h.pairs ++ k.pairs;
  grown = k.grown ∙ ap (λ l. l ++ k.pairs) h.grown ∙ append_assoc before h.pairs k.pairs;
  clean = faults-append h.pairs k.pairs
      ∙ ap₂ (λ m n. m + n) h.clean (none (ap faults k.grown ∙ faults-append log k.pairs) calm);
}
  where
    none : {a b n : ℕ} → a ≡ b + n → a ≡ b → n ≡ 0
    none e same = omega (arith, e, same)

fault_behind : (before log after : Log) → IsClean before log → FaultIsTold log after → FaultIsTold before after
fault_behind before log after h f =
    let last : Log = (f.ask, reply.Fault) ∷ (Tells (message_of fault.Device), f.reply) ∷ [] in
    record {
      pairs = h.pairs ++ f.pairs;
      ask = f.ask;
      reply = f.reply;
      grown = f.grown ∙ ap (λ l. l ++ (f.pairs ++ last)) h.grown ∙ append_assoc before h.pairs (f.pairs ++ last)
          ∙ ap (λ l. before ++ l) (sym (append_assoc h.pairs f.pairs last));
      clean = faults-append h.pairs f.pairs ∙ ap₂ (λ m n. m + n) h.clean f.clean;
      room = f.room;
    }

-- The answers

pub data TestEnd (c : Call) (before after : Log) : Outcome → Type 0 where
  counted : (t : TypedScript) (loaded log : Log) (failed : ℕ) → Loads c.path before loaded (Ok t)
      → is_any_too_big t ≡ false
      → HaveRun c t loaded (length (tests_of t)) failed log
      → after ≡ log ++ (Out (summary_line (length (tests_of t) - failed) failed), reply.Done) ∷ []
      → HasPassed loaded after
      → TestEnd c before after (Ended (status_of failed))
  spent : (t test : TypedScript) (loaded log : Log) (n failed : ℕ) → Loads c.path before loaded (Ok t)
      → is_any_too_big t ≡ false
      → HaveRun c t loaded n failed log → IsTestOf t n test → RunsTest c test log after Spent → HasPassed loaded after
      → TestEnd c before after Ticks
  unloaded : (f : FrontFault) (g : AFault) (log : Log) → Loads c.path before log (Err f) → told f ≡ Some g
      → after ≡ log ++ (Tells (message_of g), reply.Done) ∷ [] → TestEnd c before after Refused
  big : (t : TypedScript) (log : Log) → Loads c.path before log (Ok t) → is_any_too_big t ≡ true
      → after ≡ log ++ (Tells (message_of (fault.TooBig c.path)), reply.Done) ∷ [] → TestEnd c before after Refused
  device : FaultIsTold before after → TestEnd c before after Device
  no_memory : TestEnd c before after NoMemory

module _ (c : Call) (before after : Log) where
  abbrev E : Outcome → Type 0
  E o = TestEnd c before after o

  of_comes : (ask : Ask) (answer : Outcome) (log : Log) (o : Outcome)
      → (after ≡ log ++ (ask, reply.Done) ∷ [] → E answer) → Comes ask answer before log after o → E o
  of_comes ask answer log o end (inl none) = subst E (sym none) TestEnd.no_memory
  of_comes ask answer log o end (inr (inl h)) = subst E (sym h.0) (end h.1)
  of_comes ask answer log o end (inr (inr h)) = subst E (sym h.0) (TestEnd.device h.1)

  -- what wasn't printed
  of_untold : (ask : Ask) (log : Log) (o : Outcome) → o ≢ Ended 0 → Comes ask (Ended 0) before log after o → E o
  of_untold ask log o other (inl none) = subst E (sym none) TestEnd.no_memory
  of_untold ask log o other (inr (inl h)) = absurd (other h.0)
  of_untold ask log o other (inr (inr h)) = subst E (sym h.0) (TestEnd.device h.1)

  of_device : (o : Outcome) → (o ≡ NoMemory) ⊎ ((o ≡ Device) × FaultIsTold before after) → E o
  of_device o (inl none) = subst E (sym none) TestEnd.no_memory
  of_device o (inr told) = subst E (sym told.0) (TestEnd.device told.1)

  -- what was printed
  printed_last : (ask : Ask) (log : Log) → Comes ask (Ended 0) before log after (Ended 0)
      → after ≡ log ++ (ask, reply.Done) ∷ []
  printed_last ask log (inl none) = absurd (cc none)
  printed_last ask log (inr (inl h)) = h.1
  printed_last ask log (inr (inr h)) = let no = h.0 in absurd (cc no)

  module _ (t : TypedScript) (loaded : Log) (loads : Loads c.path before loaded (Ok t)) where
    run_clean : (n failed : ℕ) (log : Log) → HaveRun c t loaded n failed log → IsClean before log
    run_clean n failed log there =
        clean_on before loaded log (accepted_clean c.path before after t loaded loads)
        (have_passed c t loaded n failed log there) (have_calm c t loaded n failed log there)

    of_counts : (failed : ℕ) (log : Log) (o : Outcome) → is_any_too_big t ≡ false
        → HaveRun c t loaded (length (tests_of t)) failed log → HasPassed loaded after
        → TellsCounts (length (tests_of t) - failed) failed log after o → E o
    of_counts failed log _ fits there passed (TellsCounts.counted said) =
        TestEnd.counted t loaded log failed loads fits there (printed_last _ _
        (prints_comes before log (run_clean _ failed log there) _ after (Ended 0) said)) passed
    of_counts failed log _ fits there passed (TellsCounts.untold o said other) =
        of_untold _ log o other (prints_comes before log (run_clean _ failed log there) _ after o said)

    of_last : (n failed : ℕ) (log : Log) (o : Outcome) → is_any_too_big t ≡ false → HaveRun c t loaded n failed log
        → HasPassed loaded after → StopsTest c t n log after o → E o
    of_last n failed log _ fits there passed (StopsTest.spent test is run) =
        TestEnd.spent t test loaded log n failed loads fits there is run passed
    of_last n failed log _ fits there passed (StopsTest.faulted test is run) =
        TestEnd.device (fault_behind before log after (run_clean n failed log there)
        (fault_is_told log after run.own run.dry (job_pairs c _ [] _ run.own run.runs)
        (ran_trail c test log after DeviceFault run)))
    of_last n failed log _ fits there passed (StopsTest.halted test is h) = TestEnd.no_memory
    of_last n failed log _ fits there passed (StopsTest.untold p between o run said other) =
        let clean = clean_on before log between (run_clean n failed log there)
        (run_passed c run.test log between _ run.run) (done_calm c run.test log between run.status run.run) in
        of_untold _ between o other (prints_comes before between clean _ after o said)
    of_last n failed log _ fits there passed (StopsTest.unmade same) = TestEnd.no_memory

    of_loaded : (o : Outcome) → HasPassed loaded after → TestsLoaded c t loaded after o → E o
    of_loaded _ passed (TestsLoaded.too_big o is said) =
        of_comes _ Refused loaded o (λ e. TestEnd.big t loaded loads is e)
        (says_comes before loaded (accepted_clean c.path before after t loaded loads) _ Refused after o said)
    of_loaded _ passed (TestsLoaded.tested failed log o fits there said) = of_counts failed log o fits there passed said
    of_loaded _ passed (TestsLoaded.stopped n failed log o fits there last) =
        of_last n failed log o fits there passed last
    of_loaded _ passed (TestsLoaded.no_memory same) = TestEnd.no_memory

  pub test_end : (o : Outcome) → TestsScript c before after o → E o
  test_end _ (TestsScript.loaded t log o loads rest) = of_loaded t log loads o (loaded_passed c t log after o rest) rest
  test_end _ (TestsScript.refused_for f g log o loads is said) =
      of_comes _ Refused log o (λ e. TestEnd.unloaded f g log loads is e)
      (refused_comes c.path before after f g log o is loads said)
  test_end _ (TestsScript.unread log o loads said) = of_device o (unread_comes c.path before after log o loads said)
  test_end _ (TestsScript.unloaded f loads) = TestEnd.no_memory

-- A script that is accepted, with tests that aren't too large, isn't refused, whatever is replied behind

module _ (path : List ℕ) (before : Log) where
  abbrev job : Job
  job = record { path = path; cpus = 1; budget = 0 }

  abbrev nothing : Preset
  nothing = record { settings = []; args = [] }

  abbrev set : ScriptTree → Result Preset AFault
  set s = Ok nothing

  -- too many instructions where a unit is too large
  abbrev many : Bool → ℕ
  many b = if b then MAX_CODE + 1 else 0

  abbrev size : ScriptTree → Preset → ℕ
  size s p = many (any_too_big s)

  abbrev so_accepted : ScriptTree → Accepted
  so_accepted s = record { script = s; preset = nothing }

  abbrev judged : ScriptTree → Bool → Result Accepted AFault
  judged s b = unless (if nat_le (many b) MAX_CODE then None else Some (fault.TooBig path)) (Ok (so_accepted s))

  judges : (t : TypedScript) (log : Log) (b : Bool) → is_any_too_big t ≡ b → Begun job set size before log (Ok t)
      → Leads (Steps job set size) (Reading []) before (opens_if job (judged (script_of t.script) b)) log
  judges t log b fits (Begun.read files program _ leads step is) =
      let e : accepted path set size program [] ≡ judged (script_of t.script) b =
      ap (λ (r : Result ScriptTree AFault). r >>= λ script. set script >>= λ preset. unless
      (too_big path set size script preset) (Ok (record { script = script; preset = preset }))) is
      ∙ ap (judged (script_of t.script)) fits in
      let P : Result Accepted AFault → Type 0 = λ x. Steps job set size (Reading files) (Goes (opens_if job x)) in
      Leads.goes (Reading files) (opens_if job (judged (script_of t.script) b)) log leads (subst P e step)

  runs : (t : TypedScript) (log : Log) → is_any_too_big t ≡ false → Loads path before log (Ok t)
      → Leads (Steps job set size) (Reading []) before (opens job (so_accepted (script_of t.script))) log
  runs t log fits l = judges t log false fits (begun job set size before log (Ok t) l)

  abbrev pub IsRefusedFor : AFault → Log → Type 0
  IsRefusedFor g log = Leads (Steps job set size) (Reading []) before (Refusing g) log

  pub refused_big : (t : TypedScript) (log : Log) → is_any_too_big t ≡ true → Loads path before log (Ok t)
      → IsRefusedFor (fault.TooBig path) log
  refused_big t log is l = judges t log true is (begun job set size before log (Ok t) l)

  refusing : (f : FrontFault) (g : AFault) (log : Log) → told f ≡ Some g → Begun job set size before log (Err f)
      → IsRefusedFor g log
  refusing f g log is (Begun.refused _ h same leads) =
      let eq : h ≡ g = let q = sym same ∙ is in cc q in
      subst (λ x. IsRefusedFor x log) eq leads
  refusing _ g log is (Begun.faulted leads) = let no = is in absurd (cc no)
  refusing _ g log is (Begun.halted halts) = let no = is in absurd (cc no)

  pub refused_told : (f : FrontFault) (g : AFault) (log : Log) → told f ≡ Some g → Loads path before log (Err f)
      → IsRefusedFor g log
  refused_told f g log is l = refusing f g log is (begun job set size before log (Err f) l)

  not_both : IsRefusedOrRun → (t : TypedScript) (g : AFault) (log rest log' rest' : Log) → is_any_too_big t ≡ false
      → Loads path before log (Ok t)
      → IsRefusedFor g log' → log ++ rest ≡ log' ++ rest' → ⊥
  not_both law t g log rest log' rest' fits l refusal same =
      law job set size before log' log rest' rest g _ _ refusal (runs t log fits l) (sym same)

-- The answer that is wanted

module _ (law : IsRefusedOrRun) (c : Call) (before after : Log) (clean : faults after ≡ faults before) where
  complete_by : (t : TypedScript) (log rest : Log) → Loads c.path before log (Ok t) → is_any_too_big t ≡ false
      → after ≡ log ++ rest
      → (IsTestSpent c before after → ⊥) → {o : Outcome} → TestEnd c before after o → (o ≡ NoMemory)
      ⊎ AreTested c before after o
  complete_by t log rest l fits grown left (TestEnd.counted t' loaded log' failed loads fits' there e passed) =
      inr (record {
        t = t';
        loaded = loaded;
        loads = loads;
        failed = failed;
        log = log';
        run = there;
        told = e;
        is = refl;
      })
  complete_by t log rest l fits grown left (TestEnd.spent t' test loaded log' n failed loads fits' there is run
      passed) =
      absurd (left (record {
        t = t';
        loaded = loaded;
        loads = loads;
        n = n;
        failed = failed;
        log = log';
        run = there;
        stops = StopsTest.spent test is run;
      }))
  complete_by t log rest l fits grown left (TestEnd.unloaded f g log' l' is e) =
      absurd (not_both c.path before law t g log rest log' _ fits l (refused_told c.path before f g log' is l')
      (sym grown ∙ e))
  complete_by t log rest l fits grown left (TestEnd.big t' log' l' is e) =
      absurd (not_both c.path before law t (fault.TooBig c.path) log rest log' _ fits l
      (refused_big c.path before t' log' is l') (sym grown ∙ e))
  complete_by t log rest l fits grown left (TestEnd.device f) = absurd (has_risen before after f clean)
  complete_by t log rest l fits grown left TestEnd.no_memory = inl refl

  pub tests_complete : (t : TypedScript) (log rest : Log) → Loads c.path before log (Ok t) → is_any_too_big t ≡ false
      → after ≡ log ++ rest
      → (IsTestSpent c before after → ⊥) → (o : Outcome) → TestsScript c before after o → (o ≡ NoMemory)
      ⊎ AreTested c before after o
  tests_complete t log rest l fits grown left o h =
      complete_by t log rest l fits grown left (test_end c before after o h)

  refuse_by : (g : AFault) (log rest : Log) → IsRefusedFor c.path before g log → after ≡ log ++ rest → {o : Outcome}
      → TestEnd c before after o → (o ≡ NoMemory) ⊎ (o ≡ Refused)
  refuse_by g log rest refusal grown (TestEnd.counted t' loaded log' failed loads fits there e passed) =
      absurd (not_both c.path before law t' g loaded passed.pairs log rest fits loads refusal (sym passed.grown
      ∙ grown))
  refuse_by g log rest refusal grown (TestEnd.spent t' test loaded log' n failed loads fits there is run passed) =
      absurd (not_both c.path before law t' g loaded passed.pairs log rest fits loads refusal (sym passed.grown
      ∙ grown))
  refuse_by g log rest refusal grown (TestEnd.unloaded f h log' l' is e) = inr refl
  refuse_by g log rest refusal grown (TestEnd.big t' log' l' is e) = inr refl
  refuse_by g log rest refusal grown (TestEnd.device f) = absurd (has_risen before after f clean)
  refuse_by g log rest refusal grown TestEnd.no_memory = inl refl

  pub tests_refuse : (f : FrontFault) (g : AFault) (log rest : Log) → Loads c.path before log (Err f) → told f ≡ Some g
      → after ≡ log ++ rest
      → (o : Outcome) → TestsScript c before after o → (o ≡ NoMemory) ⊎ (o ≡ Refused)
  tests_refuse f g log rest l is grown o h =
      refuse_by g log rest (refused_told c.path before f g log is l) grown (test_end c before after o h)

  pub tests_too_big : (t : TypedScript) (log rest : Log) → Loads c.path before log (Ok t) → is_any_too_big t ≡ true
      → after ≡ log ++ rest
      → (o : Outcome) → TestsScript c before after o → (o ≡ NoMemory) ⊎ (o ≡ Refused)
  tests_too_big t log rest l is grown o h = refuse_by (fault.TooBig c.path) log rest
      (refused_big c.path before t log is l) grown (test_end c before after o h)

-- What reached the outside

pub passes_only : (words : List (List ℕ)) (before after : Log) (o : Outcome) → Answers words before after o
    → HasPassedOnly words before after
passes_only words before after o a c (inl w) =
    let h : DriesScript (call_of c.cpus c.ticks c.path c.words) before after o =
    subst (λ x. DoesCommand x before after o) w a in
    dry_passed before after h.own h.dry
passes_only words before after o a c (inr w) =
    tests_passed (call_of c.cpus c.ticks c.path []) before after o (subst (λ x. DoesCommand x before after o) w.0 a)
