-- A run of the machine is one of the script of a call.
use Rattle.std.proofs.Common.{ℕ, ◌≡◌, ◌≤◌, ◌<◌, List, Result, Ok, Err, Some, None, sym, ap, subst}
use Rattle.std.specs.Prelude.{cond}
use Rattle.std.proofs.lemmas.Bool.{le-leb, lt-leb}
use Rattle.bds_value.specs.declared.TheConstants.{MAX_CODE}
use Rattle.bds_host.specs.Host.{Log}
use Rattle.bds_host.specs.declared.faults.Fault.{Fault as AFault}
use Rattle.bds_host.specs.declared.faults.Fault.TheVariants as fault
use Rattle.bds_tree.specs.StmtTree.{ScriptTree}
use Rattle.bds_code.specs.declared.unit.Unit.{Unit as CodeUnit}
use Rattle.bds_check_typing.specs.GivenValues.{set_by}
use Rattle.bds_check_typing.specs.Typed.{IsTypedWith}
use Rattle.bds_check.specs.declared.checking.TypedScript.{TypedScript}
use Rattle.bds_tree.specs.StmtView.{script_of}
use Rattle.bds_gen_unit.specs.Generated.{size_for, unit_for}
use Rattle.bds_meaning.specs.Begin.{Job, Running, Refusing, AtEnd, ran, Steps, IsOnWay, opens, opens_if}
use Rattle.bds_meaning.specs.Opening.{opening, program_of}
use Rattle.bds_meaning.specs.Refusals.{Accepted, unless}
use Rattle.bds_meaning.specs.Run.{Program, Conf, Moves, ComesTo, RunHalts}
use Rattle.bds_schedule.specs.Stages.{End, Done, Spent, DeviceFault}
use Rattle.bds_schedule.specs.Steps.{Leads, Halts}
use Rattle.bds_sim_terms.specs.Law.{Agreement}
use Rattle.bds_sim_code.specs.ScriptHere.{source_of}
use Rattle.bds_sim_code.specs.OpeningLaw.{UnitsRunAsScripts}
use Rattle.bds_state.specs.Changes.{IsOpening}
use Rattle.bds_state.specs.Parts.{Parts}
use Rattle.bds_state.specs.Valid.{IsValid}
use Rattle.bds_engine_parts.specs.Image.{image}
use Rattle.bds_engine_parts.specs.Run.{Runs}
use Rattle.bds_sim.specs.MachineRun as machine
use Rattle.bds_engine_parts.specs.Seen as seen
use Rattle.bds_engine_parts.proofs.WholeRuns.{ends_plainly, halts_plainly}
use Rattle.bds_engine_parts.specs.declared.stop.RunStop.{RunStop}
use Rattle.bds_engine_parts.specs.declared.stop.RunStop.TheVariants as run_stop
use Rattle.bds_app_run.specs.Job.{JobSteps, accepted_with, if_fits, job_of, preset_of}
use Rattle.bds_app_run.specs.declared.call.Call.{Call}
use Rattle.bds_app_run.specs.Ways.{Reaches, RunsSo, at_end, ending_of}
use Rattle.bds_app_run.specs.declared.ending.Ending.{Ending}
use Rattle.bds_app_run.specs.declared.stop.Stop.{Stop}

module _ (call : Call) (program : Program) (from : Conf) (before : Log) where
  runs_lead : (c : Conf) (after : Log) → Leads (Moves program) from before c after → Leads (JobSteps call) (Running program from) before (Running program c) after
  runs_lead c after Leads.here = Leads.here
  runs_lead c after (Leads.goes d _ log there step) = Leads.goes (Running program d) (Running program c) log (runs_lead d log there) (Steps.run_goes program d c step)
  runs_lead c after (Leads.asks d log _ ask next reply there step answered) =
      Leads.asks (Running program d) log after ask (λ r. Running program (next r)) reply (runs_lead d log there) (Steps.run_asks program d ask next step) answered

  run_ends : (end : End) (after : Log) → ComesTo program from before after end → Leads (JobSteps call) (Running program from) before (AtEnd (ran end)) after
  run_ends end after come = Leads.goes (Running program come.0) (AtEnd (ran end)) after (runs_lead come.0 after come.1) (Steps.run_ends program come.0 end come.2)

  run_halts : (after : Log) → RunHalts program from before after → Halts (JobSteps call) IsOnWay (Running program from) before after
  run_halts after (Halts.halts_at c on there) = Halts.halts_at (Running program c) on (runs_lead c after there)
  run_halts after (Halts.halts_asking c log ask next there step e) = Halts.halts_asking (Running program c) log ask (λ r. Running program (next r)) (runs_lead c log there) (Steps.run_asks program c ask next step) e

-- the run of the state with which a typed script's unit begins
module _ (call : Call) (t : TypedScript) (before after : Log) where
  abbrev Unit_of : CodeUnit
  Unit_of = unit_for t

  abbrev s : ScriptTree
  s = script_of t.script

  abbrev From : Conf
  From = opening call.path call.cpus call.ticks (set_by t.settings) t.args s

  reaches_end : (p : Parts) → Agreement (source_of s Unit_of) Unit_of s.files (image Unit_of) From (seen.opening p call.cpus call.ticks) → p.unit ≡ Unit_of → (r : Result ℕ RunStop) → Runs p call.cpus call.ticks before after r
      → Reaches call (Running (program_of s) From) before after at_end (ending_of r)
  reaches_end p agree is (Ok status) h =
      run_ends call (program_of s) From before (Done status) after (agree.runs before after (Done status) (subst (λ (u : CodeUnit). machine.ComesTo u u.files (image u) (seen.opening p call.cpus call.ticks) before after (Done status)) is (ends_plainly p.unit (seen.opening p call.cpus call.ticks) before after (Done status) h)))
  reaches_end p agree is (Err run_stop.Device) h =
      run_ends call (program_of s) From before DeviceFault after (agree.runs before after DeviceFault (subst (λ (u : CodeUnit). machine.ComesTo u u.files (image u) (seen.opening p call.cpus call.ticks) before after DeviceFault) is (ends_plainly p.unit (seen.opening p call.cpus call.ticks) before after DeviceFault h)))
  reaches_end p agree is (Err run_stop.Ticks) h =
      run_ends call (program_of s) From before Spent after (agree.runs before after Spent (subst (λ (u : CodeUnit). machine.ComesTo u u.files (image u) (seen.opening p call.cpus call.ticks) before after Spent) is (ends_plainly p.unit (seen.opening p call.cpus call.ticks) before after Spent h)))
  reaches_end p agree is (Err run_stop.NoMemory) h =
      run_halts call (program_of s) From before after (agree.halts before after (subst (λ (u : CodeUnit). machine.RunHalts u u.files (image u) (seen.opening p call.cpus call.ticks) before after) is (halts_plainly p.unit (seen.opening p call.cpus call.ticks) before after h)))

  begun_reaches : UnitsRunAsScripts → IsTypedWith s (set_by t.settings) t.args → (u : CodeUnit) → u ≡ Unit_of → (path : List ℕ) → path ≡ call.path → (p : Parts) → IsOpening u path p → IsValid p → (r : Result ℕ RunStop)
      → Runs p call.cpus call.ticks before after r → Reaches call (opens (job_of call) (accepted_with t)) before after at_end (ending_of r)
  begun_reaches law typed u is path there p begun valid r h =
      let begun' : IsOpening Unit_of call.path p = subst (λ (u : CodeUnit). IsOpening u call.path p) is (subst (λ (x : List ℕ). IsOpening u x p) there begun) in
      let agree = law (set_by t.settings) t.args s typed call.path call.cpus call.ticks p begun' valid in
      reaches_end p agree (ap (λ (p : Parts). p.unit) begun'.parts) r h

  pub begun_ends : UnitsRunAsScripts → IsTypedWith s (set_by t.settings) t.args → (u : CodeUnit) → u ≡ Unit_of → (path : List ℕ) → path ≡ call.path → (p : Parts) → IsOpening u path p → (r : Result Ending Stop)
      → RunsSo call.cpus call.ticks p before after r → Reaches call (opens (job_of call) (accepted_with t)) before after at_end r
  begun_ends law typed u is path there p begun r h =
      subst (λ x. Reaches call (opens (job_of call) (accepted_with t)) before after at_end x) (sym h.1.1.1) (begun_reaches law typed u is path there p begun h.0 h.1.0 h.1.1.0)

-- What is run of a typed script

pub opens_on_way : (job : Job) (r : Result Accepted AFault) → IsOnWay (opens_if job r)
opens_on_way job (Ok r) = tt
opens_on_way job (Err f) = tt

module _ (call : Call) (t : TypedScript) where
  abbrev size : ℕ
  size = size_for t

  pub fits_run : size_for t ≤ MAX_CODE → if_fits call (script_of t.script) (preset_of t) ≡ Ok (accepted_with t)
  fits_run h = ap (λ b. unless (cond b None (Some (fault.TooBig call.path))) (Ok (accepted_with t))) (le-leb (size_for t) MAX_CODE h)

  pub fits_opens : size_for t ≤ MAX_CODE → opens_if (job_of call) (if_fits call (script_of t.script) (preset_of t)) ≡ opens (job_of call) (accepted_with t)
  fits_opens h = ap (λ r. opens_if (job_of call) r) (fits_run h)

  pub too_large_refuses : MAX_CODE < size_for t → opens_if (job_of call) (if_fits call (script_of t.script) (preset_of t)) ≡ Refusing (fault.TooBig call.path)
  too_large_refuses h = ap (λ b. opens_if (job_of call) (unless (cond b None (Some (fault.TooBig call.path))) (Ok (accepted_with t)))) (lt-leb (size_for t) MAX_CODE h)
