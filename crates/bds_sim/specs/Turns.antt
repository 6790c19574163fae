-- A call that runs a thread to a point, as steps of a run.
use Rattle.std.specs.Prelude.{◌≡◌, ℕ, ◌-◌, ◌≤◌, List, [], Some, slice_get, ⊤}
use Rattle.bds_value.specs.declared.value.Value.{Value}
use Rattle.bds_host.specs.Host.{Log}
use Rattle.bds_code.specs.declared.unit.Unit.{Unit as CodeUnit}
use Rattle.bds_code_frames.specs.Stack.{Stack}
use Rattle.bds_machine.specs.declared.point.Point.{Point}
use Rattle.bds_machine.specs.declared.point.Point.TheVariants as point
use Rattle.bds_machine.specs.Calls.{Step, On, Leaves, Ends}
use Rattle.bds_machine.specs.Running.{rows}
use Rattle.bds_verify.specs.Verified.{VerifiedUnit}
use Rattle.bds_schedule.specs.Configuration.{Ready, turn_of, with_life_from}
use Rattle.bds_schedule.specs.Stages.{Spent}
use Rattle.bds_schedule.specs.Steps.{Leads}
use Rattle.bds_schedule.specs.Steps.{Ends as Over}
use Rattle.bds_schedule.specs.Turns.{taken}
use Rattle.bds_sim.specs.Threads.{Live}
use Rattle.bds_sim.specs.Threads.{Parts}
use Rattle.bds_sim.specs.MachineRun.{State, Moves}
use Rattle.bds_sim.specs.Row.{left as left_so, ended, row_step}

abbrev pub HasLeft : Step → Type 0
HasLeft (On g s t) = ⊥
HasLeft _ = ⊤

-- a point that is no want of ticks
abbrev pub IsWaiting : Point → Type 0
IsWaiting point.Spent = ⊥
IsWaiting _ = ⊤

module _ (u : CodeUnit) (files : List (List ℕ)) (image : State → List ℕ) where
  -- what the run does next where a call has ended so
  pub data IsNext (k : ℕ) (d : State) : Step → Type 0 where
    leaves : (p : Point) (g : List Value) (s : Stack) (left : ℕ) → IsWaiting p → left ≡ d.budget - d.used → Moves u files image d (taken files image (row_step u) k [] d (left_so u p g s)) → IsNext k d (Leaves p g s left)
    ends : (p : Point) (left : ℕ) → Moves u files image d (taken files image (row_step u) k [] d (ended p)) → IsNext k d (Ends p left)
    spent : (g : List Value) (s : Stack) → Moves u files image d (Over Spent) → IsNext k d (Leaves point.Spent g s 0)

  -- the state with so many ticks used and with thread k there
  abbrev pub reached : ℕ → State → ℕ → Parts → State
  reached k d used m = record { path = d.path; cpus = d.cpus; budget = d.budget; used = used; threads = with_life_from 0 k (Ready m) d.threads; tasks = d.tasks; rules = d.rules; mode = turn_of k [] }

  -- steps without an ask lead to where the run does what the call tells
  pub record IsCalled (k : ℕ) (d : State) (x : Step) : Type 0 where
    pub thread : Parts
    pub used : ℕ
    pub room : d.used ≤ d.budget → used ≤ d.budget
    pub leads : (from : State) (before log : Log) → Leads (Moves u files image) from before d log → Leads (Moves u files image) from before (reached k d used thread) log
    pub does : IsNext k (reached k d used thread) x

  abbrev pub CallsAreRuns : Type 0
  CallsAreRuns = VerifiedUnit u → (k parent : ℕ) → (d : State) → (m : Parts) → d.mode ≡ turn_of k [] → slice_get d.threads k ≡ Some (record { parent = parent; life = Ready m }) → Live u m
      → (n : ℕ) → (x : Step) → HasLeft x → rows u n m.globals m.calls (d.budget - d.used) ≡ Some x → IsCalled k d x
