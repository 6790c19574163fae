-- What valid threads of a verified unit keep.
use Rattle.std.proofs.Common.{◌≡◌, ◌≤◌, ℕ, true, List, ◌∷◌, length, Some, IsSome, slice_get}
use Rattle.bds_value.specs.declared.TheConstants.{MAX_ITEMS}
use Rattle.bds_value.specs.declared.value.Value.{Value}
use Rattle.bds_value.specs.Readers.{items_in}
use Rattle.bds_code.specs.declared.unit.Unit.{Unit as CodeUnit}
use Rattle.bds_code_frames.specs.Stack.{Call as Running, Stack}
use Rattle.bds_machine.specs.declared.point.Point.{Point}
use Rattle.bds_machine.specs.declared.point.Point.TheVariants as point
use Rattle.bds_machine.specs.Answers.{is_awaited}
use Rattle.bds_machine.specs.Calls.{On, Leaves}
use Rattle.bds_machine.specs.Table.{step as machine_step}
use Rattle.bds_sim.specs.Threads.{Live}
use Rattle.bds_sim.specs.Threads.{Parts, answered as with_values}
use Rattle.bds_sim.specs.schedule.Agree.{IsGiven}
use Rattle.bds_sim.specs.Row.{begins, request_of}

-- a valid thread has a next row, and stays valid; what its slots hold is no longer than a list may be
pub record Keeps (u : CodeUnit) : Type 0 where
  pub moves : (m : Parts) (t : ℕ) → Live u m → IsSome (machine_step u m.globals m.calls t)
  pub stays : (m m' : Parts) (t t' : ℕ) → Live u m → machine_step u m.globals m.calls t ≡ Some (On m'.globals m'.calls t') → Live u m'
  pub short : (m : Parts) (c : Running) (below : Stack) (i : ℕ) (v : Value) → Live u m → m.calls ≡ c ∷ below → slice_get c.slots i ≡ Some v → length (items_in v) ≤ MAX_ITEMS

-- what is wanted of a valid thread that leaves the machine: a thread that it begins is valid, and so is the thread behind an answer
module _ (u : CodeUnit) (Live : Parts → Type 0) where
  pub record StaysLive : Type 0 where
    pub begun : (m : Parts) (n : ℕ) (args g : List Value) (s : Stack) → Live m → machine_step u m.globals m.calls 1 ≡ Some (Leaves (point.Spawn n args) g s 1) → Live (begins u g n args)
    pub answered : (m : Parts) (p : Point) (g : List Value) (s : Stack) (us : List Value) (s' : Stack)
        → Live m → is_awaited p ≡ true → machine_step u m.globals m.calls 1 ≡ Some (Leaves p g s 1) → IsGiven (request_of u g s p) us → with_values us s ≡ Some s' → Live (record { globals = g; calls = s' })
