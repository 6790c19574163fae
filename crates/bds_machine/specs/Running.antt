-- Rows one after the other, up to the first that leaves the machine.
use Rattle.std.specs.Prelude.{ℕ, zero, suc, List, Option, Some, None, ◌≡◌}
use Rattle.bds_value.specs.declared.value.Value.{Value}
use Rattle.bds_value.specs.Options.{◌>>=◌}
use Rattle.bds_code.specs.declared.unit.Unit.{Unit as CodeUnit}
use Rattle.bds_code_frames.specs.Stack.{Stack, stack}
use Rattle.bds_code_frames.specs.declared.thread.Thread.{Thread}
use Rattle.bds_machine.specs.declared.point.Point.{Point}
use Rattle.bds_machine.specs.declared.point.Point.TheVariants as point
use Rattle.bds_machine.specs.Calls.{Step, On, Leaves, Ends}
use Rattle.bds_machine.specs.Table.{step}

abbrev pub further : Step → (List Value → Stack → ℕ → Option Step) → Option Step
further (On g s t) go = go g s t
further (Leaves p g s t) go = Some (Leaves p g s t)
further (Ends p t) go = Some (Ends p t)

-- so many rows, fewer where the thread leaves the machine
abbrev pub rows : CodeUnit → ℕ → List Value → Stack → ℕ → Option Step
rows u zero g s t = Some (On g s t)
rows u (suc n) g s t = step u g s t >>= λ x. further x (rows u n)

-- the step that ends at a point with these globals, frames and ticks; an end of the program leaves no globals and frames
abbrev pub left_at : Point → List Value → Stack → ℕ → Step
left_at (point.Stop e at) g s t = Ends (point.Stop e at) t
left_at (point.Exit code) g s t = Ends (point.Exit code) t
left_at p g s t = Leaves p g s t

-- the step that goes on, or ends at a point
abbrev pub stepped : Option Point → List Value → Stack → ℕ → Step
stepped None g s t = On g s t
stepped (Some p) g s t = left_at p g s t

-- rows, one or more, lead on or to a point
abbrev pub Turned : CodeUnit → List Value → Stack → ℕ → Option Point → List Value → Stack → ℕ → Type 0
Turned u g s t p g' s' t' = (k : ℕ) × (rows u (suc k) g s t ≡ Some (stepped p g' s' t'))

-- from one thread and its ticks rows lead to a point and to another
pub record ComesTo (u : CodeUnit) (from : Thread) (before : ℕ) (p : Point) (to : Thread) (after : ℕ) : Type 0 where
  pub count : ℕ
  pub run : rows u count from.globals (stack from.frames) before ≡ Some (left_at p to.globals (stack to.frames) after)
  pub parent : to.parent ≡ from.parent
  pub status : to.status ≡ from.status
