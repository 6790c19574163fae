-- Runs of the machine: configurations of its threads, with one row as a step.
use Rattle.std.specs.Prelude.{ℕ, List}
use Rattle.bds_host.specs.Host.{Log}
use Rattle.bds_code.specs.declared.unit.Unit.{Unit as CodeUnit}
use Rattle.bds_schedule.specs.Configuration.{Configuration, IsOnWay}
use Rattle.bds_schedule.specs.Stages.{End}
use Rattle.bds_schedule.specs.Steps.{Step, Ends, Leads, Halts}
use Rattle.bds_sim.specs.Threads.{Parts}
use Rattle.bds_sim.specs.schedule.Law.{Its}
use Rattle.bds_sim.specs.Row.{row_step}

abbrev pub State : Type 0
State = Configuration Parts

-- the paths of the unit's files, and the spelling of a state
module _ (u : CodeUnit) (files : List (List ℕ)) (image : State → List ℕ) where
  abbrev pub Moves : State → Step State End → Type 0
  Moves d s = Its files image (row_step u) d s

  -- there was no memory before the end of a run
  abbrev pub RunHalts : State → Log → Log → Type 0
  RunHalts from before after = Halts Moves (λ d. IsOnWay d.mode) from before after

  -- the run's asks with their replies were added to the log, and the run came to this end
  abbrev pub ComesTo : State → Log → Log → End → Type 0
  ComesTo from before after end = (d : State) × Leads Moves from before d after × Moves d (Ends end)
