-- Runs of the machine in which each save is one of a whole state.
use Rattle.std.specs.Prelude.{◌≡◌, ℕ, List, ⊤}
use Rattle.bds_host.specs.declared.asks.Ask.TheVariants.{Save}
use Rattle.bds_host.specs.declared.asks.Reply.TheVariants.{Done}
use Rattle.bds_host.specs.Host.{Log}
use Rattle.bds_code.specs.declared.unit.Unit.{Unit as CodeUnit}
use Rattle.bds_ckpt.specs.Loading.{Loadable}
use Rattle.bds_schedule.specs.Configuration.{Configuration, IsOnWay}
use Rattle.bds_schedule.specs.Stages.{End}
use Rattle.bds_schedule.specs.Steps.{Step, Asks, Ends, Leads, Halts}
use Rattle.bds_sim.specs.MachineRun.{State}
use Rattle.bds_sim.specs.MachineRun as machine
use Rattle.bds_state.specs.Parts.{Parts}
use Rattle.bds_engine_parts.specs.Image.{image}
use Rattle.bds_engine_parts.specs.Seen.{seen}

-- a state as the run goes on with it: processors, ticks and mode are those of a configuration
abbrev pub seen_in : {S : Type 0} → Configuration S → Parts → State
seen_in c s = seen s c.cpus c.budget c.used c.mode

-- the bytes are those of a state of the unit, and behind the save the run goes on with that state
pub record SavesState (u : CodeUnit) (bytes : List ℕ) (behind : State) : Type 0 where
  pub state : Parts
  pub unit : state.unit ≡ u
  pub loads : Loadable bytes state
  pub is : behind ≡ seen_in behind state

module _ (u : CodeUnit) where
  -- what a step saves, if it saves
  abbrev pub SavesWhole : Step State End → Type 0
  SavesWhole (Asks (Save path bytes) next) = SavesState u bytes (next Done)
  SavesWhole step = ⊤

  -- a step of the machine, which saves nothing but whole states
  abbrev pub Moves : State → Step State End → Type 0
  Moves d step = machine.Moves u u.files (image u) d step × SavesWhole step

  -- the run's asks with their replies were added to the log, and the run came to this end
  abbrev pub RunEnds : State → Log → Log → End → Type 0
  RunEnds from before after end = (d : State) × Leads Moves from before d after × machine.Moves u u.files (image u) d (Ends end)

  -- there was no memory before the end of a run
  abbrev pub RunHalts : State → Log → Log → Type 0
  RunHalts from before after = Halts Moves (λ d. IsOnWay d.mode) from before after
