-- A saved state: what the read of its file shows.
use Rattle.std.specs.Prelude.{◌⊎◌, ℕ, List, Result}
use Rattle.bds_host.specs.declared.asks.Ask.TheVariants.{Read}
use Rattle.bds_host.specs.declared.asks.Reply.TheVariants.{Bytes, Missing}
use Rattle.bds_host.specs.declared.faults.Fault.{Fault}
use Rattle.bds_host.specs.declared.faults.Fault.TheVariants as fault
use Rattle.bds_host.specs.Host.{Log, Answered, FoundNoRoom}
use Rattle.bds_state.specs.Parts.{Parts}
use Rattle.bds_ckpt.specs.Loading.{Loadable}
use Rattle.bds_engine_parts.specs.Seen.{revived_state}
use Rattle.bds_engine_parts.specs.Run.{Runs}
use Rattle.bds_engine_parts.specs.declared.stop.RunStop.{RunStop}

-- the file of a path was read, and its bytes are those of this state
pub record HoldsState (path : List ℕ) (s : Parts) (before after : Log) : Type 0 where
  pub bytes : List ℕ
  pub read : Answered before after (Read path) (Bytes bytes)
  pub loadable : Loadable bytes s

-- HoldsNone path before after fault: it was read, and holds no state, which is told by this fault
pub data HoldsNone (path : List ℕ) (before after : Log) : Fault → Type 0 where
  missing : Answered before after (Read path) Missing → HoldsNone path before after (fault.Missing path)
  not_loadable : (bytes : List ℕ) → Answered before after (Read path) (Bytes bytes) → ((s : Parts) → Loadable bytes s → ⊥) → HoldsNone path before after (fault.NotLoadable path)

-- there was no memory to read it, or for its state
abbrev pub IsUnloaded : List ℕ → Log → Log → Type 0
IsUnloaded path before after = FoundNoRoom before after (Read path) ⊎ ((bytes : List ℕ) × Answered before after (Read path) (Bytes bytes))

-- what goes on from a state of a file, with so many processors and ticks: its run, from a point on
abbrev pub GoesOn : ℕ → ℕ → Parts → Log → Log → Result ℕ RunStop → Type 0
GoesOn cpus budget s before after end = Runs (revived_state s) cpus budget before after end
