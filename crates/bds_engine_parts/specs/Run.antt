-- What the answer of a run says.
use Rattle.std.specs.Prelude.{◌≡◌, ◌≢◌, ℕ, [], ◌∷◌, ◌++◌, Result, Ok, Err}
use Rattle.bds_host.specs.declared.asks.Ask.{Ask}
use Rattle.bds_host.specs.declared.asks.Ask.TheVariants.{Err as Tells}
use Rattle.bds_host.specs.declared.asks.Reply.{Reply}
use Rattle.bds_host.specs.declared.asks.Reply.TheVariants.{Fault, NoRoom}
use Rattle.bds_host.specs.declared.faults.Fault.TheVariants.{Device as DeviceFails}
use Rattle.bds_host.specs.Host.{Log, faults}
use Rattle.bds_host.specs.Message.{message_of}
use Rattle.bds_schedule.specs.Stages.{End, Done, Spent, DeviceFault}
use Rattle.bds_state.specs.Parts.{Parts}
use Rattle.bds_engine_parts.specs.Saving.{RunEnds, RunHalts}
use Rattle.bds_engine_parts.specs.Seen.{opening}
use Rattle.bds_engine_parts.specs.declared.stop.RunStop.{RunStop}
use Rattle.bds_engine_parts.specs.declared.stop.RunStop.TheVariants.{Device, Ticks, NoMemory}

-- the machine's run of a state with so many processors and ticks came to an end, and these asks with their replies were added to the log. What it saved are whole states
abbrev pub ComesTo : Parts → ℕ → ℕ → Log → Log → End → Type 0
ComesTo s cpus budget before after end = RunEnds s.unit (opening s cpus budget) before after end

-- done with a status; or stopped by a fault of the device, by its budget, or by want of memory, which alone may come anywhere
abbrev pub Runs : Parts → ℕ → ℕ → Log → Log → Result ℕ RunStop → Type 0
Runs s cpus budget before after (Ok status) = ComesTo s cpus budget before after (Done status)
Runs s cpus budget before after (Err Device) = ComesTo s cpus budget before after DeviceFault
Runs s cpus budget before after (Err Ticks) = ComesTo s cpus budget before after Spent
Runs s cpus budget before after (Err NoMemory) = RunHalts s.unit (opening s cpus budget) before after

-- a fault of the device is the last reply but one, and the only one before that; behind it the fault is told
pub record FaultIsTold (before after : Log) : Type 0 where
  pub pairs : Log
  pub ask : Ask
  pub reply : Reply
  pub grown : after ≡ before ++ (pairs ++ (ask, Fault) ∷ (Tells (message_of DeviceFails), reply) ∷ [])
  pub clean : faults pairs ≡ 0
  -- there was room for that
  pub room : reply ≢ NoRoom

-- the replies determine the end; it is a fault of the device exactly where one of them is
pub record Causes (s : Parts) (cpus budget : ℕ) (before after : Log) : Type 0 where
  pub one : (e e' : End) → ComesTo s cpus budget before after e → ComesTo s cpus budget before after e' → e ≡ e'
  pub told : ComesTo s cpus budget before after DeviceFault → FaultIsTold before after
  pub clean : (e : End) → ComesTo s cpus budget before after e → e ≢ DeviceFault → faults after ≡ faults before
