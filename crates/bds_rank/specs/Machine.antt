-- Runs of the machine: what each row leaves before its thread, and what steps leave of the whole run.
use Rattle.std.specs.Prelude.{◌<◌, ℕ, List, ◌∷◌, ⊤}
use Rattle.bds_host.specs.declared.asks.Ask.{Ask}
use Rattle.bds_host.specs.declared.asks.Reply.{Reply}
use Rattle.bds_host.specs.Host.{Log, Answered}
use Rattle.bds_code.specs.declared.unit.Unit.{Unit as CodeUnit}
use Rattle.bds_verify.specs.Verified.{VerifiedUnit}
use Rattle.bds_machine.specs.Weight.{all_ahead}
use Rattle.bds_schedule.specs.Configuration.{Mode, turn_of}
use Rattle.bds_schedule.specs.Steps.{Step, Goes, Asks, Leads}
use Rattle.bds_sim.specs.Threads.{Live}
use Rattle.bds_sim.specs.Threads.{Parts}
use Rattle.bds_sim.specs.MachineRun.{State, Moves}
use Rattle.bds_sim.specs.Row.{row_step}
use Rattle.bds_rank.specs.Keeping.{IsSound, StaysLive}
use Rattle.bds_rank.specs.Left.{left}
use Rattle.bds_rank.specs.Lessening.{Falls}

-- how far the code of a thread may go without a tick
abbrev pub code_left : CodeUnit → Parts → ℕ
code_left u m = all_ahead u m.calls

-- what a row leaves: less before its thread, or the thread has used a tick; and the thread is live
pub record RowFalls (u : CodeUnit) (m : Parts) : Type 0 where
  pub less : Falls (code_left u) m (row_step u m)
  pub live : StaysLive (Live u) (row_step u m)

-- so does each row of a live thread of a verified unit
abbrev pub RowsFall : Type 0
RowsFall = (u : CodeUnit) → VerifiedUnit u → (m : Parts) → Live u m → RowFalls u m

-- no stamp is asked for in the middle of a step
abbrev pub HasNoStamps : Mode → Type 0
HasNoStamps (turn_of k (x ∷ xs)) = ⊥
HasNoStamps _ = ⊤

-- steps lead on from one state and log to another, one step at least
pub data LeadsOn {S E : Type 0} (Steps : S → Step S E → Type 0) (from : S) (before : Log) : S → Log → Type 0 where
  goes : (s t : S) (log : Log) → Leads Steps from before s log → Steps s (Goes t) → LeadsOn Steps from before t log
  asks : (s : S) (log after : Log) (ask : Ask) (next : Reply → S) (reply : Reply) → Leads Steps from before s log
      → Steps s (Asks ask next) → Answered log after ask reply → LeadsOn Steps from before (next reply) after

-- wherever steps lead from a sound state, the state is sound
abbrev pub RunsStaySound : Type 0
RunsStaySound =
    (u : CodeUnit) (files : List (List ℕ)) (image : State → List ℕ) → VerifiedUnit u → (d : State) → IsSound (Live u) d
    → (before after : Log) (d' : State) → Leads (Moves u files image) d before d' after → IsSound (Live u) d'

-- and where they have led on, less of the run is left
abbrev pub RunsLessen : Type 0
RunsLessen =
    (u : CodeUnit) (files : List (List ℕ)) (image : State → List ℕ) → VerifiedUnit u → (d : State) → IsSound (Live u) d
    → (before after : Log) (d' : State) → LeadsOn (Moves u files image) d before d' after → HasNoStamps d'.mode
    → left (code_left u) d' < left (code_left u) d
