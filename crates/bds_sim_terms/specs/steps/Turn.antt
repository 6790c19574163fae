-- The steps of a thread up to the first that leaves its turn.
use Rattle.std.specs.Prelude.{ℕ, zero, suc, true, false, List}
use Rattle.bds_value.specs.declared.value.At.{At}
use Rattle.bds_value.specs.declared.value.Value.{Value}
use Rattle.bds_value.specs.declared.faults.RunFault.{RunFault}
use Rattle.bds_meaning.specs.Acts.{Code}
use Rattle.bds_schedule.specs.Requests.{Request, ThreadAct, GoesOn, Needs, Stops, Quits, Finishes}
use Rattle.bds_meaning.specs.Step.{Function as Definition}
use Rattle.bds_meaning.specs.Threads.{thread_step}

-- where a thread's steps have led with so many ticks left: it is on its way, it needs something, it has failed at a node, it ends the program with
-- a status, its code has ended, or it has no tick left
pub data Turn : Type 0 where
  Going : Code → ℕ → Turn
  Needing : At → Request Code → (List Value → Code) → ℕ → Turn
  Failed : At → RunFault → ℕ → Turn
  Exited : ℕ → ℕ → Turn
  Finished : Code → ℕ → Turn
  Spent : Turn

abbrev pub turned : (Code → ℕ → Turn) → ℕ → ThreadAct Code → Turn
turned go left (GoesOn false c) = go c left
turned go zero (GoesOn true c) = Spent
turned go (suc left) (GoesOn true c) = go c left
turned go left (Needs at request next) = Needing at request next left
turned go left (Stops at fault) = Failed at fault left
turned go left (Quits status) = Exited status left
turned go left (Finishes c) = Finished c left

-- n steps, fewer where the thread leaves its turn
abbrev pub turn : List Definition → ℕ → Code → ℕ → Turn
turn program zero c left = Going c left
turn program (suc n) c left = turned (turn program n) left (thread_step program c)
