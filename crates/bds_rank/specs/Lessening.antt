-- Each move of a run leaves less of it, but for a stamp that is asked for.
use Rattle.std.specs.Prelude.{◌≡◌, ◌≢◌, ◌⊎◌, ◌≤◌, ◌<◌, ℕ, ◌+◌, true, false, List, [], ◌∷◌, ◌++◌, slice_get, Some, ⊤}
use Rattle.bds_value.specs.declared.TheConstants.{MAX_RETRY}
use Rattle.bds_value.specs.declared.value.Stamp.{Stamp}
use Rattle.bds_value.specs.declared.value.Value.{Value}
use Rattle.bds_host.specs.declared.asks.Reply.{Reply}
use Rattle.bds_host.specs.declared.asks.Reply.TheVariants.{NoRoom}
use Rattle.bds_host.specs.Asks.{fits}
use Rattle.bds_goal.specs.Needs.{rule_at}
use Rattle.bds_schedule.specs.Configuration.{Ready, Thread, Configuration, Mode, turn_of, in_mode}
use Rattle.bds_schedule.specs.Moves.{move}
use Rattle.bds_schedule.specs.Requests.{Request, MakesTask, Spawns, ThreadAct, GoesOn, Needs, Stops, Quits, Finishes}
use Rattle.bds_schedule.specs.Stages.{Move}
use Rattle.bds_schedule.specs.Steps.{Goes, Asks, Ends}
use Rattle.bds_schedule.specs.Turns.{taken}
use Rattle.bds_sim.specs.Threads.{Parts}
use Rattle.bds_rank.specs.Keeping.{IsTurnOfReady}
use Rattle.bds_rank.specs.Left.{left}

module _ {S : Type 0} (weight : S → ℕ) where
  -- a thread that is begun has no more than 2^25 before it, and a task may be tried again 1,000 times at most
  abbrev pub IsSmall : Request S → Type 0
  IsSmall (Spawns begins) = weight begins ≤ 33554432
  IsSmall (MakesTask task) = task.retry ≤ MAX_RETRY
  IsSmall _ = ⊤

  -- what a thread does next leaves less before it; a tick may add to that
  abbrev pub Falls : S → ThreadAct S → Type 0
  Falls s (GoesOn false t) = weight t < weight s
  Falls s (GoesOn true t) = weight t < weight s + 33554432
  Falls s (Needs at request next) = IsSmall request × ((us : List Value) → weight (next us) < weight s)
  Falls s (Stops at f) = ⊤
  Falls s (Quits status) = ⊤
  Falls s (Finishes t) = ⊤

  -- the turn has one stamp more
  pub record HasStampMore (c d : Configuration S) : Type 0 where
    pub thread : ℕ
    pub stamps : List Stamp
    pub stamp : Stamp
    pub turn : c.mode ≡ turn_of thread stamps
    pub behind : d ≡ in_mode (turn_of thread (stamps ++ stamp ∷ [])) c

  abbrev pub Lessens : Configuration S → Move S → Type 0
  Lessens c (Goes d) = left weight d < left weight c
  Lessens c (Asks ask next) =
      (reply : Reply) → fits ask reply ≡ true → reply ≢ NoRoom
      → (left weight (next reply) < left weight c) ⊎ HasStampMore c (next reply)
  Lessens c (Ends end) = ⊤

-- it is no thread's turn
abbrev pub IsNoTurn : Mode → Type 0
IsNoTurn (turn_of k stamps) = ⊥
IsNoTurn _ = ⊤

-- where it is no thread's turn, whatever the threads are
abbrev pub PointsLessen : Type 0
PointsLessen =
    (weight : Parts → ℕ) (files : List (List ℕ)) (image : Configuration Parts → List ℕ) (step : Parts → ThreadAct Parts)
    → (c : Configuration Parts) → IsNoTurn c.mode → Lessens weight c (move files image step c)

-- in the turn of a ready thread of the machine
abbrev pub TurnsLessen : Type 0
TurnsLessen =
    (weight : Parts → ℕ) (files : List (List ℕ)) (image : Configuration Parts → List ℕ) (step : Parts → ThreadAct Parts)
    → (k : ℕ) (stamps : List Stamp) (c : Configuration Parts) → c.mode ≡ turn_of k stamps → (t : Thread Parts)
    → slice_get c.threads k ≡ Some t → (s : Parts) → t.life ≡ Ready s
    → ((n : ℕ) → (rule_at c.rules n).retry ≤ MAX_RETRY)
    → Falls weight s (step s) → Lessens weight c (taken files image step k stamps c (step s))

-- each move leaves less of the run, but for a stamp that is asked for
abbrev pub MovesLessen : Type 0
MovesLessen =
    (weight : Parts → ℕ) (files : List (List ℕ)) (image : Configuration Parts → List ℕ) (step : Parts → ThreadAct Parts)
    → (c : Configuration Parts) → IsTurnOfReady c → ((n : ℕ) → (rule_at c.rules n).retry ≤ MAX_RETRY)
    → ((k : ℕ) (t : Thread Parts) (s : Parts) → slice_get c.threads k ≡ Some t → t.life ≡ Ready s → Falls weight s
    (step s))
    → Lessens weight c (move files image step c)
