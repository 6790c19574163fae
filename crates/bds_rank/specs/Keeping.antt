-- What each move of a run keeps: a turn is that of a thread which is there and ready, and threads that go on are live.
use Rattle.std.specs.Prelude.{◌≡◌, ◌≢◌, ◌≤◌, ℕ, true, List, slice_get, Some, ⊤}
use Rattle.std.specs.List.{AllByRecursion}
use Rattle.bds_value.specs.declared.TheConstants.{MAX_RETRY}
use Rattle.bds_value.specs.declared.value.Stamp.{Stamp}
use Rattle.bds_value.specs.declared.value.Value.{Value}
use Rattle.bds_host.specs.declared.asks.Reply.{Reply}
use Rattle.bds_host.specs.declared.asks.Reply.TheVariants.{NoRoom}
use Rattle.bds_host.specs.Asks.{fits}
use Rattle.bds_rules.specs.declared.rule.Rule.{Rule}
use Rattle.bds_schedule.specs.Configuration.{Life, Ready, Waits, Closes, Ended, Thread, Configuration, Mode, at_point}
use Rattle.bds_schedule.specs.Configuration.{turn_of}
use Rattle.bds_schedule.specs.Moves.{move}
use Rattle.bds_schedule.specs.Requests.{Request, Declares, Spawns, ThreadAct, GoesOn, Needs, Stops, Quits, Finishes}
use Rattle.bds_schedule.specs.Stages.{Move}
use Rattle.bds_schedule.specs.Steps.{Goes, Asks, Ends}
use Rattle.bds_schedule.specs.Waiting.{is_ready_in}
use Rattle.bds_sim.specs.schedule.Agree.{IsGiven}
use Rattle.bds_sim.specs.Threads.{Parts}

module _ {S : Type 0} where
  -- a move keeps what holds of configurations, whatever fitting reply is given
  abbrev pub Keeps : (Configuration S → Type 0) → Move S → Type 0
  Keeps Holds (Goes d) = Holds d
  Keeps Holds (Asks ask next) = (reply : Reply) → fits ask reply ≡ true → reply ≢ NoRoom → Holds (next reply)
  Keeps Holds (Ends end) = ⊤

  -- a turn is that of a thread that is there and ready
  abbrev pub IsTurnOfReady : Configuration S → Type 0
  IsTurnOfReady c =
      (k : ℕ) (stamps : List Stamp) → c.mode ≡ turn_of k stamps
      → (t : Thread S) × (slice_get c.threads k ≡ Some t) × (is_ready_in c t.life ≡ true)

-- each move keeps that
abbrev pub TurnsAreOfReady : Type 0
TurnsAreOfReady =
    (files : List (List ℕ)) (image : Configuration Parts → List ℕ) (step : Parts → ThreadAct Parts)
    → (c : Configuration Parts) → IsTurnOfReady c → Keeps IsTurnOfReady (move files image step c)

-- each rule may be tried again 1,000 times at most
abbrev pub HaveFewRetries : List Rule → Type 0
HaveFewRetries rules = AllByRecursion (λ (r : Rule). r.retry ≤ MAX_RETRY) rules

-- where the run stops, no thread goes on
abbrev pub GoesOnIn : Mode → Type 0
GoesOnIn at_point = ⊤
GoesOnIn (turn_of k stamps) = ⊤
GoesOnIn _ = ⊥

-- of the states of threads that go on
module _ {S : Type 0} (Live : S → Type 0) where
  abbrev pub LivesOn : Life S → Type 0
  LivesOn (Ready s) = Live s
  LivesOn (Waits ids s) = Live s
  LivesOn (Closes ids s) = ⊤
  LivesOn Ended = ⊤

  -- a thread that is begun is live, and a rule may be tried again 1,000 times at most
  abbrev pub IsFit : Request S → Type 0
  IsFit (Spawns begins) = Live begins
  IsFit (Declares rule) = rule.retry ≤ MAX_RETRY
  IsFit _ = ⊤

  -- what a thread does next leaves it live, whatever it is given
  abbrev pub StaysLive : ThreadAct S → Type 0
  StaysLive (GoesOn tick s) = Live s
  StaysLive (Needs at request next) = IsFit request × ((us : List Value) → IsGiven request us → Live (next us))
  StaysLive (Stops at f) = ⊤
  StaysLive (Quits status) = ⊤
  StaysLive (Finishes s) = ⊤

  pub record AreLive (c : Configuration S) : Type 0 where
    pub threads : AllByRecursion (λ (t : Thread S). LivesOn t.life) c.threads
    pub rules : HaveFewRetries c.rules

  -- a turn is that of a ready thread; and as long as threads go on, all are live, and the rules may be tried again
  -- 1,000 times at most
  pub record IsSound (c : Configuration S) : Type 0 where
    pub turn : IsTurnOfReady c
    pub live : GoesOnIn c.mode → AreLive c
