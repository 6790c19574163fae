-- A configuration has one next step: only the bytes of a saved state are open.
use Rattle.std.proofs.Common.{ℕ, List, true, false, Option, Some, refl, None}
use Rattle.std.specs.Prelude.{slice_get}
use Rattle.bds_value.specs.declared.value.At.{At}
use Rattle.bds_value.specs.declared.value.Stamp.{Stamp}
use Rattle.bds_value.specs.declared.value.Value.{Value}
use Rattle.bds_host.specs.declared.asks.Ask.{Ask}
use Rattle.bds_host.specs.declared.asks.Ask.TheVariants as ask
use Rattle.bds_schedule.specs.Configuration.{Life, Ready, Waits, Closes, Thread, Configuration, Mode, turn_of, stopping, done, Ended, at_point, saving, faulted, fault_told}
use Rattle.bds_schedule.specs.Determined.{IsSameAsk, IsSameStep}
use Rattle.bds_schedule.specs.Moves.{move, move_in}
use Rattle.bds_schedule.specs.Requests.{Request, Contacts, Inspects, Compares, MakesTask, Declares, Achieves, Spawns, AwaitsIds, AwaitsAll, Saves, ThreadAct, GoesOn, Needs, Stops, Quits, Finishes}
use Rattle.bds_schedule.specs.Stages.{Move}
use Rattle.bds_schedule.specs.Steps.{Goes, Asks, Ends}
use Rattle.bds_schedule.specs.Turns.{requested, taken, turn_in, turn_at}

pub same_ask : (a : Ask) → IsSameAsk a a
same_ask (ask.Read path) = refl
same_ask (ask.Stamp path) = refl
same_ask (ask.Write path text) = refl
same_ask (ask.Remove path) = refl
same_ask (ask.Out text) = refl
same_ask (ask.Err text) = refl
same_ask (ask.Sys command) = refl
same_ask (ask.Start task attempt command) = refl
same_ask (ask.Next ready running) = refl
same_ask (ask.Save path image) = refl

module _ {S : Type 0} where
  same_step : (s : Move S) → IsSameStep s s
  same_step (Goes c) = refl
  same_step (Asks a next) = (same_ask a, λ reply. refl)
  same_step (Ends e) = refl

  module _ (files : List (List ℕ)) (image image' : Configuration S → List ℕ) (step : S → ThreadAct S) where
    same_request : (k : ℕ) (stamps : List Stamp) (c : Configuration S) (at : At) (r : Request S) (next : List Value → S) →
        IsSameStep (requested files image step k stamps c at r next) (requested files image' step k stamps c at r next)
    same_request k stamps c at (Contacts ask) next = (same_ask ask, λ reply. refl)
    same_request k stamps c at (Inspects question file) next = (refl, λ reply. refl)
    same_request k stamps c at (Compares outs ins) next = same_step _
    same_request k stamps c at (MakesTask task) next = same_step _
    same_request k stamps c at (Declares rule) next = same_step _
    same_request k stamps c at (Achieves targets) next = same_step _
    same_request k stamps c at (Spawns begins) next = same_step _
    same_request k stamps c at (AwaitsIds texts) next = same_step _
    same_request k stamps c at AwaitsAll next = refl
    same_request k stamps c at (Saves path) next = (refl, λ reply. refl)

    same_taken : (k : ℕ) (stamps : List Stamp) (c : Configuration S) (a : ThreadAct S) →
        IsSameStep (taken files image step k stamps c a) (taken files image' step k stamps c a)
    same_taken k stamps c (GoesOn true s) = same_step _
    same_taken k stamps c (GoesOn false s) = refl
    same_taken k stamps c (Needs at r next) = same_request k stamps c at r next
    same_taken k stamps c (Stops at f) = refl
    same_taken k stamps c (Quits status) = refl
    same_taken k stamps c (Finishes s) = refl

    same_turn : (k : ℕ) (stamps : List Stamp) (c : Configuration S) (l : Life S) →
        IsSameStep (turn_in files image step k stamps c l) (turn_in files image' step k stamps c l)
    same_turn k stamps c (Ready s) = same_taken k stamps c (step s)
    same_turn k stamps c (Waits ids s) = same_step _
    same_turn k stamps c (Closes ids s) = same_step _
    same_turn k stamps c Ended = refl

    same_turn_at : (k : ℕ) (stamps : List Stamp) (c : Configuration S) (t : Option (Thread S)) →
        IsSameStep (turn_at files image step k stamps c t) (turn_at files image' step k stamps c t)
    same_turn_at k stamps c (Some t) = same_turn k stamps c t.life
    same_turn_at k stamps c None = refl

    same_move_in : (c : Configuration S) (m : Mode) → IsSameStep (move_in files image step c m) (move_in files image' step c m)
    same_move_in c at_point = same_step _
    same_move_in c (turn_of k stamps) = same_turn_at k stamps c (slice_get c.threads k)
    same_move_in c (stopping cause) = same_step _
    same_move_in c saving = (refl, λ reply. refl)
    same_move_in c faulted = (refl, λ reply. refl)
    same_move_in c fault_told = refl
    same_move_in c (done status) = refl

    -- whatever a state is saved as
    pub same_move : (c : Configuration S) → IsSameStep (move files image step c) (move files image' step c)
    same_move c = same_move_in c c.mode
