-- What a configuration does without an ask does not depend on the bytes of images.
use Rattle.std.proofs.Common.{◌≡◌, ℕ, List, Option, Some, None, slice_get, refl, subst}
use Rattle.std.specs.Prelude.{⊤}
use Rattle.bds_value.specs.declared.value.At.{At}
use Rattle.bds_value.specs.declared.value.Stamp.{Stamp}
use Rattle.bds_value.specs.declared.value.Value.{Value}
use Rattle.bds_schedule.specs.Configuration.{Life, Ready, Waits, Closes, Ended, Thread, Configuration, Mode, at_point, turn_of, stopping, saving, faulted, fault_told, done}
use Rattle.bds_schedule.specs.Moves.{move, move_in}
use Rattle.bds_schedule.specs.Requests.{Request, Contacts, Inspects, Compares, MakesTask, Declares, Achieves, Spawns, AwaitsIds, AwaitsAll, Saves, ThreadAct, Needs, Stops, Quits, Finishes}
use Rattle.bds_schedule.specs.Requests.{GoesOn as Becomes}
use Rattle.bds_schedule.specs.Steps.{Step, Goes, Asks, Ends}
use Rattle.bds_schedule.specs.Turns.{requested, taken, turn_in, turn_at}

abbrev IsGo : {C E : Type 0} → Step C E → Step C E → Type 0
IsGo (Goes c) y = y ≡ Goes c
IsGo _ y = ⊤

itself : {C E : Type 0} (x : Step C E) → IsGo x x
itself (Goes c) = refl
itself (Asks a f) = tt
itself (Ends e) = tt

module _ {S : Type 0} (files : List (List ℕ)) (step : S → ThreadAct S) (b b' : List ℕ) where
  by_request : (k : ℕ) (stamps : List Stamp) (c : Configuration S) (at : At) (r : Request S) (f : List Value → S)
      → IsGo (requested files (λ (saved : Configuration S). b) step k stamps c at r f) (requested files (λ (saved : Configuration S). b') step k stamps c at r f)
  by_request k stamps c at (Contacts a) f = tt
  by_request k stamps c at (Inspects q file) f = tt
  by_request k stamps c at (Compares outs ins) f = itself (requested files (λ (saved : Configuration S). b) step k stamps c at (Compares outs ins) f)
  by_request k stamps c at (MakesTask task) f = itself (requested files (λ (saved : Configuration S). b) step k stamps c at (MakesTask task) f)
  by_request k stamps c at (Declares rule) f = itself (requested files (λ (saved : Configuration S). b) step k stamps c at (Declares rule) f)
  by_request k stamps c at (Achieves targets) f = itself (requested files (λ (saved : Configuration S). b) step k stamps c at (Achieves targets) f)
  by_request k stamps c at (Spawns s) f = itself (requested files (λ (saved : Configuration S). b) step k stamps c at (Spawns s) f)
  by_request k stamps c at (AwaitsIds texts) f = itself (requested files (λ (saved : Configuration S). b) step k stamps c at (AwaitsIds texts) f)
  by_request k stamps c at AwaitsAll f = refl
  by_request k stamps c at (Saves path) f = tt

  by_outcome : (k : ℕ) (stamps : List Stamp) (c : Configuration S) (o : ThreadAct S) → IsGo (taken files (λ (saved : Configuration S). b) step k stamps c o) (taken files (λ (saved : Configuration S). b') step k stamps c o)
  by_outcome k stamps c (Becomes tick s) = itself (taken files (λ (saved : Configuration S). b) step k stamps c (Becomes tick s))
  by_outcome k stamps c (Needs at r f) = by_request k stamps c at r f
  by_outcome k stamps c (Stops at f) = refl
  by_outcome k stamps c (Quits status) = refl
  by_outcome k stamps c (Finishes s) = refl

  by_life : (k : ℕ) (stamps : List Stamp) (c : Configuration S) (x : Life S) → IsGo (turn_in files (λ (saved : Configuration S). b) step k stamps c x) (turn_in files (λ (saved : Configuration S). b') step k stamps c x)
  by_life k stamps c (Ready s) = by_outcome k stamps c (step s)
  by_life k stamps c (Waits ids s) = itself (turn_in files (λ (saved : Configuration S). b) step k stamps c (Waits ids s))
  by_life k stamps c (Closes ids s) = itself (turn_in files (λ (saved : Configuration S). b) step k stamps c (Closes ids s))
  by_life k stamps c Ended = refl

  by_thread : (k : ℕ) (stamps : List Stamp) (c : Configuration S) (x : Option (Thread S)) → IsGo (turn_at files (λ (saved : Configuration S). b) step k stamps c x) (turn_at files (λ (saved : Configuration S). b') step k stamps c x)
  by_thread k stamps c (Some t) = by_life k stamps c t.life
  by_thread k stamps c None = refl

  by_mode : (c : Configuration S) (m : Mode) → IsGo (move_in files (λ (saved : Configuration S). b) step c m) (move_in files (λ (saved : Configuration S). b') step c m)
  by_mode c at_point = itself (move_in files (λ (saved : Configuration S). b) step c at_point)
  by_mode c (turn_of k stamps) = by_thread k stamps c (slice_get c.threads k)
  by_mode c (stopping cause) = itself (move_in files (λ (saved : Configuration S). b) step c (stopping cause))
  by_mode c saving = tt
  by_mode c faulted = tt
  by_mode c fault_told = tt
  by_mode c (done status) = tt

  pub same_go : (c d : Configuration S) → move files (λ (saved : Configuration S). b) step c ≡ Goes d → move files (λ (saved : Configuration S). b') step c ≡ Goes d
  same_go c d e = let h = by_mode c c.mode in let q = subst (λ x. IsGo x (move files (λ (saved : Configuration S). b') step c)) e h in q
