-- When threads of two kinds agree: their steps lead to the same needs, with the same ticks.
use Rattle.std.specs.Prelude.{◌≡◌, ℕ, zero, suc, ◌+◌, ◌<◌, ◌≤◌, Bool, true, false, List, [], ◌∷◌, length, Option, ⊤}
use Rattle.bds_value.specs.declared.TheConstants.{MAX_TEXT}
use Rattle.bds_value.specs.declared.value.Stamp.{Stamp}
use Rattle.bds_value.specs.declared.value.At.{At}
use Rattle.bds_value.specs.declared.value.Value.{Value}
use Rattle.bds_value.specs.declared.value.Value.TheVariants as value
use Rattle.bds_host.specs.declared.asks.Ask.{Ask}
use Rattle.bds_host.specs.declared.asks.Ask.TheVariants as ask
use Rattle.bds_value.specs.declared.faults.RunFault.{RunFault}
use Rattle.bds_tasks.specs.declared.task.TaskNew.{TaskNew}
use Rattle.bds_rules.specs.declared.rule.Rule.{Rule}
use Rattle.bds_schedule.specs.Ids.{task_id, thread_id}
use Rattle.bds_schedule.specs.Replies.{answer_to}
use Rattle.bds_value.specs.declared.TheConstants.{MAX_TASKS, MAX_THREADS}
use Rattle.bds_schedule.specs.Turns.{ids_from}
use Rattle.bds_schedule.specs.Values.{of_texts}
use Rattle.bds_schedule.specs.Requests.{Request, Contacts, Inspects, Compares, MakesTask, Declares, Achieves, Spawns, AwaitsIds, AwaitsAll, Saves, ThreadAct, GoesOn, Needs, Stops, Quits, Finishes}
use Rattle.bds_schedule.specs.Requests.{Question}

-- Walks step s t s': steps of a thread lead from s to s', and t of them count a tick
pub data Walks {S : Type 0} (step : S → ThreadAct S) : S → ℕ → S → Type 0 where
  here : (s : S) → Walks step s zero s
  inner : (s n : S) (t : ℕ) (s' : S) → step s ≡ GoesOn false n → Walks step n t s' → Walks step s t s'
  tick : (s n : S) (t : ℕ) (s' : S) → step s ≡ GoesOn true n → Walks step n t s' → Walks step s (suc t) s'

-- the next step would count a tick
abbrev pub IsTick : {S : Type 0} → ThreadAct S → Type 0
IsTick (GoesOn true s) = ⊤
IsTick _ = ⊥

-- a state is saved by a request of its own
abbrev pub IsPlain : Ask → Type 0
IsPlain (ask.Save path image) = ⊥
IsPlain _ = ⊤

abbrev pub IsText : List Value → Type 0
IsText us = (text : List ℕ) × (length text ≤ MAX_TEXT) × (us ≡ value.Text text ∷ [])

-- the values with which a request may be answered
abbrev pub IsGiven : {S : Type 0} → Request S → List Value → Type 0
IsGiven (Contacts (ask.Read path)) us = IsText us
IsGiven (Contacts (ask.Sys command)) us = IsText us
IsGiven (Contacts _) us = us ≡ []
IsGiven (Inspects q path) us = (s : Stamp) × (us ≡ answer_to q s ∷ [])
IsGiven (Compares outs ins) us = (b : Bool) × (us ≡ value.Bool b ∷ [])
IsGiven (MakesTask task) us = (n : ℕ) × (n ≤ MAX_TASKS) × (us ≡ value.Text (task_id n) ∷ [])
IsGiven (Declares rule) us = us ≡ []
IsGiven (Achieves targets) us = (n : ℕ) × ((rules : List ℕ) × (n + length rules ≤ MAX_TASKS + 1) × (us ≡ of_texts (ids_from n rules) ∷ []))
IsGiven (Spawns s) us = (n : ℕ) × (n < MAX_THREADS) × (us ≡ value.Text (thread_id n) ∷ [])
IsGiven (AwaitsIds texts) us = us ≡ []
IsGiven AwaitsAll us = us ≡ []
IsGiven (Saves path) us = us ≡ []

-- R relates threads that go on, F those whose code has ended
module _ {S M : Type 0} (R F : S → M → Type 0) where
  -- the same request, whose new threads are related
  pub data SameRequest : Request S → Request M → Type 0 where
    contacts : (a : Ask) → IsPlain a → SameRequest (Contacts a) (Contacts a)
    inspects : (q : Question) (path : List ℕ) → SameRequest (Inspects q path) (Inspects q path)
    compares : (outs ins : List (List ℕ)) → SameRequest (Compares outs ins) (Compares outs ins)
    makes_task : (task : TaskNew) → SameRequest (MakesTask task) (MakesTask task)
    declares : (rule : Rule) → SameRequest (Declares rule) (Declares rule)
    achieves : (targets : List (List ℕ)) → SameRequest (Achieves targets) (Achieves targets)
    spawns : (s : S) (m : M) → R s m → SameRequest (Spawns s) (Spawns m)
    awaits_ids : (texts : List (List ℕ)) → SameRequest (AwaitsIds texts) (AwaitsIds texts)
    awaits_all : SameRequest AwaitsAll AwaitsAll
    saves : (path : Option (List ℕ)) → SameRequest (Saves path) (Saves path)

  -- whatever values an answer gives, the threads that go on with them are related
  abbrev pub SameBehind : Request S → (List Value → S) → (List Value → M) → Type 0
  SameBehind r f g = (us : List Value) → IsGiven r us → R (f us) (g us)

  -- steps that leave their turn alike
  pub data Same : ThreadAct S → ThreadAct M → Type 0 where
    needs : (at : At) (r : Request S) (r' : Request M) (f : List Value → S) (g : List Value → M) → SameRequest r r' → SameBehind r f g → Same (Needs at r f) (Needs at r' g)
    fails : (at : At) (fault : RunFault) → Same (Stops at fault) (Stops at fault)
    exits : (status : ℕ) → Same (Quits status) (Quits status)
    finishes : (s : S) (m : M) → F s m → Same (Finishes s) (Finishes m)

  module _ (source : S → ThreadAct S) (machine : M → ThreadAct M) where
    -- with so many ticks left, both turns are left alike, or both have no tick left
    pub data Meets (s : S) (m : M) (left : ℕ) : Type 0 where
      leave : (s' : S) (m' : M) (t : ℕ) → t ≤ left → Walks source s t s' → Walks machine m t m' → Same (source s') (machine m') → Meets s m left
      spend : (s' : S) (m' : M) → Walks source s left s' → Walks machine m left m' → IsTick (source s') → IsTick (machine m') → Meets s m left

    -- the law of threads: the turns of related ones are left alike, whatever ticks are left
    abbrev pub Agree : Type 0
    Agree = (s : S) (m : M) → R s m → (left : ℕ) → Meets s m left
