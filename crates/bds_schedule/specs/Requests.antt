-- What a thread needs of the run, whatever kind of thread it is. `S` is the state of a thread.
use Rattle.std.specs.Prelude.{ℕ, Bool, List, Option}
use Rattle.bds_value.specs.declared.value.At.{At}
use Rattle.bds_value.specs.declared.value.Value.{Value}
use Rattle.bds_host.specs.declared.asks.Ask.{Ask}
use Rattle.bds_value.specs.declared.faults.RunFault.{RunFault}
use Rattle.bds_tasks.specs.declared.task.TaskNew.{TaskNew}
use Rattle.bds_rules.specs.declared.rule.Rule.{Rule}

-- what is asked of a file
pub data Question : Type 0 where
  IsThere : Question
  IsEmpty : Question
  SizeOf : Question

pub data Request (S : Type 0) : Type 0 where
  Contacts : Ask → Request S
  Inspects : Question → List ℕ → Request S
  -- whether the first files are out of date against the second
  Compares : List (List ℕ) → List (List ℕ) → Request S
  MakesTask : TaskNew → Request S
  Declares : Rule → Request S
  Achieves : List (List ℕ) → Request S
  -- a thread that begins so
  Spawns : S → Request S
  AwaitsIds : List (List ℕ) → Request S
  AwaitsAll : Request S
  -- at a path, or beside the script
  Saves : Option (List ℕ) → Request S

-- what a thread does next: it goes on by itself, where true says that this counts a tick; it needs something, and goes on with the values that
-- it is given, none or one; it stops the program with a fault at a node, or quits it with a status; or its code has ended
pub data ThreadAct (S : Type 0) : Type 0 where
  GoesOn : Bool → S → ThreadAct S
  Needs : At → Request S → (List Value → S) → ThreadAct S
  Stops : At → RunFault → ThreadAct S
  Quits : ℕ → ThreadAct S
  Finishes : S → ThreadAct S
