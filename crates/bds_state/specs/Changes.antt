-- A state that begins, and one with another thread.
use Rattle.std.specs.Prelude.{◌≡◌, ◌≢◌, ℕ, ◌<◌, List, [], ◌∷◌, ◌++◌, length, map, slice_get, Some, Result, Ok, Err}
use Rattle.bds_value.specs.declared.TheConstants.{MAX_THREADS}
use Rattle.bds_value.specs.declared.ids.Status.TheVariants.{Ended}
use Rattle.bds_value.specs.declared.value.Value.{Value}
use Rattle.bds_value.specs.Value.{default_of}
use Rattle.bds_code.specs.declared.unit.Unit.{Unit as CodeUnit}
use Rattle.bds_code_frames.specs.declared.thread.Thread.{Thread}
use Rattle.bds_state.specs.Parts.{Parts, with_threads}
use Rattle.bds_state_threads.specs.Made.{IsBegun}
use Rattle.bds_tasks.specs.declared.task.AddFault.{AddFault}
use Rattle.bds_tasks.specs.declared.task.AddFault.TheVariants.{TooMany, NoMemory}

-- the main thread alone, at the first place of the first function, each global the default of its type; no task and no
-- rule
pub record IsOpening (u : CodeUnit) (path : List ℕ) (s : Parts) : Type 0 where
  pub main : Thread
  pub begun : IsBegun u 0 0 [] (map default_of u.globals) main
  pub parts : s ≡ record { unit = u; threads = main ∷ []; tasks = []; rules = []; path = path }

-- a thread is there and hasn't ended
pub record IsLive (threads : List Thread) (n : ℕ) : Type 0 where
  pub thread : Thread
  pub there : slice_get threads n ≡ Some thread
  pub live : thread.status ≢ Ended

-- one more thread that thread `maker` made: it begins a function with these arguments, and with the maker's globals
pub record HasSpawned (maker function : ℕ) (args : List Value) (old new : Parts) : Type 0 where
  pub from : Thread
  pub there : slice_get old.threads maker ≡ Some from
  pub thread : Thread
  pub begun : IsBegun old.unit maker function args from.globals thread
  pub parts : new ≡ with_threads (old.threads ++ thread ∷ []) old

-- a thread was added and has this number; or there are as many as there may be, or no memory, and all is as before
abbrev pub Spawns : ℕ → ℕ → List Value → Parts → Parts → Result ℕ AddFault → Type 0
Spawns maker function args old new (Ok n) =
    (length old.threads < MAX_THREADS) × (n ≡ length old.threads) × HasSpawned maker function args old new
Spawns maker function args old new (Err (TooMany n)) =
    (length old.threads ≡ MAX_THREADS) × (n ≡ length old.threads) × (new ≡ old)
Spawns maker function args old new (Err NoMemory) = (length old.threads < MAX_THREADS) × (new ≡ old)
