-- Ids of tasks and threads.
use Rattle.std.specs.Prelude.{ℕ, zero, suc, ◌+◌, Bool, true, false, List, [], ◌∷◌, ◌++◌, Option, Some, None, Ok, Err, codes, decimal, if◌then◌else◌, filter_map}
use Rattle.std.specs.Str.{bytes_eq}
use Rattle.bds_value.specs.declared.faults.RunFault.TheVariants.{NoId}
use Rattle.bds_schedule.specs.Faults.{Outcome, and_then}

pub data Id : Type 0 where
  of_task : ℕ → Id
  of_thread : ℕ → Id

abbrev pub task_id : ℕ → List ℕ
task_id n = codes "task." ++ decimal n

abbrev pub thread_id : ℕ → List ℕ
thread_id n = codes "thread." ++ decimal n

abbrev pub task_in : Id → Option ℕ
task_in (of_task n) = Some n
task_in (of_thread n) = None

abbrev pub thread_in : Id → Option ℕ
thread_in (of_task n) = None
thread_in (of_thread n) = Some n

-- the tasks and the threads among ids
abbrev pub tasks_in : List Id → List ℕ
tasks_in ids = filter_map task_in ids

abbrev pub threads_in : List Id → List ℕ
threads_in ids = filter_map thread_in ids

-- the first number from n on, of so many, whose text this is
abbrev pub numbered : (ℕ → List ℕ) → List ℕ → ℕ → ℕ → Option ℕ
numbered text_of text n zero = None
numbered text_of text n (suc more) = if bytes_eq (text_of n) text then Some n else numbered text_of text (n + 1) more

abbrev pub either : Option ℕ → Option ℕ → List ℕ → Outcome Id
either (Some n) thread text = Ok (of_task n)
either None (Some n) text = Ok (of_thread n)
either None None text = Err (NoId text)

-- the id that a text is, where there are so many tasks and threads
abbrev pub id_of : ℕ → ℕ → List ℕ → Outcome Id
id_of tasks threads text = either (numbered task_id text 1 tasks) (numbered thread_id text 0 threads) text

abbrev pub is_empty : List ℕ → Bool
is_empty [] = true
is_empty _ = false

abbrev pub with_id : Bool → Outcome Id → Outcome (List Id) → Outcome (List Id)
with_id true id rest = rest
with_id false id rest = and_then id (λ i. and_then rest (λ is. Ok (i ∷ is)))

-- the ids that texts are, in their order, without the empty ones; or the first that is none
abbrev pub ids_of : ℕ → ℕ → List (List ℕ) → Outcome (List Id)
ids_of tasks threads [] = Ok []
ids_of tasks threads (t ∷ ts) = with_id (is_empty t) (id_of tasks threads t) (ids_of tasks threads ts)
