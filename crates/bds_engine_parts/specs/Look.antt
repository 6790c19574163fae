-- What is told of a state is what the schedule asks of the configuration that it is seen as.
use Rattle.std.specs.Prelude.{◌≡◌, ◌≢◌, ◌<◌, ◌≤◌, ◌^◌, ℕ, Bool, true, false, List, [], ◌∷◌, ◌++◌, decimal, length, map, slice_get, Option, Some, None, Result, Ok, Err, ⊤}
use Rattle.std.specs.List.{All, list_all}
use Rattle.bds_value.specs.declared.ids.Id.{Id}
use Rattle.bds_code_frames.specs.declared.thread.Thread.{Thread}
use Rattle.bds_tasks.specs.declared.task.Task.{Task}
use Rattle.bds_tasks.specs.declared.task.Waited.{Waited}
use Rattle.bds_tasks.specs.Waits.{wait_state as tasks_waited}
use Rattle.bds_value.specs.declared.faults.RunFault.TheVariants as run
use Rattle.bds_schedule.specs.Configuration.{Mode}
use Rattle.bds_schedule.specs.Ids as meaning
use Rattle.bds_schedule.specs.Waiting as schedule
use Rattle.bds_schedule.specs.Waiting.{with_ended}
use Rattle.bds_state.specs.MadeBy.{made_by}
use Rattle.bds_state.specs.Parts.{Parts}
use Rattle.bds_state.specs.Ready.{is_last, ready, thread_ended}
use Rattle.bds_state.specs.Valid.{IsThere}
use Rattle.bds_state.specs.Waited.{tasks_in, threads_in}
use Rattle.bds_engine_parts.specs.Seen.{id_seen, seen}
use Rattle.bds_engine_parts.specs.declared.ids.IdFault.{IdFault}
use Rattle.bds_engine_parts.specs.declared.ids.IdFault.TheVariants.{NoId}
use Rattle.bds_engine_parts.specs.declared.ids.IdFault.TheVariants as id_fault
use Rattle.bds_value.specs.declared.listed.NoMemory.{NoMemory}

abbrev pub all_ended : List Thread → Bool
all_ended ts = list_all (λ t. is_last t.status) ts

-- what a wait has come to
abbrev pub waited : List Thread → List Task → List Id → Waited
waited threads tasks ids = with_ended (list_all (thread_ended threads) (threads_in ids)) (tasks_waited tasks (tasks_in ids))

-- the questions of the schedule
pub record LooksSame (s : Parts) (cpus budget used : ℕ) (mode : Mode) : Type 0 where
  pub ready_is : schedule.ready (seen s cpus budget used mode) ≡ ready s.threads s.tasks
  pub ended_is : schedule.all_ended (seen s cpus budget used mode) ≡ all_ended s.threads
  pub wait_is : (ids : List Id) → schedule.wait_state (seen s cpus budget used mode) (map id_seen ids) ≡ waited s.threads s.tasks ids
  pub made_is : (thread : ℕ) → schedule.made_by (seen s cpus budget used mode) thread ≡ map id_seen (made_by thread s)

-- Ids as texts

-- the number behind words
abbrev pub NumberBehind : List ℕ → List ℕ → Option ℕ → Type 0
NumberBehind words text (Some n) = text ≡ words ++ decimal n
NumberBehind words text None = (n : ℕ) → n < 2 ^ 32 → text ≢ words ++ decimal n

-- the task or thread that a text names, where there are so many
abbrev pub IsNamed : ℕ → ℕ → List ℕ → Option Id → Type 0
IsNamed tasks threads text (Some i) = (meaning.id_of tasks threads text ≡ Ok (id_seen i)) × IsThere tasks threads i
IsNamed tasks threads text None = meaning.id_of tasks threads text ≡ Err (run.NoId text)

-- the id of a text was put at the end, and none where the text is empty
pub data IsPut (tasks threads : ℕ) (text : List ℕ) (old new : List Id) : Type 0 where
  empty : length text ≤ 0 → new ≡ old → IsPut tasks threads text old new
  put : (i : Id) → 0 < length text → IsNamed tasks threads text (Some i) → new ≡ old ++ i ∷ [] → IsPut tasks threads text old new

abbrev pub Puts : ℕ → ℕ → List ℕ → List Id → List Id → Result Bool NoMemory → Type 0
Puts tasks threads text old new (Ok true) = IsPut tasks threads text old new
Puts tasks threads text old new (Ok false) = (0 < length text) × IsNamed tasks threads text None
Puts tasks threads text old new (Err e) = ⊤

-- the ids that texts name, or the first text that names none
abbrev pub AreNamed : ℕ → ℕ → List (List ℕ) → Result (List Id) IdFault → Type 0
AreNamed tasks threads texts (Ok ids) = (meaning.ids_of tasks threads texts ≡ Ok (map id_seen ids)) × All (IsThere tasks threads) ids × (length ids ≤ length texts)
AreNamed tasks threads texts (Err (NoId i)) = (text : List ℕ) × (slice_get texts i ≡ Some text) × (meaning.ids_of tasks threads texts ≡ Err (run.NoId text))
AreNamed tasks threads texts (Err id_fault.NoMemory) = ⊤
