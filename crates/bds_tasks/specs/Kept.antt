-- For private contracts alone: what is kept beside a list of tasks, so that a question to it doesn't go through all of
-- them.
use Rattle.std.specs.Prelude.{◌≡◌, ◌⊎◌, ◌<◌, ◌≤◌, ℕ, zero, suc, ◌-◌, ◌*◌, Bool, true, false, ◌&&◌, ◌||◌, List, [], ◌∷◌, ◌++◌, map}
use Rattle.std.specs.Prelude.{length, nat_eq, nat_lt, get_or, sum_by, Option, Some, None, option_map, unwrap_or}
use Rattle.std.specs.Prelude.{slice_get, slice_set, if◌then◌else◌, ⊤}
use Rattle.bds_levels.specs.Least.{NEVER}
use Rattle.bds_value.specs.declared.TheConstants.{MAX_CPUS, MAX_TASKS}
use Rattle.bds_tasks.specs.declared.schedule.Schedule.{Schedule}
use Rattle.bds_tasks.specs.declared.task.Task.{Task}
use Rattle.bds_tasks.specs.declared.task.TaskState.TheVariants.{Waits, Cancelled}
use Rattle.bds_tasks.specs.Cancelling.{CannotRun}
use Rattle.bds_tasks.specs.Ends.{ended_task}
use Rattle.bds_tasks.specs.Sound.{AreTasks}
use Rattle.bds_tasks.specs.Tasks.{in_state, is_bad, is_good, passes, running, runs, task_at, waits, with_task}
use Rattle.bds_tasks.specs.Waits.{is_cancelled}

-- of these, how many haven't ended well
abbrev pub unmet_of : List Task → List ℕ → ℕ
unmet_of ts [] = 0
unmet_of ts (n ∷ ns) = if passes is_good ts n then unmet_of ts ns else suc (unmet_of ts ns)

-- of each task, how many of those that it needs haven't ended well
abbrev pub counts : List Task → List ℕ
counts ts = map (λ (t : Task). unmet_of ts t.needs) ts

-- the processors of a task that waits for nothing but them, where it has so many unmet needs
abbrev pub key_by : Task → ℕ → ℕ
key_by t unmet = if waits t.state && nat_eq unmet 0 then t.made.cpus else NEVER

abbrev pub keys : List Task → List ℕ
keys ts = map (λ (t : Task). key_by t (unmet_of ts t.needs)) ts

-- how often a list has a number
abbrev pub times : ℕ → List ℕ → ℕ
times n [] = 0
times n (m ∷ ms) = if nat_eq n m then suc (times n ms) else times n ms

abbrev pub list_at : List (List ℕ) → ℕ → List ℕ
list_at lists i = unwrap_or (slice_get lists i) []

abbrev pub needs_at : List Task → ℕ → List ℕ
needs_at ts i = unwrap_or (option_map (λ (t : Task). t.needs) (slice_get ts i)) []

-- each task stands among those that need another as often as it needs that
pub record AreUsers (ts : List Task) (users : List (List ℕ)) : Type 0 where
  pub long : length users ≡ length ts
  pub often : (i k : ℕ) → k < length ts → times (suc i) (list_at users k) ≡ times (suc k) (needs_at ts i)
  pub some : (k : ℕ) → times 0 (list_at users k) ≡ 0

-- n is put behind those that need task m
abbrev pub with_user : ℕ → ℕ → List (List ℕ) → List (List ℕ)
with_user n m users = slice_set users (m - 1) (list_at users (m - 1) ++ n ∷ [])

abbrev pub with_users : ℕ → List ℕ → List (List ℕ) → List (List ℕ)
with_users n [] users = users
with_users n (m ∷ ms) users = with_users n ms (with_user n m users)

-- it ended badly or was cancelled
abbrev pub is_lost_task : Task → Bool
is_lost_task t = is_bad t || is_cancelled t

-- where this isn't set none is lost
abbrev pub TellsLost : List Task → Bool → Type 0
TellsLost ts some_lost = some_lost ≡ false → (n : ℕ) → passes is_lost_task ts n ≡ false

-- the processors that the running tasks ask for
abbrev pub busy : List Task → ℕ
busy ts = sum_by (λ t. if runs t.state then t.made.cpus else 0) ts

-- what is kept beside a list of tasks
pub record IsSchedule (ts : List Task) (s : Schedule) : Type 0 where
  pub counted : s.unmet ≡ counts ts
  pub users : AreUsers ts s.needed_by
  pub keyed : s.keys ≡ keys ts
  pub going : s.running ≡ running ts
  pub summed : s.busy ≡ busy ts
  pub lost : TellsLost ts s.some_lost

abbrev pub MayHaveSchedule : List Task → Option Schedule → Type 0
MayHaveSchedule ts None = ⊤
MayHaveSchedule ts (Some s) = IsSchedule ts s

-- the place of a number among others in rising order: behind the last that is less
abbrev pub behind_less : Bool → ℕ → ℕ
behind_less less (suc k) = suc (suc k)
behind_less true zero = 1
behind_less false zero = 0

abbrev pub position : ℕ → List ℕ → ℕ
position n [] = 0
position n (m ∷ ms) = behind_less (nat_lt m n) (position n ms)

-- one of these numbers less
abbrev pub lowered : List ℕ → List ℕ → List ℕ
lowered [] counts = counts
lowered (m ∷ ms) counts = lowered ms (slice_set counts (m - 1) (get_or counts (m - 1) 0 - 1))

-- the key of task m, where it has no unmet need
abbrev pub key_where : Bool → ℕ → Option Task → List ℕ → List ℕ
key_where true i (Some t) keys = slice_set keys i (key_by t 0)
key_where true i None keys = keys
key_where false i o keys = keys

abbrev pub with_key : List Task → List ℕ → ℕ → List ℕ → List ℕ
with_key ts counts m keys = key_where (nat_eq (get_or counts (m - 1) 0) 0) (m - 1) (task_at ts m) keys

abbrev pub with_keys : List Task → List ℕ → List ℕ → List ℕ → List ℕ
with_keys ts counts [] keys = keys
with_keys ts counts (m ∷ ms) keys = with_keys ts counts ms (with_key ts counts m keys)

-- of so many processors those in use, where running tasks ask for so many: more than there are tells as much
abbrev pub used_of : ℕ → ℕ → ℕ
used_of cpus busy = if nat_eq cpus 0 then 0 else busy

-- the most that a task may ask for where so many processors are in use
abbrev pub most_for : ℕ → ℕ → ℕ
most_for cpus used = if nat_eq used 0 then MAX_CPUS else cpus - used

-- the schedule is still that of the tasks before task n ended
pub record IsBehind (n : ℕ) (now : List Task) (s : Schedule) : Type 0 where
  pub before : List Task
  pub code : ℕ
  pub one : 1 ≤ n
  pub are : AreTasks before
  pub ran : passes (λ t. runs t.state) before n ≡ true
  pub is : now ≡ with_task (ended_task code) n before
  pub kept : IsSchedule before s

-- task n has just ended
pub record HasEnded (n : ℕ) (now : List Task) : Type 0 where
  pub before : List Task
  pub code : ℕ
  pub one : 1 ≤ n
  pub are : AreTasks before
  pub ran : passes (λ t. runs t.state) before n ≡ true
  pub is : now ≡ with_task (ended_task code) n before

-- the schedule is still that of the tasks before the last one was added
pub record LacksLast (now : List Task) (t : Task) (s : Schedule) : Type 0 where
  pub before : List Task
  pub is : now ≡ before ++ t ∷ []
  pub are : AreTasks now
  pub waiting : t.state ≡ Waits
  pub kept : IsSchedule before s

-- a task has a place in the schedule, whose sum stays small
abbrev pub HasPlace : ℕ → Option Schedule → Type 0
HasPlace n None = ⊤
HasPlace n (Some s) = (1 ≤ n) × (n ≤ length s.keys) × (s.busy ≤ MAX_CPUS * MAX_TASKS)

-- users are known of the tasks below a place
pub record AreUsersBelow (ts : List Task) (users : List (List ℕ)) (i : ℕ) : Type 0 where
  pub long : length users ≡ length ts
  pub often : (j k : ℕ) → k < length ts
      → times (suc j) (list_at users k) ≡ (if nat_lt j i then times (suc k) (needs_at ts j) else 0)
  pub some : (k : ℕ) → times 0 (list_at users k) ≡ 0

-- task m is cancelled where it waits, and its key tells that those that need it are to be asked
abbrev pub cancelled_one : ℕ → ℕ → List Task → List Task
cancelled_one n m ts = if passes (λ t. waits t.state) ts m then with_task (in_state (Cancelled n)) m ts else ts

abbrev pub marked_one : ℕ → List Task → List ℕ → List ℕ
marked_one m ts keys = if passes (λ t. waits t.state) ts m then slice_set keys (m - 1) 0 else keys

abbrev pub all_cancelled : ℕ → List ℕ → List Task → List Task
all_cancelled n [] ts = ts
all_cancelled n (m ∷ ms) ts = all_cancelled n ms (cancelled_one n m ts)

abbrev pub all_marked : ℕ → List ℕ → List Task → List ℕ → List ℕ
all_marked n [] ts keys = keys
all_marked n (m ∷ ms) ts keys = all_marked n ms (cancelled_one n m ts) (marked_one m ts keys)

abbrev pub IsUnchanged : List Task → List Task → ℕ → Type 0
IsUnchanged old now i = slice_get now i ≡ slice_get old i

-- the task at a place waited and can no longer run, and task n cancelled it
pub record IsHit (n : ℕ) (old now : List Task) (i : ℕ) : Type 0 where
  pub task : Task
  pub was : slice_get old i ≡ Some task
  pub waited : waits task.state ≡ true
  pub set : CannotRun old n (suc i)
  pub is : slice_get now i ≡ Some (in_state (Cancelled n) task)

abbrev pub waits_at : List Task → ℕ → Bool
waits_at ts i = unwrap_or (option_map (λ (t : Task). waits t.state) (slice_get ts i)) false

abbrev pub key_at : List Task → ℕ → ℕ
key_at ts i = unwrap_or (option_map (λ (t : Task). key_by t (unmet_of ts t.needs)) (slice_get ts i)) 0

-- how far a bad end has spread: key 0 marks those lost, but for one place, of whose users not all were asked
pub record Cancelling (n : ℕ) (old now : List Task) (ks : List ℕ) (but : Option ℕ) : Type 0 where
  pub long : length now ≡ length old
  pub wide : length ks ≡ length old
  pub same : (i : ℕ) → IsUnchanged old now i ⊎ IsHit n old now i
  pub keyed : (i : ℕ) → (get_or ks i 0 ≡ key_at now i) ⊎ (get_or ks i 0 ≡ 0)
  pub marked : (i : ℕ) → i < length old → get_or ks i 0 ≡ 0 → (suc i ≡ n) ⊎ IsHit n old now i
  pub asked : (i : ℕ) → (suc i ≡ n) ⊎ IsHit n old now i → (get_or ks i 0 ≡ 0 → ⊥) → (but ≡ Some i → ⊥) → (j : ℕ)
      → (times (suc i) (needs_at old j) ≡ 0 → ⊥) → waits_at now j ≡ false
