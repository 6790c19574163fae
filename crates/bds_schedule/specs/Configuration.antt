-- Configurations of a run, whatever kind of threads it has. `S` is the state of a thread.
use Rattle.std.specs.Prelude.{ℕ, ◌+◌, List, [], ◌∷◌, nat_eq, if◌then◌else◌, ⊤}
use Rattle.bds_value.specs.declared.value.Stamp.{Stamp}
use Rattle.bds_host.specs.declared.faults.Fault.{Fault}
use Rattle.bds_tasks.specs.declared.task.Task.{Task}
use Rattle.bds_rules.specs.declared.rule.Rule.{Rule}
use Rattle.bds_schedule.specs.Ids.{Id}

-- a thread is ready; it waits for tasks and threads; its code has ended and it waits for all that it made; or it has ended
pub data Life (S : Type 0) : Type 0 where
  Ready : S → Life S
  Waits : List Id → S → Life S
  Closes : List Id → S → Life S
  Ended : Life S

-- a thread, with the thread that made it
pub record Thread (S : Type 0) : Type 0 where
  pub parent : ℕ
  pub life : Life S

-- why a run stops before its threads have ended
pub data Cause : Type 0 where
  exited : ℕ → Cause
  failed : Fault → Cause
  -- a wait that failed: the task, and its code
  task_failed : ℕ → ℕ → Cause

pub data Mode : Type 0 where
  at_point : Mode
  -- a thread's turn, with the stamps that its present step has got so far
  turn_of : ℕ → List Stamp → Mode
  stopping : Cause → Mode
  -- the message of a task that failed is told, and the state is saved next
  saving : Mode
  -- a reply was a fault, which is told next; and it has been told
  faulted : Mode
  fault_told : Mode
  done : ℕ → Mode

-- the run has not come to its end
abbrev pub IsOnWay : Mode → Type 0
IsOnWay fault_told = ⊥
IsOnWay (done status) = ⊥
IsOnWay _ = ⊤

-- threads are numbered from 0, tasks and rules from 1, in the order in which they were made; the budget is how many ticks the run may count
pub record Configuration (S : Type 0) : Type 0 where
  pub path : List ℕ
  pub cpus : ℕ
  pub budget : ℕ
  pub used : ℕ
  pub threads : List (Thread S)
  pub tasks : List Task
  pub rules : List Rule
  pub mode : Mode

module _ {S : Type 0} where
  abbrev pub in_mode : Mode → Configuration S → Configuration S
  in_mode m c = record { path = c.path; cpus = c.cpus; budget = c.budget; used = c.used; threads = c.threads; tasks = c.tasks; rules = c.rules; mode = m }

  abbrev pub with_threads : List (Thread S) → Configuration S → Configuration S
  with_threads ts c = record { path = c.path; cpus = c.cpus; budget = c.budget; used = c.used; threads = ts; tasks = c.tasks; rules = c.rules; mode = c.mode }

  abbrev pub with_tasks : List Task → Configuration S → Configuration S
  with_tasks ts c = record { path = c.path; cpus = c.cpus; budget = c.budget; used = c.used; threads = c.threads; tasks = ts; rules = c.rules; mode = c.mode }

  abbrev pub with_rules : List Rule → Configuration S → Configuration S
  with_rules rs c = record { path = c.path; cpus = c.cpus; budget = c.budget; used = c.used; threads = c.threads; tasks = c.tasks; rules = rs; mode = c.mode }

  abbrev pub count_tick : Configuration S → Configuration S
  count_tick c = record { path = c.path; cpus = c.cpus; budget = c.budget; used = c.used + 1; threads = c.threads; tasks = c.tasks; rules = c.rules; mode = c.mode }

  abbrev pub lives : Life S → Thread S → Thread S
  lives life t = record { parent = t.parent; life = life }

  -- the threads from number n on, of which number k is so now
  abbrev pub with_life_from : ℕ → ℕ → Life S → List (Thread S) → List (Thread S)
  with_life_from n k life [] = []
  with_life_from n k life (t ∷ ts) = (if nat_eq n k then lives life t else t) ∷ with_life_from (n + 1) k life ts

  -- thread k is so now, and the run is in this mode
  abbrev pub becomes : ℕ → Life S → Mode → Configuration S → Configuration S
  becomes k life m c = in_mode m (with_threads (with_life_from 0 k life c.threads) c)
