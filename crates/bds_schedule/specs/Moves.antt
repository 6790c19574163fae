-- What a configuration does next, whatever kind of threads it has.
use Rattle.std.specs.Prelude.{ℕ, Bool, true, false, List, [], ◌∷◌, Option, Some, None, option_map}
use Rattle.bds_host.specs.declared.asks.Ask.TheVariants.{Err as Tells, Start, Next}
use Rattle.bds_host.specs.declared.asks.Reply.{Reply}
use Rattle.bds_host.specs.declared.asks.Reply.TheVariants.{Run}
use Rattle.bds_host.specs.declared.faults.Fault.TheVariants as fault
use Rattle.bds_host.specs.Message.{message_of}
use Rattle.bds_tasks.specs.declared.task.Task.{Task}
use Rattle.bds_tasks.specs.Tasks.{running, task_at}
use Rattle.bds_tasks.specs.Starts.{startable, started}
use Rattle.bds_value.specs.Options.{◌>>=◌}
use Rattle.bds_schedule.specs.Configuration.{Configuration, Mode, at_point, turn_of, stopping, saving, faulted, fault_told, done, failed, in_mode, with_tasks}
use Rattle.bds_schedule.specs.Requests.{ThreadAct}
use Rattle.bds_schedule.specs.Stages.{Done, DeviceFault, Move, asking, task_ended, stopped, saved}
use Rattle.bds_schedule.specs.Steps.{Goes, Asks, Ends}
use Rattle.bds_schedule.specs.Turns.{turn}
use Rattle.bds_schedule.specs.Waiting.{ready, all_ended}

module _ {S : Type 0} where
  -- the thread that goes on, or a task that has ended
  abbrev pub chosen_by : Configuration S → Reply → Configuration S
  chosen_by c (Run k) = in_mode (turn_of k []) c
  chosen_by c reply = task_ended c reply

  -- nothing is ready and nothing runs: the run is done, or nothing can go on
  abbrev pub at_rest : Bool → Configuration S → Configuration S
  at_rest true c = in_mode (done 0) c
  at_rest false c = in_mode (stopping (failed fault.Deadlock)) c

  -- at a point, with the ready threads and the running tasks: one thread alone goes on without an ask
  abbrev pub chosen : Configuration S → List ℕ → List ℕ → Move S
  chosen c [] [] = Goes (at_rest (all_ended c) c)
  chosen c (k ∷ []) [] = Goes (in_mode (turn_of k []) c)
  chosen c ks ns = asking c (Next ks ns) (chosen_by c)

  -- the task that starts next, with its number
  abbrev pub next_start : Configuration S → Option (ℕ × Task)
  next_start c = startable c.cpus c.tasks >>= λ n. option_map (λ t. (n, t)) (task_at c.tasks n)

  -- at a point: first every task starts that may
  abbrev pub at_point_next : Configuration S → Option (ℕ × Task) → Move S
  at_point_next c (Some p) = asking c (Start p.0 p.1.attempt p.1.made.command) (λ reply. with_tasks (started p.0 c.tasks) c)
  at_point_next c None = chosen c (ready c) (running c.tasks)

-- the path of each file, the bytes that a state is saved as, and what a thread does next
module _ {S : Type 0} (files : List (List ℕ)) (image : Configuration S → List ℕ) (step : S → ThreadAct S) where
  abbrev pub move_in : Configuration S → Mode → Move S
  move_in c at_point = at_point_next c (next_start c)
  move_in c (turn_of k stamps) = turn files image step k stamps c
  move_in c (stopping cause) = stopped c cause (running c.tasks)
  move_in c saving = saved c (image c)
  move_in c faulted = Asks (Tells (message_of fault.Device)) (λ reply. in_mode fault_told c)
  move_in c fault_told = Ends DeviceFault
  move_in c (done status) = Ends (Done status)

  -- what a configuration does next
  abbrev pub move : Configuration S → Move S
  move c = move_in c c.mode
