-- What holds at each reply, and how a run stops.
use Rattle.std.specs.Prelude.{ℕ, List, [], ◌∷◌, ◌++◌, codes, slice_get, unwrap_or}
use Rattle.bds_value.specs.declared.value.At.{At}
use Rattle.bds_host.specs.declared.asks.Ask.{Ask}
use Rattle.bds_host.specs.declared.asks.Ask.TheVariants.{Err as Tells, Next, Save}
use Rattle.bds_host.specs.declared.asks.Reply.{Reply}
use Rattle.bds_host.specs.declared.asks.Reply.TheVariants.{Fault as Faulted, Ended}
use Rattle.bds_value.specs.declared.faults.RunFault.{RunFault}
use Rattle.bds_host.specs.declared.faults.Fault.TheVariants as fault
use Rattle.bds_host.specs.Message.{message_of}
use Rattle.bds_tasks.specs.Ends.{ended}
use Rattle.bds_schedule.specs.Configuration.{Configuration, Cause, exited, failed, task_failed, stopping, saving, faulted, done, in_mode, with_tasks}
use Rattle.bds_schedule.specs.Steps.{Step, Goes, Asks}

-- how a run ends: with a status, with the budget spent, or by a fault of the device
pub data End : Type 0 where
  Done : ℕ → End
  Spent : End
  DeviceFault : End

-- what a configuration does next
abbrev pub Move : Type 0 → Type 0
Move S = Step (Configuration S) End

-- the path beside the script at which a state is saved
abbrev pub checkpoint_of : List ℕ → List ℕ
checkpoint_of path = path ++ codes ".chp"

module _ {S : Type 0} where
  -- behind a reply: a fault is told, whatever else would come
  abbrev pub unless_fault : Configuration S → Reply → Configuration S → Configuration S
  unless_fault c Faulted next = in_mode faulted c
  unless_fault c reply next = next

  -- an ask; a fault in reply is told
  abbrev pub asking : Configuration S → Ask → (Reply → Configuration S) → Move S
  asking c ask next = Asks ask (λ reply. unless_fault c reply (next reply))

  -- the run stops by a fault at a node
  abbrev pub fails : List (List ℕ) → Configuration S → At → RunFault → Configuration S
  fails files c at f = in_mode (stopping (failed (fault.Run (unwrap_or (slice_get files at.file) c.path) at.line f))) c

  -- the end of a task that runs
  abbrev pub task_ended : Configuration S → Reply → Configuration S
  task_ended c (Ended n code) = with_tasks (ended n code c.tasks) c
  task_ended c reply = c

  abbrev pub told : Configuration S → Cause → Move S
  told c (exited status) = Goes (in_mode (done status) c)
  told c (failed f) = asking c (Tells (message_of f)) (λ reply. in_mode (done 1) c)
  told c (task_failed n code) = asking c (Tells (message_of (fault.TaskFailed n code))) (λ reply. in_mode saving c)

  -- nothing more is started: the ends of the running tasks come first, and then the cause is told
  abbrev pub stopped : Configuration S → Cause → List ℕ → Move S
  stopped c cause [] = told c cause
  stopped c cause (n ∷ ns) = asking c (Next [] (n ∷ ns)) (task_ended c)

  -- the state behind a task that failed is saved beside the script
  abbrev pub saved : Configuration S → List ℕ → Move S
  saved c image = asking c (Save (checkpoint_of c.path) image) (λ reply. in_mode (done 1) c)
