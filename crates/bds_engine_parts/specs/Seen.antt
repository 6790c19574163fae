-- A state with the place at which its run stands, as a configuration of the machine's threads.
use Rattle.std.specs.Prelude.{ℕ, List, [], ◌∷◌, map}
use Rattle.bds_value.specs.declared.ids.Id.{Id}
use Rattle.bds_value.specs.declared.ids.Id.TheVariants as id
use Rattle.bds_value.specs.declared.ids.Status.{Status}
use Rattle.bds_value.specs.declared.ids.Status.TheVariants as status
use Rattle.bds_code_frames.specs.declared.frame.Frame.{Frame}
use Rattle.bds_code_frames.specs.declared.thread.Thread.{Thread}
use Rattle.bds_code_frames.specs.Stack.{stack}
use Rattle.bds_schedule.specs.Configuration.{Life, Ready, Waits, Closes, Ended, Mode, at_point}
use Rattle.bds_schedule.specs.Configuration as meaning
use Rattle.bds_schedule.specs.Ids.{of_task, of_thread}
use Rattle.bds_schedule.specs.Ids as meaning_ids
use Rattle.bds_sim.specs.Threads as sim
use Rattle.bds_sim.specs.MachineRun.{State}
use Rattle.bds_state.specs.Parts.{Parts, with_tasks}
use Rattle.bds_tasks.specs.Tasks.{revived_task}

abbrev pub id_seen : Id → meaning_ids.Id
id_seen (id.Task n) = of_task n
id_seen (id.Thread n) = of_thread n

-- globals and calls
abbrev pub code_seen : Thread → sim.Parts
code_seen t = record { globals = t.globals; calls = stack t.frames }

-- a thread that waits without frames has come to the end of its code
abbrev pub waiting_seen : List Frame → List meaning_ids.Id → sim.Parts → Life sim.Parts
waiting_seen [] ids m = Closes ids m
waiting_seen (f ∷ fs) ids m = Waits ids m

abbrev pub life_seen : Status → Thread → Life sim.Parts
life_seen status.Ready t = Ready (code_seen t)
life_seen (status.Waiting ids) t = waiting_seen t.frames (map id_seen ids) (code_seen t)
life_seen status.Ended t = Ended

abbrev pub thread_seen : Thread → meaning.Thread sim.Parts
thread_seen t = record { parent = t.parent; life = life_seen t.status t }

-- with so many processors, a budget of ticks of which so many are used, and a mode
abbrev pub seen : Parts → ℕ → ℕ → ℕ → Mode → State
seen s cpus budget used mode = record { path = s.path; cpus = cpus; budget = budget; used = used; threads = map thread_seen s.threads; tasks = s.tasks; rules = s.rules; mode = mode }

-- where a run begins
abbrev pub opening : Parts → ℕ → ℕ → State
opening s cpus budget = seen s cpus budget 0 at_point

-- a state that was loaded, as its run begins: each task without a good end waits again
abbrev pub revived_state : Parts → Parts
revived_state s = with_tasks (map revived_task s.tasks) s
