-- The bytes as which a configuration of the machine's threads is saved: those of the state that it is seen from.
use Rattle.std.specs.Prelude.{ℕ, List, [], map, reverse}
use Rattle.bds_value.specs.declared.ids.Id.{Id}
use Rattle.bds_value.specs.declared.ids.Id.TheVariants as id
use Rattle.bds_value.specs.declared.ids.Status.TheVariants as status
use Rattle.bds_code.specs.declared.unit.Unit.{Unit as CodeUnit}
use Rattle.bds_code_frames.specs.declared.frame.Frame.{Frame}
use Rattle.bds_code_frames.specs.declared.thread.Thread.{Thread}
use Rattle.bds_code_frames.specs.Stack.{Call, Stack}
use Rattle.bds_schedule.specs.Configuration.{Life, Ready, Waits, Closes, Ended}
use Rattle.bds_schedule.specs.Configuration as meaning
use Rattle.bds_schedule.specs.Ids.{of_task, of_thread}
use Rattle.bds_schedule.specs.Ids as meaning_ids
use Rattle.bds_sim.specs.Threads as sim
use Rattle.bds_sim.specs.MachineRun.{State}
use Rattle.bds_state.specs.Parts.{Parts}
use Rattle.bds_state.specs.StateSpelling.{spells2}

abbrev pub id_of : meaning_ids.Id → Id
id_of (of_task n) = id.Task n
id_of (of_thread n) = id.Thread n

-- a call with its last operand last
abbrev pub frame_of : Call → Frame
frame_of c = record { function = c.function; place = c.place; slots = c.slots; operands = reverse c.ops }

-- the oldest call first
abbrev pub frames_of : Stack → List Frame
frames_of s = reverse (map frame_of s)

abbrev pub thread_of : ℕ → Life sim.Parts → Thread
thread_of parent (Ready m) = record { parent = parent; status = status.Ready; globals = m.globals; frames = frames_of m.calls }
thread_of parent (Waits ids m) = record { parent = parent; status = status.Waiting (map id_of ids); globals = m.globals; frames = frames_of m.calls }
thread_of parent (Closes ids m) = record { parent = parent; status = status.Waiting (map id_of ids); globals = m.globals; frames = frames_of m.calls }
thread_of parent Ended = record { parent = parent; status = status.Ended; globals = []; frames = [] }

-- the unit, and the state of a configuration
abbrev pub state_of : CodeUnit → State → Parts
state_of u d = record { unit = u; threads = map (λ (t : meaning.Thread sim.Parts). thread_of t.parent t.life) d.threads; tasks = d.tasks; rules = d.rules; path = d.path }

abbrev pub image : CodeUnit → State → List ℕ
image u d = spells2 (state_of u d)
