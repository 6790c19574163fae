-- A row as a step of a thread in a run.
use Rattle.std.specs.Prelude.{ℕ, ◌-◌, List, [], ◌∷◌, ◌++◌, map, nat_eq, slice_get, Option, Some, None, unwrap_or, if◌then◌else◌}
use Rattle.bds_value.specs.declared.value.At.{At}
use Rattle.bds_value.specs.declared.value.Value.{Value}
use Rattle.bds_value.specs.Value.{default_of}
use Rattle.bds_host.specs.declared.asks.Ask.TheVariants as ask
use Rattle.bds_code.specs.declared.instr.Instr.{Instr}
use Rattle.bds_code.specs.declared.instr.Instr.TheVariants as instr
use Rattle.bds_code.specs.declared.unit.Function.{Function}
use Rattle.bds_code.specs.declared.unit.Unit.{Unit as CodeUnit}
use Rattle.bds_code_frames.specs.Stack.{Stack, call_at, place_of}
use Rattle.bds_machine.specs.declared.point.Point.{Point}
use Rattle.bds_machine.specs.declared.point.Point.TheVariants as point
use Rattle.bds_machine.specs.Calls.{Step, On, Leaves, Ends}
use Rattle.bds_value.specs.Options.{◌>>=◌}
use Rattle.bds_machine.specs.Table.{step}
use Rattle.bds_schedule.specs.Requests.{Request, Contacts, Inspects, Compares, MakesTask, Declares, Achieves, Spawns, AwaitsIds, AwaitsAll, Saves, ThreadAct, GoesOn, Needs, Stops, Quits, Finishes}
use Rattle.bds_schedule.specs.Requests.{Question, IsThere, IsEmpty, SizeOf}
use Rattle.bds_sim.specs.Threads.{Parts, code_behind, answered}

abbrev pub no_line : At
no_line = record { file = 0; line = 0 }

-- the line of the instruction that the newest call has behind it
abbrev pub line_behind : CodeUnit → Stack → Option At
line_behind u s = place_of s >>= λ at. slice_get u.functions at.0 >>= λ f. slice_get f.lines (at.1 - 1)

abbrev pub question_at : Option Instr → Question
question_at (Some (instr.FileStamp n)) = if nat_eq n 0 then IsThere else if nat_eq n 1 then IsEmpty else SizeOf
question_at _ = SizeOf

abbrev pub locals_of : Option Function → List Value
locals_of None = []
locals_of (Some f) = map default_of f.locals

-- a new thread has its maker's globals, and a call with these arguments
abbrev pub begins : CodeUnit → List Value → ℕ → List Value → Parts
begins u g n args = record { globals = g; calls = call_at n (args ++ locals_of (slice_get u.functions n)) ∷ [] }

-- what a thread needs that has left the machine with these globals and calls
abbrev pub request_of : CodeUnit → List Value → Stack → Point → Request Parts
request_of u g s (point.Asks (ask.Stamp path)) = Inspects (question_at (code_behind u s)) path
request_of u g s (point.Asks a) = Contacts a
request_of u g s (point.Old outs ins) = Compares outs ins
request_of u g s (point.Task task) = MakesTask task
request_of u g s (point.Declare rule) = Declares rule
request_of u g s (point.Goal targets) = Achieves targets
request_of u g s (point.Spawn n args) = Spawns (begins u g n args)
request_of u g s (point.Wait texts) = AwaitsIds texts
request_of u g s (point.Save path) = Saves path
request_of u g s _ = AwaitsAll

abbrev pub behind : List Value → Stack → List Value → Parts
behind g s us = record { globals = g; calls = unwrap_or (answered us s) s }

abbrev pub left : CodeUnit → Point → List Value → Stack → ThreadAct Parts
left u point.Finished g s = Finishes (record { globals = g; calls = s })
left u p g s = Needs (unwrap_or (line_behind u s) no_line) (request_of u g s p) (behind g s)

abbrev pub ended : Point → ThreadAct Parts
ended (point.Stop fault line) = Stops line fault
ended (point.Exit status) = Quits status
ended _ = Quits 0

-- what a row does that had one tick; a valid thread has a row
abbrev pub outcome_of : CodeUnit → Option Step → ThreadAct Parts
outcome_of u None = Quits 0
outcome_of u (Some (On g s t)) = GoesOn (nat_eq t 0) (record { globals = g; calls = s })
outcome_of u (Some (Leaves p g s t)) = left u p g s
outcome_of u (Some (Ends p t)) = ended p

-- a thread's next row
abbrev pub row_step : CodeUnit → Parts → ThreadAct Parts
row_step u m = outcome_of u (step u m.globals m.calls 1)
