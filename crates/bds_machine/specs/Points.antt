-- The rows that leave the machine and wait for an answer.
use Rattle.std.specs.Prelude.{ℕ, List, length, slice_get, Some, None, Ok}
use Rattle.bds_value.specs.Options.{◌>>=◌}
use Rattle.bds_value.specs.Readers.{as_text, as_texts}
use Rattle.bds_host.specs.declared.asks.Ask.TheVariants as ask
use Rattle.bds_code.specs.declared.instr.Instr.{Instr}
use Rattle.bds_code.specs.declared.instr.Instr.TheVariants.{FileRead, FileWrite, FileRemove, FileStamp, Out, Sys, OutOfDate, NewTask, Declare, Goal, Spawn, Wait, WaitAll, Save, SaveHere}
use Rattle.bds_code.specs.declared.unit.Unit.{Unit as CodeUnit}
use Rattle.bds_code_frames.specs.Stack.{Stack}
use Rattle.bds_machine.specs.declared.point.Point.{Point}
use Rattle.bds_machine.specs.declared.point.Point.TheVariants as point
use Rattle.bds_machine_values.specs.Operands.{taken_as, taken_all}
use Rattle.bds_machine_values.specs.Faults.{Outcome, and_then}
use Rattle.bds_machine.specs.Tasks.{Work, work_taken, in_ranges, task_of, rule_of}

abbrev pub leaves : Point → Stack → Outcome (Point × Stack)
leaves p s = Some (Ok (p, s))

-- a point that takes a text
abbrev pub with_text : (List ℕ → Point) → Stack → Outcome (Point × Stack)
with_text makes s = taken_as as_text s >>= λ t. leaves (makes t.0) t.1

-- a point that takes a list of texts
abbrev pub with_texts : (List (List ℕ) → Point) → Stack → Outcome (Point × Stack)
with_texts makes s = taken_as as_texts s >>= λ ts. leaves (makes ts.0) ts.1

-- a path, and a text behind it
abbrev pub written : Stack → Outcome (Point × Stack)
written s = taken_as as_text s >>= λ text. taken_as as_text text.1 >>= λ path. leaves (point.Asks (ask.Write path.0 text.0)) path.1

-- outputs, and inputs behind them
abbrev pub compared : Stack → Outcome (Point × Stack)
compared s = taken_as as_texts s >>= λ ins. taken_as as_texts ins.1 >>= λ outs. leaves (point.Old outs.0 ins.0) outs.1

-- a point that takes what a task is made of
abbrev pub with_work : (Work → ℕ → ℕ → Point) → Stack → Outcome (Point × Stack)
with_work makes s = work_taken s >>= λ w. and_then (in_ranges w.0 (makes w.0)) (λ p. leaves p w.1)

-- the arguments of a function that a new thread is to run
abbrev pub spawned : CodeUnit → ℕ → Stack → Outcome (Point × Stack)
spawned u f s = slice_get u.functions f >>= λ callee. taken_all (length callee.params) s >>= λ args. leaves (point.Spawn f args.0) args.1

-- the point of an instruction, and the frames behind it
abbrev pub asked : CodeUnit → Instr → Stack → Outcome (Point × Stack)
asked u FileRead = with_text (λ path. point.Asks (ask.Read path))
asked u FileWrite = written
asked u FileRemove = with_text (λ path. point.Asks (ask.Remove path))
asked u (FileStamp question) = with_text (λ path. point.Asks (ask.Stamp path))
asked u Out = with_text (λ text. point.Asks (ask.Out text))
asked u Sys = with_text (λ command. point.Asks (ask.Sys command))
asked u OutOfDate = compared
asked u NewTask = with_work (λ w cpus retry. point.Task (task_of w cpus retry))
asked u Declare = with_work (λ w cpus retry. point.Declare (rule_of w cpus retry))
asked u Goal = with_texts point.Goal
asked u (Spawn f) = spawned u f
asked u Wait = with_texts point.Wait
asked u WaitAll = leaves point.WaitAll
asked u Save = with_text (λ path. point.Save (Some path))
asked u SaveHere = leaves (point.Save None)
asked u _ = λ s. None
