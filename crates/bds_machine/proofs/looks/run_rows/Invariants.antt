use Rattle.std.proofs.Common.{◌≡◌, ◌+◌, ◌-◌}
use Rattle.bds_code_frames.specs.Stack.{stack}
use Rattle.bds_machine.specs.Looks.{worked_rows}
use Rattle.bds_machine.proofs.looks.run_rows.Given as goal

abbrev pub invariant-loop-k : goal.invariant-loop-k
invariant-loop-k l = worked_rows l.function l.count l.from l.globals (stack l.fn.frames) ≡ worked_rows l.function (l.count - l.k) (l.from + l.k) l.globals (stack l.frames)
