use Rattle.std.proofs.Common.{◌≡◌, ◌≤◌, ◌+◌, length}
use Rattle.bds_code_frames.specs.Stack.{stack}
use Rattle.bds_machine_values.proofs.Stepping.{Steps}
use Rattle.bds_machine_values.proofs.route.take_path.Given as goal

abbrev pub invariant-loop-i : goal.invariant-loop-i
invariant-loop-i l = Steps l.kinds (stack l.fn.frames) l.i (stack l.frames) l.steps.items × (length l.steps.items + l.i ≡ length l.kinds) × (length l.kinds ≤ l.steps.cap)
