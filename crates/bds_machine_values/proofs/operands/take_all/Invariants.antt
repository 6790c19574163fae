use Rattle.std.proofs.Common.{◌≡◌, ◌≤◌, reverse, length, Some}
use Rattle.bds_code_frames.specs.Stack.{stack}
use Rattle.bds_machine_values.specs.Operands.{taken_all}
use Rattle.bds_machine_values.proofs.operands.take_all.Given as goal

abbrev pub invariant-loop : goal.invariant-loop
invariant-loop l =
    (taken_all l.counter (stack l.fn.frames) ≡ Some (reverse l.taken.items, stack l.frames)) × (length l.taken.items ≡ l.counter) × (l.count ≤ l.taken.cap)
