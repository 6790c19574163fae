use Rattle.std.proofs.Common.{◌≡◌, ◌+◌, ◌-◌, length, take}
use Rattle.bds_code_frames.proofs.frames.cut.Given as goal

abbrev pub invariant-loop : goal.invariant-loop
invariant-loop l = l.values.items ≡ take (length l.fn.values.items + l.begin - l.counter) l.fn.values.items
