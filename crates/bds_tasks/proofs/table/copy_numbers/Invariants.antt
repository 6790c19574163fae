use Rattle.std.proofs.Common.{◌≡◌, take}
use Rattle.bds_tasks.proofs.table.copy_numbers.Given as goal

abbrev pub invariant-loop-n : goal.invariant-loop-n
invariant-loop-n l = l.copies ≡ take l.n-index l.numbers
