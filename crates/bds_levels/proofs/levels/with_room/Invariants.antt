use Rattle.std.proofs.Common.{◌≡◌, ◌++◌, replicate, take}
use Rattle.bds_levels.specs.Least.{NEVER}
use Rattle.bds_levels.proofs.levels.with_room.Given as goal

abbrev pub invariant-loop-n : goal.invariant-loop-n
invariant-loop-n l = l.out ≡ take l.n-index l.numbers

abbrev pub invariant-loop : goal.invariant-loop
invariant-loop l = l.out ≡ l.numbers ++ replicate l.counter NEVER
