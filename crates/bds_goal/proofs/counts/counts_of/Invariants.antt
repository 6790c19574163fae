use Rattle.std.proofs.Common.{◌≡◌, map, take}
use Rattle.bds_goal.specs.Counts.{count_in}
use Rattle.bds_goal.proofs.counts.counts_of.Given as goal

abbrev pub invariant-loop-numbers : goal.invariant-loop-numbers
invariant-loop-numbers l = l.counts.items ≡ map (count_in l.left) (take l.numbers-index l.edges)
