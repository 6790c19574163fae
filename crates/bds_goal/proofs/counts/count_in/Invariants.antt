use Rattle.std.proofs.Common.{◌≡◌, ◌+◌, ◌≤◌, drop}
use Rattle.bds_goal.specs.Counts.{count_in}
use Rattle.bds_goal.proofs.counts.count_in.Given as goal

abbrev pub invariant-loop-n : goal.invariant-loop-n
invariant-loop-n l =
    (l.count + count_in l.marks (drop l.n-index l.numbers) ≡ count_in l.marks l.numbers) × (l.count ≤ l.n-index)
