use Rattle.std.proofs.Common.{◌≡◌, drop}
use Rattle.bds_goal.specs.Counts.{lowered}
use Rattle.bds_goal.proofs.counts.lower.Given as goal

abbrev pub invariant-loop-n : goal.invariant-loop-n
invariant-loop-n l = lowered (drop l.n-index l.numbers) l.counts.items ≡ lowered l.numbers l.fn.counts.items
