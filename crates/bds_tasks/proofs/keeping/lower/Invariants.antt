use Rattle.std.proofs.Common.{◌≡◌, drop}
use Rattle.bds_tasks.specs.Kept.{lowered}
use Rattle.bds_tasks.proofs.keeping.lower.Given as goal

abbrev pub invariant-loop-m : goal.invariant-loop-m
invariant-loop-m l = lowered (drop l.m-index l.numbers) l.counts ≡ lowered l.numbers l.fn.counts
