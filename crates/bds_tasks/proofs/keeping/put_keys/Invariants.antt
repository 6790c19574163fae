use Rattle.std.proofs.Common.{◌≡◌, drop, length}
use Rattle.bds_tasks.specs.Kept.{with_keys}
use Rattle.bds_tasks.proofs.keeping.put_keys.Given as goal

abbrev pub invariant-loop-m : goal.invariant-loop-m
invariant-loop-m l = (with_keys l.tasks l.counts (drop l.m-index l.numbers) l.keys ≡ with_keys l.tasks l.counts
    l.numbers l.fn.keys) × (length l.keys ≡ length l.tasks)
