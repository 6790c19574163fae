use Rattle.std.proofs.Common.{◌≡◌, drop, length}
use Rattle.bds_tasks.specs.Kept.{all_cancelled, all_marked}
use Rattle.bds_tasks.proofs.ends.cancel_each.Given as goal

abbrev pub invariant-loop-m : goal.invariant-loop-m
invariant-loop-m l =
    (all_cancelled l.n (drop l.m-index l.numbers) l.tasks.items ≡ all_cancelled l.n l.numbers l.fn.tasks.items)
    × (all_marked l.n (drop l.m-index l.numbers) l.tasks.items l.keys ≡ all_marked l.n l.numbers l.fn.tasks.items
    l.fn.keys)
    × (length l.keys ≡ length l.tasks.items)
