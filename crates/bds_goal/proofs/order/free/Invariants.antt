use Rattle.std.proofs.Common.{◌≡◌, drop}
use Rattle.bds_goal.specs.Counts.{goes}
use Rattle.bds_goal.specs.Marks.{freed_with}
use Rattle.bds_goal.proofs.order.free.Given as goal

abbrev pub invariant-loop-u : goal.invariant-loop-u
invariant-loop-u l = freed_with (goes l.left l.counts) l.start (drop l.u-index l.users) l.freed.keys ≡ freed_with
    (goes l.left l.counts) l.start l.users l.fn.freed.keys
