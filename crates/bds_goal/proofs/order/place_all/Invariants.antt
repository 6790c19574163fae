use Rattle.bds_goal.specs.Counts.{AreCounts}
use Rattle.bds_goal.specs.Placing.{Placing, marked}
use Rattle.bds_goal.proofs.order.place_all.Given as goal

abbrev pub invariant-loop-n : goal.invariant-loop-n
invariant-loop-n l = Placing l.edges l.fn.left.items l.left.items l.placed l.start l.freed.keys
    × AreCounts l.edges l.left.items l.counts.items

abbrev pub decreases-loop-n : goal.decreases-loop-n
decreases-loop-n l = marked l.left.items
