use Rattle.bds_goal.specs.Spreading.{unmarked}
use Rattle.bds_goal.specs.Placing.{Walking}
use Rattle.bds_goal.proofs.order.walk.Given as goal

abbrev pub invariant-loop-seen : goal.invariant-loop-seen
invariant-loop-seen l = Walking l.edges l.left l.seen.items l.path l.here

abbrev pub decreases-loop-seen : goal.decreases-loop-seen
decreases-loop-seen l = unmarked l.seen.items
