use Rattle.std.proofs.Common.{arith}
use Rattle.bds_goal.proofs.CountLaws.{counts_end}
use Rattle.bds_goal.proofs.counts.counts_of.Goals as goal

pub returns : goal.returns
returns c = counts_end c.args.left.now c.args.edges.now c.loop-numbers.counts.items c.loop-numbers.numbers-index
    c.loop-numbers.invariant (omega arith)
