use Rattle.std.proofs.Common.{arith}
use Rattle.bds_engine_parts.proofs.Naming.{thread_named, thread_unnamed}
use Rattle.bds_engine_parts.proofs.ids.thread_of.Goals as goal

pub returns-then-n-threads : goal.returns-then-n-threads
returns-then-n-threads c =
    thread_named c.args.tasks c.args.threads c.args.text.now c.ranges.tasks.fits c.ranges.threads.fits c.args.n c.ranges.n.fits c.requires c.if-n-threads.true

pub returns-else-n-threads : goal.returns-else-n-threads
returns-else-n-threads c =
    thread_unnamed c.args.tasks c.args.threads c.args.text.now c.ranges.tasks.fits c.ranges.threads.fits c.args.n c.ranges.n.fits c.requires (λ l. omega (arith, c.if-n-threads.false, l))
