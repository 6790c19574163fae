use Rattle.std.proofs.Common.{arith}
use Rattle.bds_engine_parts.proofs.Naming.{task_named, task_unnamed}
use Rattle.bds_engine_parts.proofs.ids.task_of.Goals as goal

pub returns-then-n-lt1 : goal.returns-then-n-lt1
returns-then-n-lt1 c =
    task_unnamed c.args.tasks c.args.threads c.args.text.now c.ranges.tasks.fits c.ranges.threads.fits c.args.n c.ranges.n.fits c.requires (λ o l. omega (arith, c.if-n-lt1.true, o))

pub returns-then-n-tasks : goal.returns-then-n-tasks
returns-then-n-tasks c =
    task_named c.args.tasks c.args.threads c.args.text.now c.ranges.tasks.fits c.ranges.threads.fits c.args.n c.ranges.n.fits c.requires (omega (arith, c.if-n-lt1.false)) c.if-n-tasks.true

pub returns-else-n-tasks : goal.returns-else-n-tasks
returns-else-n-tasks c =
    task_unnamed c.args.tasks c.args.threads c.args.text.now c.ranges.tasks.fits c.ranges.threads.fits c.args.n c.ranges.n.fits c.requires (λ o l. omega (arith, c.if-n-tasks.false, l))
