use Rattle.std.proofs.Common.{◌+◌, arith, refl}
use Rattle.bds_tasks.proofs.MakerLaws.{makers_on}
use Rattle.bds_tasks.proofs.makers.put_tasks.Goals as goal

pub loop-i-preserved : goal.loop-i-preserved
loop-i-preserved c =
    makers_on c.args.tasks.now c.loop-i.i (c.loop-i.i + 1) c.index-tasks-i.result c.as_slice.result.now
    c.loop-i.makers.entries c.put_files.new.makers.entries (omega arith) c.index-tasks-i.is refl c.as_slice.ensures
    c.in_ok-put_files.ensures c.loop-i.invariant
