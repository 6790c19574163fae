use Rattle.bds_tasks.proofs.MakerLaws.{files_on, none_yet}
use Rattle.bds_tasks.proofs.makers.put_files.Goals as goal

pub loop-file-init : goal.loop-file-init
loop-file-init c = none_yet c.args.tasks.now c.args.n c.args.makers.now.entries

pub loop-file-preserved : goal.loop-file-preserved
loop-file-preserved c =
    files_on c.args.tasks.now c.args.files.now c.loop-file.file-index c.args.n c.file-item.result c.as_slice.result.now
    c.args.makers.now.entries c.loop-file.makers.entries c.put.new.makers.entries
    c.loop-file-test.true c.file-item.is c.as_slice.ensures c.loop-file.invariant c.in_ok-put.ensures
