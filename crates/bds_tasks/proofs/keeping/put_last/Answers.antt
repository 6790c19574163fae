use Rattle.std.proofs.Common.{rules}
use Rattle.bds_tasks.proofs.KeptLaws.{last_kept}
use Rattle.bds_tasks.proofs.keeping.put_last.Goals as goal

pub returns : goal.returns
returns c =
    let kept = last_kept c.args.tasks.now c.args.task.now c.args.schedule.now c.requires.lacks in
    search rules
