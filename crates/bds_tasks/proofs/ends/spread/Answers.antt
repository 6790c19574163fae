use Rattle.std.proofs.Common.{◌≡◌, ◌∙◌, List, false, subst, sym}
use Rattle.bds_tasks.specs.declared.task.Task.{Task}
use Rattle.bds_tasks.specs.Kept.{IsSchedule}
use Rattle.bds_tasks.specs.Tasks.{is_bad, passes}
use Rattle.bds_tasks.proofs.KeptLaws.{end_within}
use Rattle.bds_tasks.proofs.LikeLaws.{cancelled_kept}
use Rattle.bds_tasks.proofs.ReadLaws.{judged_fine, passes_read}
use Rattle.bds_tasks.proofs.ends.spread.Goals as goal

pub returns-then-is_bad-clause-kept : goal.returns-then-is_bad-clause-kept
returns-then-is_bad-clause-kept c =
    let ended = c.end_badly.new.schedule in
    let kept = subst (λ (ts : List Task). IsSchedule ts ended) c.deref-then-is_bad.ensures.value
    c.end_badly.ensures.kept in
    cancelled_kept c.args.n c.args.tasks.now.items c.cancel_users.new.tasks.items ended c.cancel_users.new.keys kept
    c.end_badly.ensures.lost c.cancel_users.ensures.tasks c.cancel_users.ensures.keys

pub returns-else-is_bad-clause-tasks : goal.returns-else-is_bad-clause-tasks
returns-else-is_bad-clause-tasks c =
    let n = c.args.n in
    let ts : List Task = c.args.tasks.now.items in
    let read = passes_read is_bad ts n c.index-task.result.now (end_within n ts c.args.schedule.now c.requires)
    c.index-task.ensures in
    let fine : passes is_bad ts n ≡ false = read ∙ sym c.is_bad.ensures ∙ c.if-is_bad.false in
    judged_fine n ts fine
