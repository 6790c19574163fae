use Rattle.std.proofs.Common.{◌-◌, ◌∙◌, List, Option, Some, ap, slice_set, subst, sym}
use Rattle.std.specs.Option.{option_map}
use Rattle.bds_tasks.specs.declared.schedule.Schedule.{Schedule}
use Rattle.bds_tasks.specs.declared.task.Task.{Task}
use Rattle.bds_tasks.specs.Ends.{end_of, judged}
use Rattle.bds_tasks.specs.Kept.{MayHaveSchedule}
use Rattle.bds_tasks.specs.Tasks.{is_bad}
use Rattle.bds_tasks.proofs.ReadLaws.{ended_is, judged_bad, judged_fine, passes_set, task_there}
use Rattle.bds_tasks.proofs.ends.ended.Goals as goal

pub spread-requires : goal.spread-requires
spread-requires c =
    let ts : List Task = c.args.tasks.now.items in
    let at = task_there ts c.args.n c.index_mut.result.now c.requires.there.0 c.requires.there.1
    c.index_mut.ensures.value in
    record {
      before = ts;
      code = c.args.code;
      one = c.requires.there.0;
      are = c.requires.are;
      ran = c.requires.runs;
      is = ended_is c.args.n c.args.code ts c.index_mut.result.now c.end_task-end.new.task at
          c.end_task-end.ensures.task;
      kept = subst (λ (o : Option Schedule). MayHaveSchedule ts o) c.in-Some.is c.requires.kept;
    }

pub returns-in-Some-clause-tasks : goal.returns-in-Some-clause-tasks
returns-in-Some-clause-tasks c =
    let n = c.args.n in
    let ts : List Task = c.args.tasks.now.items in
    let at = task_there ts n c.index_mut.result.now c.requires.there.0 c.requires.there.1 c.index_mut.ensures.value in
    let is = ended_is n c.args.code ts c.index_mut.result.now c.end_task-end.new.task at c.end_task-end.ensures.task in
    c.spread.ensures.tasks ∙ ap (judged n) is

pub returns-in-Some-clause-end : goal.returns-in-Some-clause-end
returns-in-Some-clause-end c =
    let at = task_there c.args.tasks.now.items c.args.n c.index_mut.result.now c.requires.there.0 c.requires.there.1
    c.index_mut.ensures.value in
    ap (λ (o : Option Task). option_map (end_of c.args.code) o) at ∙ ap Some (sym c.end_task-end.ensures.end)

pub returns-then-is_bad-clause-tasks : goal.returns-then-is_bad-clause-tasks
returns-then-is_bad-clause-tasks c =
    let n = c.args.n in
    let ts : List Task = c.args.tasks.now.items in
    let at = task_there ts n c.index_mut.result.now c.requires.there.0 c.requires.there.1 c.index_mut.ensures.value in
    let is = ended_is n c.args.code ts c.index_mut.result.now c.end_task-end.new.task at c.end_task-end.ensures.task in
    let bad = passes_set is_bad ts n c.index_mut.result.now c.end_task-end.new.task c.index.result.now at
    c.index.ensures ∙ sym c.is_bad.ensures ∙ c.if-is_bad.true in
    c.cancel.ensures ∙ judged_bad n (slice_set ts (n - 1) c.end_task-end.new.task) bad ∙ ap (judged n) is

pub returns-then-is_bad-clause-end : goal.returns-then-is_bad-clause-end
returns-then-is_bad-clause-end c =
    let at = task_there c.args.tasks.now.items c.args.n c.index_mut.result.now c.requires.there.0 c.requires.there.1
    c.index_mut.ensures.value in
    ap (λ (o : Option Task). option_map (end_of c.args.code) o) at ∙ ap Some (sym c.end_task-end.ensures.end)

pub returns-else-is_bad-clause-tasks : goal.returns-else-is_bad-clause-tasks
returns-else-is_bad-clause-tasks c =
    let n = c.args.n in
    let ts : List Task = c.args.tasks.now.items in
    let at = task_there ts n c.index_mut.result.now c.requires.there.0 c.requires.there.1 c.index_mut.ensures.value in
    let is = ended_is n c.args.code ts c.index_mut.result.now c.end_task-end.new.task at c.end_task-end.ensures.task in
    let fine = passes_set is_bad ts n c.index_mut.result.now c.end_task-end.new.task c.index.result.now at
    c.index.ensures ∙ sym c.is_bad.ensures ∙ c.if-is_bad.false in
    judged_fine n (slice_set ts (n - 1) c.end_task-end.new.task) fine ∙ ap (judged n) is

pub returns-else-is_bad-clause-end : goal.returns-else-is_bad-clause-end
returns-else-is_bad-clause-end c =
    let at = task_there c.args.tasks.now.items c.args.n c.index_mut.result.now c.requires.there.0 c.requires.there.1
    c.index_mut.ensures.value in
    ap (λ (o : Option Task). option_map (end_of c.args.code) o) at ∙ ap Some (sym c.end_task-end.ensures.end)
