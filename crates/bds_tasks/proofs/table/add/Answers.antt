use Rattle.std.proofs.Common.{◌≡◌, ◌+◌, IfSome, List, get_or, length, rules, subst, sym}
use Rattle.bds_tasks.specs.declared.task.Task.{Task}
use Rattle.bds_tasks.specs.declared.task.TaskState.TheVariants.{Waits}
use Rattle.bds_tasks.specs.Makers.{HasMore}
use Rattle.bds_tasks.specs.Tasks.{is_needed, numbers_of}
use Rattle.bds_tasks.proofs.MakerLaws.{more_known}
use Rattle.bds_tasks.specs.Kept.{LacksLast}
use Rattle.bds_tasks.proofs.KeptLaws.{lacks_last}
use Rattle.bds_tasks.proofs.table.add.Goals as goal

pub returns-clause-known : goal.returns-clause-known
returns-clause-known c =
    let before = c.args.tasks.now.items in
    let task = c.args.task in
    let count : c.len-count.result ≡ length before = search rules in
    let now = c.put.new.tasks.items in
    let seen = c.deref.result.now in
    let outs = c.as_slice.result.now in
    let more = subst (λ (ts : List Task). HasMore ts outs (length before + 1) c.args.makers.now c.with_files.result)
    c.deref.ensures.value
    (subst (λ n. HasMore seen outs (n + 1) c.args.makers.now c.with_files.result) count
    (subst (λ o. HasMore seen outs (c.len-count.result + 1) o c.with_files.result) c.take.ensures.value
    c.with_files.ensures)) in
    more_known before now (record {
      made = task;
      needs = numbers_of (is_needed task) before;
      attempt = 0;
      state = Waits;
    }) c.index.result.now c.as_slice.result.now c.args.makers.now c.with_files.result
    c.in_ok-put.ensures.ok
    (subst (λ n. c.index.result.now ≡ get_or now n c.index.result.now) count c.index.ensures)
    c.as_slice.ensures c.requires.known more

pub with_last-requires-clause-lacks : goal.with_last-requires-clause-lacks
with_last-requires-clause-lacks c =
    let before = c.args.tasks.now.items in
    let now = c.put.new.tasks.items in
    let count : c.len-count.result ≡ length before = search rules in
    let at = c.index-2.result.now in
    let lacks = lacks_last before now c.args.task at c.args.schedule.now c.in_ok-put.ensures.ok
    (subst (λ n. at ≡ get_or now n at) count c.index-2.ensures) c.requires.are c.requires.room c.requires.legal
    c.requires.kept in
    subst (λ (ts : List Task). IfSome c.take-2.result (λ s. LacksLast ts at s)) (sym c.deref-2.ensures.value)
    (subst (λ o. IfSome o (λ s. LacksLast now at s)) (sym c.take-2.ensures.value) lacks)
