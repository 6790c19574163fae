use Rattle.std.proofs.Common.{◌≡◌, ◌-◌, ◌∙◌, ℕ, List, ap, get_or, slice_set}
use Rattle.bds_tasks.specs.declared.task.Task.{Task}
use Rattle.bds_tasks.specs.Kept.{key_by}
use Rattle.bds_tasks.proofs.KeptLaws.{again_kept, end_changes, end_new, end_within, out_of, out_of_running}
use Rattle.bds_tasks.proofs.ReadLaws.{task_read}
use Rattle.bds_tasks.proofs.keeping.end_again.Goals as goal

pub take_out-requires : goal.take_out-requires
take_out-requires c = (out_of_running c.args.n c.args.tasks.now c.args.schedule.now c.requires.behind).0

pub returns : goal.returns
returns c =
    let n = c.args.n in
    let now = c.args.tasks.now in
    let s = c.args.schedule.now in
    let behind = c.requires.behind in
    let kept = again_kept n now s behind c.requires.good c.requires.bad in
    let task : c.index-tasks-at.result ≡ end_new n now s behind = task_read now (n - 1) c.index-tasks-at.result
    (end_new n now s behind) (end_changes n now s behind).here (end_within n now s behind) c.index-tasks-at.is in
    let key : c.key_of.result ≡ key_by (end_new n now s behind) (get_or s.unmet (n - 1) 0) =
    c.key_of.ensures ∙ ap (λ (t : Task). key_by t (get_or c.as_slice.result.now (n - 1) 0)) task
    ∙ ap (λ (ns : List ℕ). key_by (end_new n now s behind) (get_or ns (n - 1) 0)) c.as_slice.ensures in
    record {
      counted = kept.counted;
      users = kept.users;
      keyed = c.put.ensures ∙ ap (λ k. slice_set s.keys (n - 1) k) key ∙ kept.keyed;
      going = c.take_out.ensures ∙ kept.going;
      summed = out_of c.args.tasks.now n (end_new n now s behind) c.without-schedule.result s.busy
          (end_changes n now s behind).here c.without-schedule.ensures ∙ kept.summed;
      lost = kept.lost;
    }
