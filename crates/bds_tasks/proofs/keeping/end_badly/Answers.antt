use Rattle.std.proofs.Common.{◌∙◌, rules}
use Rattle.bds_tasks.proofs.KeptLaws.{badly_kept, end_changes, end_new, out_of, out_of_running}
use Rattle.bds_tasks.proofs.keeping.end_badly.Goals as goal

pub take_out-requires : goal.take_out-requires
take_out-requires c = (out_of_running c.args.n c.args.tasks.now c.args.schedule.now c.requires.behind).0

pub returns : goal.returns
returns c =
    let kept = badly_kept c.args.n c.args.tasks.now c.args.schedule.now c.requires.behind c.requires.bad in
    let n = c.args.n in
    let now = c.args.tasks.now in
    let s = c.args.schedule.now in
    let behind = c.requires.behind in
    let summed = out_of now n (end_new n now s behind) c.without-schedule.result s.busy
    (end_changes n now s behind).here c.without-schedule.ensures ∙ kept.summed in
    search rules
