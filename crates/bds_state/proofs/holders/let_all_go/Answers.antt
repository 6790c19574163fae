use Rattle.std.proofs.Common.{◌∙◌, ◌<◌, length, rules}
use Rattle.bds_state.proofs.HolderLaws.{less_on, none_more}
use Rattle.bds_state.proofs.holders.let_all_go.Goals as goal

pub loop-i-preserved : goal.loop-i-preserved
loop-i-preserved c =
    let before = c.loop-i.invariant in
    let within : c.loop-i.i < length c.args.threads.now = search rules in (
      none_more c.args.task c.args.threads.now c.loop-i.i c.loop-i.tasks c.let_go.new.tasks within before.0
          c.let_go.ensures.less c.let_go.ensures.none,
      less_on c.args.tasks.now c.loop-i.tasks c.let_go.new.tasks before.1 c.let_go.ensures.less,
      c.let_go.ensures.long ∙ before.2,
    )
