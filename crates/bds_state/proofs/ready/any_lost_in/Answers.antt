use Rattle.std.proofs.Common.{sym}
use Rattle.bds_state.proofs.OverLaws.{none_named}
use Rattle.bds_state.proofs.ready.any_lost_in.Goals as goal

pub returns-then-none_lost : goal.returns-then-none_lost
returns-then-none_lost c = sym (none_named c.args.tasks.now (c.none_lost.ensures c.if-none_lost.true) c.args.ids.now)
