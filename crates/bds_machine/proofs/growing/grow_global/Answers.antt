use Rattle.std.proofs.Common.{ap, ◌∙◌, slice_set}
use Rattle.bds_machine.proofs.GrownLists.{set_held}
use Rattle.bds_machine.proofs.growing.grow_global.Goals as goal

pub returns-clause-same : goal.returns-clause-same
returns-clause-same c is = ap (slice_set c.args.globals.now c.args.slot) (c.grown.ensures.same is) ∙ set_held c.args.globals.now c.args.slot c.at_mut.result.now c.at_mut.ensures.value
