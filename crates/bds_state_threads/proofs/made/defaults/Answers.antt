use Rattle.bds_state_threads.proofs.Locals.{not_void}
use Rattle.bds_state_threads.proofs.made.defaults.Goals as goal

pub default_of-requires : goal.default_of-requires
default_of-requires c = not_void c.args.types.now c.loop-ty.ty-index c.ty-item.result c.loop-ty-test.true c.ty-item.is c.requires
