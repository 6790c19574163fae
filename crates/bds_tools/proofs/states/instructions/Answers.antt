use Rattle.std.proofs.Common.{arith}
use Rattle.bds_tools.proofs.Sizes.{one_more_fits}
use Rattle.bds_tools.proofs.states.instructions.Goals as goal

pub overflow_add-total : goal.overflow_add-total
overflow_add-total c = omega (arith, one_more_fits c.args.unit.now c.as_slice-function-items.result.now c.loop-function.function-index c.loop-function.total c.len.result c.function-item.result c.requires c.as_slice-function-items.ensures c.loop-function-test.true c.loop-function.invariant c.function-item.is c.len.ensures)
