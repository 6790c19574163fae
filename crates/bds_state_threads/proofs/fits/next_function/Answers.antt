use Rattle.std.proofs.Common.{◌+◌, arith}
use Rattle.bds_state_threads.proofs.Placed.{number-there, number-none}
use Rattle.bds_state_threads.proofs.fits.next_function.Goals as goal

pub returns-then-i-total : goal.returns-then-i-total
returns-then-i-total c = number-there c.args.frames.now (c.args.i + 1) c.head-number.result c.head-number.ensures

pub returns-else-i-total : goal.returns-else-i-total
returns-else-i-total c = number-none c.args.frames.now (c.args.i + 1) (omega (arith, c.count-total.ensures, c.if-i-total.false))
