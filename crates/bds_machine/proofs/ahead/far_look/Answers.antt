use Rattle.std.proofs.Common.{arith}
use Rattle.bds_machine.proofs.FarLooks.{above_first, above_next, above_end}
use Rattle.bds_machine.proofs.ahead.far_look.Goals as goal

pub loop-k-init : goal.loop-k-init
loop-k-init c = (omega arith, above_first c.args.function.now c.args.at)

pub loop-k-preserved : goal.loop-k-preserved
loop-k-preserved c =
    let l = c.loop-k in
    let found = c.in-Some.ensures in
    let low = l.invariant.0 in
    let most = found.0 in
    (omega (arith, low, most), above_next c.args.function.now c.args.at l.k l.depth c.in-Some.deeper found.1.0 l.invariant.1 found.1.1 found.1.2)

pub returns-then-ends : goal.returns-then-ends
returns-then-ends c =
    let l = c.loop-k in
    let end = c.is_end-ends.ensures c.if-ends.true in
    let few = c.loop-k-test.true in
    (above_end c.args.function.now c.args.at l.k l.depth l.invariant.1 end.0, end.1, omega (arith, few))
