use Rattle.std.proofs.Common.{◌≡◌, ◌-◌, suc, arith}
use Rattle.bds_gen_expr.proofs.Slots.{callees-next}
use Rattle.bds_gen_expr.proofs.names.callees_of.Goals as goal

pub loop-i-preserved : goal.loop-i-preserved
loop-i-preserved c =
    let i = c.loop-i.i - 1 in
    let next : c.loop-i.i ≡ suc i = omega (arith, c.loop-i-test.true) in (
      callees-next c.args.names.now i c.loop-i.i c.index-names-i.result c.in_ok-callee.callee c.loop-i.callees c.push.new.self next (omega (arith, c.loop-i-test.true, c.loop-i.invariant.1))
          c.index-names-i.is c.in_ok-callee.ensures c.in_ok-push.ensures.ok c.loop-i.invariant.0,
      omega (arith, c.loop-i.invariant.1),
    )
