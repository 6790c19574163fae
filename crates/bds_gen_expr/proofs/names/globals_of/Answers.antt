use Rattle.std.proofs.Common.{◌≡◌, ◌-◌, suc, arith}
use Rattle.bds_gen_expr.proofs.Slots.{globals-next}
use Rattle.bds_gen_expr.proofs.names.globals_of.Goals as goal

pub loop-i-preserved : goal.loop-i-preserved
loop-i-preserved c =
    let i = c.loop-i.i - 1 in
    let next : c.loop-i.i ≡ suc i = omega (arith, c.loop-i-test.true) in (
      globals-next c.args.names.now c.args.types.now i c.loop-i.i c.index-names-i.result c.index-types-i.result c.in_ok-global.global c.loop-i.globals c.push.new.self next (omega (arith, c.loop-i-test.true, c.loop-i.invariant.1)) (omega (arith, c.loop-i-test.true, c.loop-i.invariant.1, c.requires.same))
          c.index-names-i.is c.index-types-i.is c.in_ok-global.ensures c.in_ok-push.ensures.ok c.loop-i.invariant.0,
      omega (arith, c.loop-i.invariant.1),
    )
