use Rattle.std.proofs.Common.{◌≡◌, length, slice_get, Some, true, refl, sym, subst, arith}
use Rattle.std.proofs.lemmas.Grind.{common_steps}
use Rattle.std.proofs.lemmas.Option.{slice_get_read}
use Rattle.bds_value.specs.Types.{same_ty}
use Rattle.bds_code.proofs.ShapeLaws.{alike_on}
use Rattle.bds_code.proofs.shape.same_front.Goals as goal

pub loop-ty-preserved : goal.loop-ty-preserved
loop-ty-preserved c =
    let types = c.args.types.now in
    let there : slice_get types c.loop-ty.same ≡ Some c.ty-item.result =
    subst (λ k. slice_get types k ≡ Some c.ty-item.result) (sym c.loop-ty.invariant.at)
    (slice_get_read types (length types) c.loop-ty.ty-index c.ty-item.result refl c.loop-ty-test.true c.ty-item.is) in
    let alike : same_ty c.at.result.now c.ty-item.result ≡ true = grind (arith, common_steps) in
    record {
      same = alike_on c.args.shape.now types c.loop-ty.same c.at.result.now c.ty-item.result c.at.ensures there alike
          c.loop-ty.invariant.same;
      at = omega (arith, c.loop-ty.invariant.at);
    }
