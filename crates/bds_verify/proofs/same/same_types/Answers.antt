use Rattle.std.proofs.Common.{◌≡◌, ◌+◌, ◌&&◌, drop, false, true, sym, ap, ◌∙◌, arith}
use Rattle.std.proofs.lemmas.Grind.{common_steps}
use Rattle.bds_value.specs.Types.{same_ty}
use Rattle.bds_verify.specs.Pass.{same_tys}
use Rattle.bds_verify.proofs.SameTys.{same_step}
use Rattle.bds_verify.proofs.same.same_types.Goals as goal

pub returns-then-not-same_ty : goal.returns-then-not-same_ty
returns-then-not-same_ty c =
    let ts = c.args.types.now in
    let us = c.args.shape.now in
    let n = c.loop-place.place in
    let t = c.index-types-place.result in
    let u = c.at.result.now in
    let differ : same_ty t u ≡ false = grind (arith, common_steps) in
    let step = same_step ts us n t u c.loop-place-test.true c.index-types-place.is c.at.ensures in
    sym (sym c.loop-place.invariant ∙ step ∙ ap (λ b. b && same_tys (drop (n + 1) ts) (drop (n + 1) us)) differ)

pub loop-place-preserved : goal.loop-place-preserved
loop-place-preserved c =
    let ts = c.args.types.now in
    let us = c.args.shape.now in
    let n = c.loop-place.place in
    let t = c.index-types-place.result in
    let u = c.at.result.now in
    let alike : same_ty t u ≡ true = grind (arith, common_steps) in
    let step = same_step ts us n t u c.loop-place-test.true c.index-types-place.is c.at.ensures in
    sym (step ∙ ap (λ b. b && same_tys (drop (n + 1) ts) (drop (n + 1) us)) alike) ∙ c.loop-place.invariant
