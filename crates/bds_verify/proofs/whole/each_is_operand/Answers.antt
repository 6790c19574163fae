use Rattle.std.proofs.Common.{◌≡◌, ◌+◌, ◌&&◌, drop, false, true, sym, ap, ◌∙◌, arith}
use Rattle.std.specs.List.{list_all}
use Rattle.std.proofs.lemmas.Grind.{common_steps}
use Rattle.bds_verify.specs.Whole.{is_value_ty}
use Rattle.bds_verify.proofs.WholeLaws.{all_step}
use Rattle.bds_verify.proofs.whole.each_is_operand.Goals as goal

pub returns-then-not-is_value_ty : goal.returns-then-not-is_value_ty
returns-then-not-is_value_ty c =
    let ts = c.args.shape.now in
    let n = c.loop-place.place in
    let t = c.at.result.now in
    let bad : is_value_ty t ≡ false = grind (arith, common_steps) in
    let step = all_step is_value_ty ts n t c.at.ensures in
    sym (sym c.loop-place.invariant ∙ step ∙ ap (λ b. b && list_all is_value_ty (drop (n + 1) ts)) bad)

pub loop-place-preserved : goal.loop-place-preserved
loop-place-preserved c =
    let ts = c.args.shape.now in
    let n = c.loop-place.place in
    let t = c.at.result.now in
    let good : is_value_ty t ≡ true = grind (arith, common_steps) in
    let step = all_step is_value_ty ts n t c.at.ensures in
    sym (step ∙ ap (λ b. b && list_all is_value_ty (drop (n + 1) ts)) good) ∙ c.loop-place.invariant
