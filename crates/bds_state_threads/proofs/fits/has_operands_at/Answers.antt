use Rattle.std.proofs.Common.{◌≡◌, List, ap, ◌∙◌, subst}
use Rattle.std.specs.Bool.{Decides}
use Rattle.std.proofs.lemmas.Result.{IfOk-weaker}
use Rattle.bds_value.specs.declared.value.Ty.{Ty}
use Rattle.bds_code.specs.declared.unit.Unit.{Unit as CodeUnit}
use Rattle.bds_verify.specs.Threads.{Shapes, AreAllShapes}
use Rattle.bds_state_threads.specs.Judged.{HasOperands}
use Rattle.bds_state_threads.proofs.fits.has_operands_at.Goals as goal

pub returns : goal.returns
returns c =
    let u = c.args.unit.now in
    let f = c.args.function.now in
    let os = c.args.operands.now in
    let head = c.args.head in
    IfOk-weaker c.has_operands.result (λ b. Decides b (HasOperands c.unit.result.now f c.args.next head.1 os c.as_slice.result.now))
    (λ b. (shapes : Shapes u) → AreAllShapes u shapes → Decides b (HasOperands u f c.args.next head.1 os (shapes head.0 head.1)))
    (λ b d shapes judged.
    let same : c.as_slice.result.now ≡ shapes head.0 head.1 = c.as_slice.ensures ∙ c.in_ok-shape.ensures f c.requires.there (shapes head.0) (judged head.0 f c.requires.there) in
    subst (λ (s : List Ty). Decides b (HasOperands u f c.args.next head.1 os s)) same (subst (λ (w : CodeUnit). Decides b (HasOperands w f c.args.next head.1 os c.as_slice.result.now)) c.unit.ensures.same d))
    c.has_operands.ensures
