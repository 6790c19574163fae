use Rattle.std.proofs.Common.{◌≡◌, ℕ, List, slice_get, Some, IfOk, subst}
use Rattle.bds_value.specs.declared.value.Ty.{Ty}
use Rattle.bds_code.specs.declared.unit.Function.{Function}
use Rattle.bds_code.specs.declared.unit.Unit.{Unit as CodeUnit}
use Rattle.bds_verify.specs.Verified.{AreShapes}
use Rattle.bds_verify.proofs.verified.Verified.shape_at.Goals as goal

pub returns : goal.returns
returns c =
    subst (λ (u : CodeUnit). IfOk c.shape_of.result (λ shape. (f : Function) → slice_get u.functions c.args.function ≡ Some f → (shapes : ℕ → List Ty) → AreShapes u f shapes → shape ≡ shapes c.args.place))
    c.self.view_is c.shape_of.ensures
