-- What is shown of the flow of operands.
use Rattle.std.specs.Prelude.{◌≡◌, ◌+◌, ℕ, List, [], ◌∷◌, Option, Some, Bool, true}
use Rattle.bds_value.specs.declared.value.Ty.{Ty}
use Rattle.bds_tree.specs.Tree.{Tree, type_of}
use Rattle.bds_code.specs.declared.unit.Function.{Function}
use Rattle.bds_code.specs.declared.unit.Unit.{Unit as CodeUnit}
use Rattle.bds_verify.specs.Verified.{AreShapes}
use Rattle.bds_check_names.specs.declared.names.Names.{Names}
use Rattle.bds_check_names.specs.declared.names.Asked.{Asked}
use Rattle.bds_check_names.specs.Scopes.{is_value}
use Rattle.bds_check_size.specs.ExprSize.{expr_size}
use Rattle.bds_check_typing.specs.WellTyped.{IsWellTyped}
use Rattle.bds_check_typing.specs.Known.{IsValueWritten}
use Rattle.bds_gen_expr.specs.Marks.{Mark, written}
use Rattle.bds_gen_expr.specs.declared.scope.Scope.{Scope}
use Rattle.bds_gen_expr.specs.Scope.{types_in}
use Rattle.bds_gen_expr.specs.ExprCode.{expr_code}
use Rattle.bds_gen_flow.specs.Flow.{Runs, Passes}
use Rattle.bds_gen_flow.specs.Fits.{Fits}

-- the code of a well-typed expression, which stands above any operands, has its size and leaves one more of its type, where labels have these lists and a tick is counted at these places
abbrev pub ExpressionsRun : Type 0
ExpressionsRun =
    (u : CodeUnit) (f : Function) (labels : ℕ → Option (List Ty)) (ticks : ℕ → Bool) (sc : Scope) (names : Names) → Fits u f sc names → (e : Tree) (asked : Asked) (p : ℕ) (s : List Ty) → is_value asked ≡ true → IsWellTyped e names asked → IsValueWritten e
    → Runs u f (λ q t. labels q ≡ Some t) (λ q. ticks q ≡ true) (expr_code e sc p s) p (p + expr_size (types_in sc) e) s (type_of e ∷ s)

-- where operands go through all of a function, there is one list of their types for each place
abbrev pub FunctionsHaveShapes : Type 0
FunctionsHaveShapes = (u : CodeUnit) (f begun : Function) (ms : List Mark) → written begun ms ≡ f → begun.code ≡ [] → begun.labels ≡ [] → Passes u f ms → (shapes : ℕ → List Ty) × AreShapes u f shapes
