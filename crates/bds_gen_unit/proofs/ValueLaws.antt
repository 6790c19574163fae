-- The code of values that words give, written in order.
use Rattle.std.proofs.Common.{◌≡◌, ℕ, List, [], ◌∷◌, ◌++◌, length, sym, ap, ◌∙◌}
use Rattle.bds_value.specs.declared.value.At.{At}
use Rattle.bds_value.specs.declared.value.Ty.{Ty}
use Rattle.bds_value.specs.declared.value.Ty.TheVariants as ty
use Rattle.bds_value.specs.declared.value.Value.{Value, out-Value}
use Rattle.bds_value.specs.declared.value.Value.TheVariants as value
use Rattle.bds_code.specs.declared.instr.Instr.TheVariants.{MakeList, StoreGlobal}
use Rattle.bds_code.specs.declared.unit.Function.{Function}
use Rattle.bds_gen_expr.specs.Gen.{act}
use Rattle.bds_gen_expr.specs.Marks.{does, one, written}
use Rattle.bds_gen_expr.proofs.Written.{written-append}
use Rattle.bds_gen_stmt.specs.UnitCode.{items_code, value_code_at, value_code, texts_code, args_code}

pub list_written : (f g h : Function) (at : At) (v : Value) (t k : Ty) (vs ws : List Value) (n : ℕ) → v ≡ value.List t vs → ws ≡ vs → g ≡ written f (items_code at ws)
    → n ≡ length vs → k ≡ t → h ≡ act g at (MakeList k n) → h ≡ written f (value_code at v)
list_written f g h at v t k vs ws n ev ew eg en ek eh =
    eh ∙ ap (λ m. act g at (MakeList k m)) en ∙ ap (λ x. act g at (MakeList x (length vs))) ek
    ∙ ap (λ x. act x at (MakeList t (length vs))) (eg ∙ ap (λ l. written f (items_code at l)) ew)
    ∙ sym (written-append (items_code at vs) (one at (MakeList t (length vs))) f)
    ∙ ap (λ w. written f (value_code_at at w)) (sym (ap out-Value ev ∙ value.outs-List t vs))

pub args_written : (f g h k : Function) (at : At) (ts : List (List ℕ)) (n : ℕ) → g ≡ written f (texts_code at ts) → n ≡ length ts → h ≡ act g at (MakeList ty.Text n) → k ≡ act h at (StoreGlobal 0)
    → k ≡ written f (args_code at ts)
args_written f g h k at ts n eg en eh ek =
    ek ∙ ap (λ x. act x at (StoreGlobal 0)) (eh ∙ ap (λ m. act g at (MakeList ty.Text m)) en ∙ ap (λ x. act x at (MakeList ty.Text (length ts))) eg)
    ∙ sym (written-append (texts_code at ts) (does (MakeList ty.Text (length ts)) at ∷ does (StoreGlobal 0) at ∷ []) f)
