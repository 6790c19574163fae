-- A fold at a value of each kind, and at a type of each kind.
use Rattle.std.proofs.Common.{◌≡◌, ℕ, ℤ, Bool, List, map, sym, ap, ◌∙◌}
use Rattle.bds_value.specs.declared.value.Ty.{Ty, fold-Ty, fold-roll-Ty}
use Rattle.bds_value.specs.declared.value.Ty.TheVariants.{Bool as TBool, Int as TInt, Text as TText, List as TList, Map as TMap, Void as TVoid}
use Rattle.bds_value.specs.declared.value.Ty.TheVariants as ty
use Rattle.bds_value.specs.declared.value.Ty.TheOpen.{Ty-F}
use Rattle.bds_value.specs.declared.value.Value.{Value, fold-Value, fold-roll-Value}
use Rattle.bds_value.specs.declared.value.Value.TheVariants.{Bool as VBool, Int as VInt, Text as VText, List as VList, Map as VMap}
use Rattle.bds_value.specs.declared.value.Value.TheVariants as value
use Rattle.bds_value.specs.declared.value.Value.TheOpen.{Value-F}

module _ {A : Type 0} (step : Value-F A → A) where
  pub value_fold-Bool : (b : Bool) → fold-Value A step (VBool b) ≡ step (Value-F.Bool b)
  value_fold-Bool b = ap (fold-Value A step) (sym (value.rolls-Bool b)) ∙ fold-roll-Value A step (Value-F.Bool b)

  pub value_fold-Int : (n : ℤ) → fold-Value A step (VInt n) ≡ step (Value-F.Int n)
  value_fold-Int n = ap (fold-Value A step) (sym (value.rolls-Int n)) ∙ fold-roll-Value A step (Value-F.Int n)

  pub value_fold-Text : (t : List ℕ) → fold-Value A step (VText t) ≡ step (Value-F.Text t)
  value_fold-Text t = ap (fold-Value A step) (sym (value.rolls-Text t)) ∙ fold-roll-Value A step (Value-F.Text t)

  pub value_fold-List : (t : Ty) (items : List Value) → fold-Value A step (VList t items) ≡ step (Value-F.List t (map (fold-Value A step) items))
  value_fold-List t items = ap (fold-Value A step) (sym (value.rolls-List t items)) ∙ fold-roll-Value A step (Value-F.List t items)

  pub value_fold-Map : (t : Ty) (pairs : List (List ℕ × Value)) → fold-Value A step (VMap t pairs) ≡ step (Value-F.Map t (map (λ p. (p.0, fold-Value A step p.1)) pairs))
  value_fold-Map t pairs = ap (fold-Value A step) (sym (value.rolls-Map t pairs)) ∙ fold-roll-Value A step (Value-F.Map t pairs)

module _ {A : Type 0} (step : Ty-F A → A) where
  pub ty_fold-Bool : fold-Ty A step TBool ≡ step Ty-F.Bool
  ty_fold-Bool = ap (fold-Ty A step) (sym ty.rolls-Bool) ∙ fold-roll-Ty A step Ty-F.Bool

  pub ty_fold-Int : fold-Ty A step TInt ≡ step Ty-F.Int
  ty_fold-Int = ap (fold-Ty A step) (sym ty.rolls-Int) ∙ fold-roll-Ty A step Ty-F.Int

  pub ty_fold-Text : fold-Ty A step TText ≡ step Ty-F.Text
  ty_fold-Text = ap (fold-Ty A step) (sym ty.rolls-Text) ∙ fold-roll-Ty A step Ty-F.Text

  pub ty_fold-List : (t : Ty) → fold-Ty A step (TList t) ≡ step (Ty-F.List (fold-Ty A step t))
  ty_fold-List t = ap (fold-Ty A step) (sym (ty.rolls-List t)) ∙ fold-roll-Ty A step (Ty-F.List t)

  pub ty_fold-Map : (t : Ty) → fold-Ty A step (TMap t) ≡ step (Ty-F.Map (fold-Ty A step t))
  ty_fold-Map t = ap (fold-Ty A step) (sym (ty.rolls-Map t)) ∙ fold-roll-Ty A step (Ty-F.Map t)

  pub ty_fold-Void : fold-Ty A step TVoid ≡ step Ty-F.Void
  ty_fold-Void = ap (fold-Ty A step) (sym ty.rolls-Void) ∙ fold-roll-Ty A step Ty-F.Void
