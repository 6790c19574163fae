-- What operators and changes give of two numbers.
use Rattle.std.proofs.Common.{◌≡◌, ℤ, ◌+ℤ◌, ◌-ℤ◌, ◌*ℤ◌, FitsSigned, to_z, of_z, w64, [], ◌∷◌, Bool, true, Some, Ok, refl, sym, ap, ◌∙◌, subst}
use Rattle.std.proofs.lemmas.Int.{to_z-of_z, SFits-int_wrap}
use Rattle.std.specs.Int.{int_wrap}
use Rattle.std.specs.Ordering.{int_cmp}
use Rattle.std.specs.declared.cmp.Ordering.{Ordering}
use Rattle.bds_value.specs.declared.change_numbers.TheConstants.{ADD, SUBTRACT, MULTIPLY}
use Rattle.bds_value.specs.declared.value.Op.{Op}
use Rattle.bds_value.specs.declared.value.Op.TheVariants as op
use Rattle.bds_value.specs.declared.value.Ty.TheVariants as ty
use Rattle.bds_value.specs.declared.value.Value.{Value}
use Rattle.bds_value.specs.declared.value.Value.TheVariants as value
use Rattle.bds_value.specs.Operators.{holds, number_result}
use Rattle.bds_value.specs.RunFaults.{op_fault}
use Rattle.bds_value.proofs.ValueFieldLaws.{type_of-Int}
use Rattle.bds_machine_values.specs.Faults.{Outcome, and_then, outcome}
use Rattle.bds_machine_values.specs.Results.{applied}
use Rattle.bds_machine_values.specs.Typing.{takes}
use Rattle.bds_machine_values.specs.Updates.{added_at, value_changed}

-- a number as a call reads it
abbrev pub read : ℤ → ℤ
read n = to_z w64 (of_z w64 n)

pub same_number : (n : ℤ) → FitsSigned w64 n → n ≡ read n
same_number n fits = sym (to_z-of_z w64 n fits)

-- what holds of two numbers as a call reads them
pub of_read : (P : ℤ → ℤ → Type 0) (a b : ℤ) → FitsSigned w64 a → FitsSigned w64 b → P (read a) (read b) → P a b
of_read P a b fit fits h = subst (λ b. P a b) (sym (same_number b fits)) (subst (λ a. P a (read b)) (sym (same_number a fit)) h)

pub to_read : (P : ℤ → ℤ → Type 0) (a b : ℤ) {a' b' : ℤ} → a ≡ a' → b ≡ b' → P a b → P a' b'
to_read P a b {a'} {b'} e f h = subst (λ b. P a' b) f (subst (λ a. P a b) e h)

-- the outcome of a number that was wrapped
abbrev Number : ℤ → Outcome Value
Number n = Some (Ok (value.Int n))

pub wrapped : (f : ℤ → ℤ → ℤ) (a b n : ℤ) → FitsSigned w64 a → FitsSigned w64 b → n ≡ int_wrap w64 (f (read a) (read b)) → Number (int_wrap w64 (f a b)) ≡ Number (read n)
wrapped f a b n fit fits e =
    let is : n ≡ int_wrap w64 (f a b) = of_read (λ a b. n ≡ int_wrap w64 (f a b)) a b fit fits e in
    ap Number (sym is ∙ same_number n (subst (FitsSigned w64) (sym is) (SFits-int_wrap w64 (f a b))))

-- the outcome of a comparison
abbrev Truth : Bool → Outcome Value
Truth b = Some (Ok (value.Bool b))

pub told : (tells : Ordering → Bool) (a b : ℤ) (o : Ordering) (x : Bool) → FitsSigned w64 a → FitsSigned w64 b → o ≡ int_cmp (read a) (read b) → x ≡ tells o → Truth (tells (int_cmp a b)) ≡ Truth x
told tells a b o x fit fits e h = ap Truth (ap tells (sym (of_read (λ a b. o ≡ int_cmp a b) a b fit fits e)) ∙ sym h)

numbers_applied : (o : Op) (a b : ℤ) → takes o ty.Int ty.Int ≡ true → applied o (value.Int a) (value.Int b) ≡ outcome op_fault (number_result o a b)
numbers_applied o a b h = rw (type_of-Int a, type_of-Int b, h, value.outs-Int a, value.outs-Int b) refl

module _ (a b : ℤ) where
  pub sum : applied op.Add (value.Int a) (value.Int b) ≡ Some (Ok (value.Int (int_wrap w64 (a +ℤ b))))
  sum = numbers_applied op.Add a b (rw ty.outs-Int refl)

  pub difference : applied op.Sub (value.Int a) (value.Int b) ≡ Some (Ok (value.Int (int_wrap w64 (a -ℤ b))))
  difference = numbers_applied op.Sub a b (rw ty.outs-Int refl)

  pub product : applied op.Mul (value.Int a) (value.Int b) ≡ Some (Ok (value.Int (int_wrap w64 (a *ℤ b))))
  product = numbers_applied op.Mul a b (rw ty.outs-Int refl)

  pub equal : applied op.Equal (value.Int a) (value.Int b) ≡ Some (Ok (value.Bool (holds op.Equal (int_cmp a b))))
  equal = numbers_applied op.Equal a b (rw ty.outs-Int refl)

  pub not_equal : applied op.NotEqual (value.Int a) (value.Int b) ≡ Some (Ok (value.Bool (holds op.NotEqual (int_cmp a b))))
  not_equal = numbers_applied op.NotEqual a b (rw ty.outs-Int refl)

  pub less : applied op.Less (value.Int a) (value.Int b) ≡ Some (Ok (value.Bool (holds op.Less (int_cmp a b))))
  less = numbers_applied op.Less a b (rw ty.outs-Int refl)

  pub less_equal : applied op.LessEqual (value.Int a) (value.Int b) ≡ Some (Ok (value.Bool (holds op.LessEqual (int_cmp a b))))
  less_equal = numbers_applied op.LessEqual a b (rw ty.outs-Int refl)

  pub greater : applied op.Greater (value.Int a) (value.Int b) ≡ Some (Ok (value.Bool (holds op.Greater (int_cmp a b))))
  greater = numbers_applied op.Greater a b (rw ty.outs-Int refl)

  pub greater_equal : applied op.GreaterEqual (value.Int a) (value.Int b) ≡ Some (Ok (value.Bool (holds op.GreaterEqual (int_cmp a b))))
  greater_equal = numbers_applied op.GreaterEqual a b (rw ty.outs-Int refl)

  -- a result as a whole variable
  abbrev whole : Outcome Value → Outcome Value
  whole o = and_then o (λ new. Some (Ok new))

  pub increased : value_changed ADD [] (value.Int a) (value.Int b ∷ []) ≡ Some (Ok (value.Int (int_wrap w64 (a +ℤ b))))
  increased = ap (λ part. whole (added_at part (value.Int a) (value.Int b))) (value.outs-Int a) ∙ ap whole sum

  pub decreased : value_changed SUBTRACT [] (value.Int a) (value.Int b ∷ []) ≡ Some (Ok (value.Int (int_wrap w64 (a -ℤ b))))
  decreased = ap whole difference

  pub multiplied : value_changed MULTIPLY [] (value.Int a) (value.Int b ∷ []) ≡ Some (Ok (value.Int (int_wrap w64 (a *ℤ b))))
  multiplied = ap whole product
