-- The tests on types say what the relations of the operators and the tables say.
use Rattle.std.proofs.Common.{◌≡◌, ℕ, List, Bool, true, false, ◌&&◌, Option, Some, None, refl, sym, ap, ◌∙◌, inl, inr}
use Rattle.std.specs.Prelude.{◌⊎◌}
use Rattle.bds_value.specs.declared.value.Op.{Op}
use Rattle.bds_value.specs.declared.value.Op.TheVariants.{Add, Sub, Mul, Div, Rem, Equal, NotEqual, Less, LessEqual, Greater, GreaterEqual, Concat, ListAdd, ListCat}
use Rattle.bds_value.specs.declared.value.Place.{Place}
use Rattle.bds_value.specs.declared.value.Ty.{Ty, out-Ty}
use Rattle.bds_value.specs.declared.value.Ty.TheVariants as ty
use Rattle.bds_value.specs.declared.value.Ty.TheOpen.{Ty-F}
use Rattle.bds_value.specs.Operators.{Takes}
use Rattle.bds_value.specs.Path.{type_at_path}
use Rattle.bds_value.specs.Types.{same_ty}
use Rattle.bds_value.proofs.TypeLaws.{same_ty-true, same_ty-refl}
use Rattle.bds_lib.specs.Rows.{Signature, signature, find, signatures_of, IsRow, IsChangeRow}
use Rattle.bds_verify.proofs.SameTys.{same_tys-true, same_tys-refl}
use Rattle.bds_machine_values.specs.Typing.{are_numbers, are_texts, are_ordered, are_plain, is_item, are_lists, takes, is_of, suits, takes_all, arguments_of, is_row, is_change_row}
use Rattle.bds_machine.proofs.TypesFits.{rolled}

numbers : (a b : Ty) → (a ≡ ty.Int) × (b ≡ ty.Int) → are_numbers (out-Ty a) (out-Ty b) ≡ true
numbers a b h = rw (h.0, h.1, ty.outs-Int) refl

texts : (a b : Ty) → (a ≡ ty.Text) × (b ≡ ty.Text) → are_texts (out-Ty a) (out-Ty b) ≡ true
texts a b h = rw (h.0, h.1, ty.outs-Text) refl

ordered : (a b : Ty) → (a ≡ ty.Int) ⊎ (a ≡ ty.Text) → b ≡ a → are_ordered (out-Ty a) (out-Ty b) ≡ true
ordered a b (inl e) d = rw (d, e, ty.outs-Int) refl
ordered a b (inr e) d = rw (d, e, ty.outs-Text) refl

plain : (a b : Ty) → (a ≡ ty.Bool) ⊎ ((a ≡ ty.Int) ⊎ (a ≡ ty.Text)) → b ≡ a → are_plain (out-Ty a) (out-Ty b) ≡ true
plain a b (inl e) d = rw (d, e, ty.outs-Bool) refl
plain a b (inr (inl e)) d = rw (d, e, ty.outs-Int) refl
plain a b (inr (inr e)) d = rw (d, e, ty.outs-Text) refl

item : (a b : Ty) → a ≡ ty.List b → is_item (out-Ty a) b ≡ true
item a b e = rw (e, ty.outs-List b) (same_ty-refl b)

lists : (a b t : Ty) → a ≡ ty.List t → b ≡ a → are_lists (out-Ty a) (out-Ty b) ≡ true
lists a b t e d = rw (d, e, ty.outs-List t) (same_ty-refl t)

-- an operator takes operands of the types that it is said to take
pub takes-true : (op : Op) (a b : Ty) → Takes op a b → takes op a b ≡ true
takes-true Add a b h = numbers a b h
takes-true Sub a b h = numbers a b h
takes-true Mul a b h = numbers a b h
takes-true Div a b h = numbers a b h
takes-true Rem a b h = numbers a b h
takes-true Equal a b h = plain a b h.0 h.1
takes-true NotEqual a b h = plain a b h.0 h.1
takes-true Less a b h = ordered a b h.0 h.1
takes-true LessEqual a b h = ordered a b h.0 h.1
takes-true Greater a b h = ordered a b h.0 h.1
takes-true GreaterEqual a b h = ordered a b h.0 h.1
takes-true Concat a b h = texts a b h
takes-true ListAdd a b h = item a b h
takes-true ListCat a b h = lists a b h.0.0 h.0.1 h.1

int_is : (t : Ty) → out-Ty t ≡ Ty-F.Int → t ≡ ty.Int
int_is t e = rolled t Ty-F.Int e ∙ ty.rolls-Int

text_is : (t : Ty) → out-Ty t ≡ Ty-F.Text → t ≡ ty.Text
text_is t e = rolled t Ty-F.Text e ∙ ty.rolls-Text

bool_is : (t : Ty) → out-Ty t ≡ Ty-F.Bool → t ≡ ty.Bool
bool_is t e = rolled t Ty-F.Bool e ∙ ty.rolls-Bool

list_is : (t u : Ty) → out-Ty t ≡ Ty-F.List u → t ≡ ty.List u
list_is t u e = rolled t (Ty-F.List u) e ∙ ty.rolls-List u

module _ (a b : Ty) where
  numbers_back : (y z : Ty-F Ty) → out-Ty a ≡ y → out-Ty b ≡ z → are_numbers y z ≡ true → (a ≡ ty.Int) × (b ≡ ty.Int)
  numbers_back Ty-F.Int Ty-F.Int e d h = (int_is a e, int_is b d)
  numbers_back _ _ e d h = absurd (cc)

  texts_back : (y z : Ty-F Ty) → out-Ty a ≡ y → out-Ty b ≡ z → are_texts y z ≡ true → (a ≡ ty.Text) × (b ≡ ty.Text)
  texts_back Ty-F.Text Ty-F.Text e d h = (text_is a e, text_is b d)
  texts_back _ _ e d h = absurd (cc)

  ordered_back : (y z : Ty-F Ty) → out-Ty a ≡ y → out-Ty b ≡ z → are_ordered y z ≡ true → ((a ≡ ty.Int) ⊎ (a ≡ ty.Text)) × (b ≡ a)
  ordered_back Ty-F.Int Ty-F.Int e d h = (inl (int_is a e), int_is b d ∙ sym (int_is a e))
  ordered_back Ty-F.Text Ty-F.Text e d h = (inr (text_is a e), text_is b d ∙ sym (text_is a e))
  ordered_back _ _ e d h = absurd (cc)

  plain_back : (y z : Ty-F Ty) → out-Ty a ≡ y → out-Ty b ≡ z → are_plain y z ≡ true → ((a ≡ ty.Bool) ⊎ ((a ≡ ty.Int) ⊎ (a ≡ ty.Text))) × (b ≡ a)
  plain_back Ty-F.Bool Ty-F.Bool e d h = (inl (bool_is a e), bool_is b d ∙ sym (bool_is a e))
  plain_back Ty-F.Int Ty-F.Int e d h = (inr (inl (int_is a e)), int_is b d ∙ sym (int_is a e))
  plain_back Ty-F.Text Ty-F.Text e d h = (inr (inr (text_is a e)), text_is b d ∙ sym (text_is a e))
  plain_back _ _ e d h = absurd (cc)

  item_back : (y : Ty-F Ty) → out-Ty a ≡ y → is_item y b ≡ true → a ≡ ty.List b
  item_back (Ty-F.List t) e h = list_is a t e ∙ ap ty.List (same_ty-true t b h)
  item_back _ e h = absurd (cc)

  lists_back : (y z : Ty-F Ty) → out-Ty a ≡ y → out-Ty b ≡ z → are_lists y z ≡ true → ((t : Ty) × (a ≡ ty.List t)) × (b ≡ a)
  lists_back (Ty-F.List t) (Ty-F.List u) e d h = ((t, list_is a t e), list_is b u d ∙ ap ty.List (sym (same_ty-true t u h)) ∙ sym (list_is a t e))
  lists_back _ _ e d h = absurd (cc)

-- and no others
pub takes-only : (op : Op) (a b : Ty) → takes op a b ≡ true → Takes op a b
takes-only Add a b h = numbers_back a b (out-Ty a) (out-Ty b) refl refl h
takes-only Sub a b h = numbers_back a b (out-Ty a) (out-Ty b) refl refl h
takes-only Mul a b h = numbers_back a b (out-Ty a) (out-Ty b) refl refl h
takes-only Div a b h = numbers_back a b (out-Ty a) (out-Ty b) refl refl h
takes-only Rem a b h = numbers_back a b (out-Ty a) (out-Ty b) refl refl h
takes-only Equal a b h = plain_back a b (out-Ty a) (out-Ty b) refl refl h
takes-only NotEqual a b h = plain_back a b (out-Ty a) (out-Ty b) refl refl h
takes-only Less a b h = ordered_back a b (out-Ty a) (out-Ty b) refl refl h
takes-only LessEqual a b h = ordered_back a b (out-Ty a) (out-Ty b) refl refl h
takes-only Greater a b h = ordered_back a b (out-Ty a) (out-Ty b) refl refl h
takes-only GreaterEqual a b h = ordered_back a b (out-Ty a) (out-Ty b) refl refl h
takes-only Concat a b h = texts_back a b (out-Ty a) (out-Ty b) refl refl h
takes-only ListAdd a b h = item_back a b (out-Ty a) refl h
takes-only ListCat a b h = lists_back a b (out-Ty a) (out-Ty b) refl refl h

-- a value of the type at a path suits it
pub suits-true : (path : List Place) (whole part t p : Ty) → whole ≡ t → part ≡ p → type_at_path path t ≡ Some p → suits path whole part ≡ true
suits-true path whole part t p e d fits = ap (λ w. is_of (type_at_path path w) part) e ∙ ap (λ o. is_of o part) fits ∙ ap (same_ty p) d ∙ same_ty-refl p

and_true : (a b : Bool) → (a && b) ≡ true → (a ≡ true) × (b ≡ true)
and_true true true h = (refl, refl)
and_true true false h = absurd (cc)
and_true false b h = absurd (cc)

-- a method takes a receiver and arguments of the types of its row
pub row-true : (m : ℕ) (receiver t : Ty) (types : List Ty) → IsRow m receiver types t → is_row m receiver types ≡ true
row-true m receiver t types h = ap (λ o. takes_all (arguments_of o) types) h ∙ same_tys-refl types

-- and no others
pub row-only : (m : ℕ) (receiver : Ty) (types : List Ty) → is_row m receiver types ≡ true → (t : Ty) × IsRow m receiver types t
row-only m receiver types h = from (find m (signatures_of (out-Ty receiver))) h
  where
    from : (o : Option Signature) → takes_all (arguments_of o) types ≡ true → (t : Ty) × (o ≡ Some (signature types t))
    from None h = absurd (cc)
    from (Some k) h = (k.gives, ap (λ ts. Some (signature ts k.gives)) (same_tys-true k.arguments types h))

pub change_row-true : (what : ℕ) (part : Ty) (types : List Ty) → IsChangeRow what part types → is_change_row what part types ≡ true
change_row-true what part types h = ap (λ o. takes_all o types) h ∙ same_tys-refl types
