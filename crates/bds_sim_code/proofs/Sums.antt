-- A sum, by what it is.
use Rattle.std.proofs.Common.{◌≡◌, Bool, true, false, ◌&&◌, Option, Some, None, refl, sym, ap, ◌∙◌, subst, if◌then◌else◌}
use Rattle.bds_value.specs.declared.value.At.{At}
use Rattle.bds_value.specs.declared.value.Op.TheVariants as op
use Rattle.bds_value.specs.declared.value.Ty.{Ty, out-Ty, roll-Ty, roll-out-Ty}
use Rattle.bds_value.specs.declared.value.Ty.TheVariants as ty
use Rattle.bds_value.specs.declared.value.Ty.TheOpen.{Ty-F}
use Rattle.bds_value.specs.Types.{same_ty, list_item}
use Rattle.bds_value.proofs.TypeLaws.{same_ty-true, same_ty-refl}
use Rattle.bds_check_size.specs.declared.sums.Sum.{Sum}
use Rattle.bds_check_size.specs.declared.sums.Sum.TheVariants as sums
use Rattle.bds_check_size.specs.ExprSize.{sum_by, sum_of}
use Rattle.bds_meaning.specs.OpeningExpressions.{shown, operated, other_sum, sum_on_list, or_else, sum_term, files_at, files_if}
use Rattle.bds_meaning.specs.OpeningTexts.{one, joined}
use Rattle.bds_meaning.specs.Term.{Term, Compute, ListMade}

abbrev pub term_by : Sum → At → Term → Term → Term
term_by sums.Numbers at a b = operated op.Add at a b
term_by sums.ItemAdded at a b = operated op.ListAdd at a b
term_by sums.ListsJoined at a b = operated op.ListCat at a b
term_by sums.Texts at a b = joined at (shown at a) (shown at b)

other_texts : (f g : Ty-F Ty) (at : At) (a b : Term) → (f ≡ Ty-F.Int → g ≡ Ty-F.Int → ⊥) → other_sum f g at a b ≡ joined at (shown at a) (shown at b)
other_texts Ty-F.Int Ty-F.Int at a b never = absurd (never refl refl)
other_texts Ty-F.Int Ty-F.Bool at a b never = refl
other_texts Ty-F.Int Ty-F.Text at a b never = refl
other_texts Ty-F.Int (Ty-F.List t) at a b never = refl
other_texts Ty-F.Int (Ty-F.Map t) at a b never = refl
other_texts Ty-F.Int Ty-F.Void at a b never = refl
other_texts Ty-F.Bool g at a b never = refl
other_texts Ty-F.Text g at a b never = refl
other_texts (Ty-F.List t) g at a b never = refl
other_texts (Ty-F.Map t) g at a b never = refl
other_texts Ty-F.Void g at a b never = refl

int_is : (t : Ty) → out-Ty t ≡ Ty-F.Int → t ≡ ty.Int
int_is t e = sym (roll-out-Ty t) ∙ ap roll-Ty e ∙ ty.rolls-Int

text_is : (t : Ty) → out-Ty t ≡ Ty-F.Text → t ≡ ty.Text
text_is t e = sym (roll-out-Ty t) ∙ ap roll-Ty e ∙ ty.rolls-Text

same_self : (t u : Ty) → t ≡ u → same_ty t u ≡ true
same_self t u e = subst (λ v. same_ty t v ≡ true) e (same_ty-refl t)

not_both : (x : Bool) → x ≡ true → x ≡ false → ⊥
not_both x a b = absurd (cc)

module _ (left right : Ty) (at : At) (a b : Term) where
  others : (x y : Bool) → same_ty left ty.Int ≡ x → same_ty right ty.Int ≡ y → other_sum (out-Ty left) (out-Ty right) at a b ≡ term_by (if x && y then sums.Numbers else sums.Texts) at a b
  others true true p q =
      ap (λ f. other_sum f (out-Ty right) at a b) (ap out-Ty (same_ty-true left ty.Int p) ∙ ty.outs-Int)
      ∙ ap (λ g. other_sum Ty-F.Int g at a b) (ap out-Ty (same_ty-true right ty.Int q) ∙ ty.outs-Int)
  others true false p q = other_texts (out-Ty left) (out-Ty right) at a b (λ e f. not_both (same_ty right ty.Int) (same_self right ty.Int (int_is right f)) q)
  others false y p q = other_texts (out-Ty left) (out-Ty right) at a b (λ e f. not_both (same_ty left ty.Int) (same_self left ty.Int (int_is left e)) p)

  on_list : (t : Ty) → list_item left ≡ Some t → (x y : Bool)
      → or_else (if x then Some (operated op.ListAdd at a b) else (if y then Some (operated op.ListCat at a b) else None)) (other_sum (out-Ty left) (out-Ty right) at a b) ≡ term_by (if x then sums.ItemAdded else (if y then sums.ListsJoined else sums.Texts)) at a b
  on_list t is true y = refl
  on_list t is false true = refl
  on_list t is false false = other_texts (out-Ty left) (out-Ty right) at a b (λ e f. absurd (let no : None ≡ Some t = sym (ap Rattle.bds_value.specs.Types.list_item_at e) ∙ is in cc))

  by_item : (i : Option Ty) → list_item left ≡ i → or_else (sum_on_list i left right at a b) (other_sum (out-Ty left) (out-Ty right) at a b) ≡ term_by (sum_by left right i) at a b
  by_item None is = others (same_ty left ty.Int) (same_ty right ty.Int) refl refl
  by_item (Some t) is = on_list t is (same_ty t right) (same_ty left right)

  pub sum_is : sum_term left right at a b ≡ term_by (sum_of left right) at a b
  sum_is = by_item (list_item left) refl

-- files of an expression
abbrev pub files_by : Bool → At → Term → Term
files_by true at a = Compute (ListMade ty.Text) at (one a)
files_by false at a = a

other_files : (f : Ty-F Ty) (at : At) (a : Term) → (f ≡ Ty-F.Text → ⊥) → files_at f at a ≡ a
other_files Ty-F.Text at a never = absurd (never refl)
other_files Ty-F.Bool at a never = refl
other_files Ty-F.Int at a never = refl
other_files (Ty-F.List t) at a never = refl
other_files (Ty-F.Map t) at a never = refl
other_files Ty-F.Void at a never = refl

pub files_is : (t : Ty) (at : At) (a : Term) → files_if t at a ≡ files_by (same_ty t ty.Text) at a
files_is t at a = go (same_ty t ty.Text) refl
  where
    go : (x : Bool) → same_ty t ty.Text ≡ x → files_if t at a ≡ files_by x at a
    go true e = ap (λ f. files_at f at a) (ap out-Ty (same_ty-true t ty.Text e) ∙ ty.outs-Text)
    go false e = other_files (out-Ty t) at a (λ is. not_both (same_ty t ty.Text) (same_self t ty.Text (text_is t is)) e)
