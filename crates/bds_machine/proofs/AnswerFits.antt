-- Answers that fit a point.
use Rattle.std.proofs.Common.{◌≡◌, ◌≤◌, ℕ, ℤ, List, [], ◌∷◌, length, map, Bool, Some, refl, subst, sym}
use Rattle.std.proofs.lemmas.List.{length-map}
use Rattle.std.specs.List.{AllByRecursion}
use Rattle.bds_value.specs.declared.TheConstants.{MAX_TEXT, MAX_ITEMS}
use Rattle.bds_value.specs.declared.value.Ty.TheVariants as ty
use Rattle.bds_value.specs.declared.value.Value.TheVariants as value
use Rattle.bds_machine.specs.declared.point.Answer.{Answer}
use Rattle.bds_machine.specs.declared.point.Answer.TheVariants as answer
use Rattle.bds_machine.specs.declared.point.Point.{Point}
use Rattle.bds_machine.specs.Answers.{point_ty, FitsPoint}
use Rattle.bds_machine.proofs.HeldFits.{AllHold, holds-Bool, holds-Int, holds-Text, holds-List, value-Texts}

texts-hold : (ts : List (List ℕ)) → AllByRecursion (λ t. length t ≤ MAX_TEXT) ts → AllHold ty.Text (map value.Text ts)
texts-hold [] h = tt
texts-hold (t ∷ ts) h = (holds-Text t h.0, texts-hold ts h.1)

module _ (p : Point) where
  pub fits-Nothing : point_ty p ≡ Some ty.Void → FitsPoint p answer.Nothing
  fits-Nothing told = record { type = ty.Void; told = told; answer = refl }

  pub fits-Bool : (b : Bool) → point_ty p ≡ Some ty.Bool → FitsPoint p (answer.Bool b)
  fits-Bool b told = record { type = ty.Bool; told = told; answer = holds-Bool b }

  pub fits-Int : (n : ℤ) → point_ty p ≡ Some ty.Int → FitsPoint p (answer.Int n)
  fits-Int n told = record { type = ty.Int; told = told; answer = holds-Int n }

  pub fits-Text : (t : List ℕ) → length t ≤ MAX_TEXT → point_ty p ≡ Some ty.Text → FitsPoint p (answer.Text t)
  fits-Text t short told = record { type = ty.Text; told = told; answer = holds-Text t short }

  pub fits-Texts : (ts : List (List ℕ)) → length ts ≤ MAX_ITEMS → AllByRecursion (λ t. length t ≤ MAX_TEXT) ts → point_ty p ≡ Some (ty.List ty.Text) → FitsPoint p (answer.Texts ts)
  fits-Texts ts few short told = record {
    type = ty.List ty.Text;
    told = told;
    answer = holds-List ty.Text (map value.Text ts) value-Texts (subst (λ n. n ≤ MAX_ITEMS) (sym (length-map ts value.Text)) few) (texts-hold ts short);
  }

  pub fits-some : (x : Answer) → FitsPoint p x → (a : Answer) → Some x ≡ Some a → FitsPoint p a
  fits-some x fits a e = let same : x ≡ a = cc in subst (FitsPoint p) same fits

  pub made-Text : (t : List ℕ) → length t ≤ MAX_TEXT → point_ty p ≡ Some ty.Text → (x : Answer) → x ≡ answer.Text t → (a : Answer) → Some x ≡ Some a → FitsPoint p a
  made-Text t short told x is = fits-some x (subst (FitsPoint p) (sym is) (fits-Text t short told))

  pub made-Texts : (ts : List (List ℕ)) → length ts ≤ MAX_ITEMS → AllByRecursion (λ t. length t ≤ MAX_TEXT) ts → point_ty p ≡ Some (ty.List ty.Text) → (x : Answer) → x ≡ answer.Texts ts → (a : Answer) → Some x ≡ Some a → FitsPoint p a
  made-Texts ts few short told x is = fits-some x (subst (FitsPoint p) (sym is) (fits-Texts ts few short told))
