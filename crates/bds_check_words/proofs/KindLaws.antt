-- The type of the global that words can set.
use Rattle.std.proofs.Common.{◌≡◌, ℕ, Bool, true, false, Option, Some, None, List, refl, ap, sym, ◌∙◌, codes}
use Rattle.std.specs.Prelude.{if◌then◌else◌}
use Rattle.std.specs.Str.{bytes_eq}
use Rattle.bds_value.specs.declared.value.Ty.{Ty, out-Ty}
use Rattle.bds_value.specs.declared.value.Ty.TheVariants as ty
use Rattle.bds_value.specs.declared.value.Ty.TheOpen.{Ty-F}
use Rattle.bds_value.specs.Options.{◌>>=◌}
use Rattle.bds_value.specs.Types.{same_ty}
use Rattle.bds_value.proofs.Induction.{ty_induction}
use Rattle.bds_value.proofs.TypeLaws.{same_ty-true}
use Rattle.bds_check_names.specs.declared.names.Variable.{Variable}
use Rattle.bds_check_names.specs.Scopes.{first_type}
use Rattle.bds_check_words.specs.declared.kinds.Kind.{Kind}
use Rattle.bds_check_words.specs.declared.kinds.Kind.TheVariants as kind
use Rattle.bds_check_words.specs.SetNames.{kind_at, kind_of, kind_named}

abbrev pub type_for : Kind → Ty
type_for kind.Truth = ty.Bool
type_for kind.Number = ty.Int
type_for kind.Text = ty.Text
type_for kind.Texts = ty.List ty.Text

some-is : {A : Type 0} (a b : A) → Some a ≡ Some b → a ≡ b
some-is a b e = cc

has-kind : (t : Ty) (w : Ty-F Ty) (here : Kind) → out-Ty t ≡ w → kind_at w ≡ Some here → t ≡ type_for here → (k : Kind) → kind_of t ≡ Some k → t ≡ type_for k
has-kind t w here o a s k e = s ∙ ap type_for (some-is here k (sym a ∙ ap kind_at (sym o) ∙ e))

no-kind : (t : Ty) (w : Ty-F Ty) → out-Ty t ≡ w → kind_at w ≡ None → (k : Kind) → kind_of t ≡ Some k → t ≡ type_for k
no-kind t w o a k e = absurd (let q : None ≡ Some k = sym a ∙ ap kind_at (sym o) ∙ e in cc)

list-kind : (t : Ty) (b : Bool) → same_ty t ty.Text ≡ b → (k : Kind) → kind_of (ty.List t) ≡ Some k → ty.List t ≡ type_for k
list-kind t true s = has-kind (ty.List t) (Ty-F.List t) kind.Texts (ty.outs-List t) (ap (λ (b : Bool). if b then Some kind.Texts else None) s) (ap ty.List (same_ty-true t ty.Text s))
list-kind t false s = no-kind (ty.List t) (Ty-F.List t) (ty.outs-List t) (ap (λ (b : Bool). if b then Some kind.Texts else None) s)

pub kind-for : (t : Ty) (k : Kind) → kind_of t ≡ Some k → t ≡ type_for k
kind-for = ty_induction (λ t. (k : Kind) → kind_of t ≡ Some k → t ≡ type_for k)
    (has-kind ty.Bool Ty-F.Bool kind.Truth ty.outs-Bool refl refl)
    (has-kind ty.Int Ty-F.Int kind.Number ty.outs-Int refl refl)
    (has-kind ty.Text Ty-F.Text kind.Text ty.outs-Text refl refl)
    (λ t is. list-kind t (same_ty t ty.Text) refl)
    (λ t is. no-kind (ty.Map t) (Ty-F.Map t) (ty.outs-Map t) refl)
    (no-kind ty.Void Ty-F.Void ty.outs-Void refl)

pub kind-found : (globals : List Variable) (x : List ℕ) (k : Kind) → kind_named globals x ≡ Some k → first_type x globals ≡ Some (type_for k)
kind-found globals x k e = by (bytes_eq x (codes "args")) (first_type x globals) e
  where
    by : (b : Bool) (o : Option Ty) → (if b then None else (o >>= kind_of)) ≡ Some k → o ≡ Some (type_for k)
    by true o q = absurd (cc)
    by false None q = absurd (cc)
    by false (Some t) q = ap (λ (u : Ty). Some u) (kind-for t k q)
