-- What is found in an index of variables, and what is there behind one more.
use Rattle.std.proofs.Common.{◌≡◌, ◌++◌, is_some, rules, ℕ, List, [], ◌∷◌, map, Bool, true, false, Option, Some, None, refl, ap}
use Rattle.std.specs.Str.{bytes_eq}
use Rattle.std.specs.Map.{lookup}
use Rattle.bds_value.specs.declared.value.Ty.{Ty}
use Rattle.bds_check_names.specs.declared.names.Variable.{Variable}
use Rattle.bds_check_names.specs.Scopes.{first_type, any_named}

module _ {K : Type 0} (name : K → List ℕ) where
  abbrev pub seen : List (K × Ty) → List Variable
  seen es = map (λ e. record { name = name e.0; ty = e.1 }) es

  lookup_here : (x : List ℕ) (e : K × Ty) (es : List (K × Ty)) (b : Bool) → bytes_eq x (name e.0) ≡ b → lookup (λ k. bytes_eq x (name k)) es ≡ first_type x (seen es) →
      lookup (λ k. bytes_eq x (name k)) (e ∷ es) ≡ first_type x (seen (e ∷ es))
  lookup_here x e es true q h = rw q refl
  lookup_here x e es false q h = rw q h

  pub lookup_first : (x : List ℕ) (es : List (K × Ty)) → lookup (λ k. bytes_eq x (name k)) es ≡ first_type x (seen es)
  lookup_first x [] = refl
  lookup_first x (e ∷ es) = lookup_here x e es (bytes_eq x (name e.0)) refl (lookup_first x es)

  any_here : (x : List ℕ) (e : K × Ty) (es : List (K × Ty)) (b : Bool) → bytes_eq x (name e.0) ≡ b → is_some (lookup (λ k. bytes_eq x (name k)) es) ≡ any_named x (seen es) →
      is_some (lookup (λ k. bytes_eq x (name k)) (e ∷ es)) ≡ any_named x (seen (e ∷ es))
  any_here x e es true q h = rw q refl
  any_here x e es false q h = rw q h

  pub lookup_any : (x : List ℕ) (es : List (K × Ty)) → is_some (lookup (λ k. bytes_eq x (name k)) es) ≡ any_named x (seen es)
  lookup_any x [] = refl
  lookup_any x (e ∷ es) = any_here x e es (bytes_eq x (name e.0)) refl (lookup_any x es)

  pub none_of : (o : Option Ty) (b : Bool) → is_some o ≡ b → b ≡ false → o ≡ None
  none_of None b q r = refl
  none_of (Some t) b q r = absurd (search (rules, q, r))

  pub seen_push : (es : List (K × Ty)) (k : K) (t : Ty) → seen (es ++ (k, t) ∷ []) ≡ seen es ++ record { name = name k; ty = t } ∷ []
  seen_push [] k t = refl
  seen_push (e ∷ es) k t = ap (λ vs. record { name = name e.0; ty = e.1 } ∷ vs) (seen_push es k t)
