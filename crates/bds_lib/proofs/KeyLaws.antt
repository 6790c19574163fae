-- Whether a key is there, as a search for a pair with it.
use Rattle.std.proofs.Common.{◌≡◌, ℕ, List, [], ◌∷◌, Bool, true, false, is_some, refl}
use Rattle.std.specs.List.{list_any}
use Rattle.std.specs.Str.{bytes_eq}
use Rattle.bds_value.specs.Path.{at_key}

module _ {X : Type 0} where
  pub there_is : (k : List ℕ) (ps : List (List ℕ × X)) → is_some (at_key k ps) ≡ list_any (λ p. bytes_eq p.0 k) ps
  there_is k [] = refl
  there_is k (p ∷ ps) = by_test (there_is k ps) (bytes_eq p.0 k) refl
    where
      by_test : is_some (at_key k ps) ≡ list_any (λ p. bytes_eq p.0 k) ps → (b : Bool) → bytes_eq p.0 k ≡ b → is_some (at_key k (p ∷ ps)) ≡ list_any (λ p. bytes_eq p.0 k) (p ∷ ps)
      by_test e true t = rw t refl
      by_test e false t = rw t e
