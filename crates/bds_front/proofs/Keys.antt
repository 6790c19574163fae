-- The keys of a set as paths.
use Rattle.std.proofs.Common.{◌≡◌, ℕ, Bool, false, ◌||◌, List, [], ◌∷◌, ◌++◌, map, ap, refl}
use Rattle.std.specs.List.{list_any}
use Rattle.std.specs.Str.{bytes_eq}
use Rattle.std.proofs.lemmas.List.{map-append}
use Rattle.indexmap.specs.IndexSet.{insert_key}
use Rattle.bds_check_typing.specs.Files.{was_read}

module _ {K : Type 0} (path : K → List ℕ) where
  pub any-read : (p : List ℕ) (ks : List K) → list_any (λ k. bytes_eq p (path k)) ks ≡ was_read p (map path ks)
  any-read p [] = refl
  any-read p (k ∷ ks) = ap (λ (b : Bool). bytes_eq p (path k) || b) (any-read p ks)

  -- one that isn't there goes last
  pub key-last : (eq : K → K → Bool) (ks : List K) (k : K) → list_any (eq k) ks ≡ false → map path (insert_key eq ks k) ≡ map path ks ++ path k ∷ []
  key-last eq ks k h = rw h (map-append path ks (k ∷ []))
