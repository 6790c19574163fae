-- A text without a CR is left as it is.
use Rattle.std.proofs.Common.{◌≡◌, ℕ, Bool, true, false, List, [], ◌∷◌, refl, ap, arith}
use Rattle.std.specs.List.{list_any}
use Rattle.std.specs.Prelude.{nat_eq, ◌||◌, ◌&&◌, if◌then◌else◌}
use Rattle.bds_tree.specs.lexing.RawTokens.{without_crs, begins_with_line_end}

abbrev has_cr : List ℕ → Bool
has_cr bytes = list_any (λ b. nat_eq b 13) bytes

pub no_cr : (bytes : List ℕ) → has_cr bytes ≡ false → without_crs bytes ≡ bytes
no_cr [] h = refl
no_cr (b ∷ bytes) h = go (nat_eq b 13) h (λ k. no_cr bytes k)
  where
    go : (t : Bool) → t || has_cr bytes ≡ false → (has_cr bytes ≡ false → without_crs bytes ≡ bytes)
        → (if t && begins_with_line_end bytes then without_crs bytes else b ∷ without_crs bytes) ≡ b ∷ bytes
    go true h next = grind arith
    go false h next = ap (λ (l : List ℕ). b ∷ l) (next h)
