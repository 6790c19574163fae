-- The number and the lengths of words, by what they are read from.
use Rattle.std.proofs.Common.{◌≡◌, ◌≤◌, ℕ, List, length, map, sym}
use Rattle.std.proofs.lemmas.Bool.{le-leb}
use Rattle.std.proofs.lemmas.List.{length-map}
use Rattle.std.proofs.lemmas.List.Folds.{list_all-map}
use Rattle.std.specs.Prelude.{nat_le}
use Rattle.std.specs.List.{list_all}
use Rattle.bds_value.specs.declared.TheConstants.{MAX_ITEMS, MAX_TEXT}
use Rattle.bds_app_words.specs.Asked.{are_short}

pub short_by : {X : Type 0} (bytes : X → List ℕ) (xs : List X) → length xs ≤ MAX_ITEMS → list_all (λ x. nat_le (length (bytes x)) MAX_TEXT) xs ≡ are_short (map bytes xs)
short_by bytes xs few =
    let each = list_all-map (λ word. nat_le (length word) MAX_TEXT) bytes xs in
    rw (length-map xs bytes, le-leb (length xs) MAX_ITEMS few) (sym each)
