-- What is found in an index of places.
use Rattle.std.proofs.Common.{◌≡◌, ℕ, ◌+◌, ◌<◌, List, ◌∷◌, length, drop, get_or, Bool, Option, Some, sym, ap, ◌∙◌, if◌then◌else◌}
use Rattle.std.specs.Str.{bytes_eq}
use Rattle.std.specs.Option.{option_or}
use Rattle.bds_rules.specs.Indexes.{number_of_one}
use Rattle.bds_rules.proofs.IndexLaws.{split_at, step_at, swapped}
use Rattle.bds_goal.specs.Goals.{place_from}

pub place_step : (x : List ℕ) (a : Option ℕ) (f : List ℕ) (fs : List (List ℕ)) (n : ℕ) →
    option_or (option_or a (number_of_one x f n)) (place_from (n + 1) fs x) ≡ option_or a (place_from n (f ∷ fs) x)
place_step x a f fs n =
    step_at a (bytes_eq x f) n (place_from (n + 1) fs x)
    ∙ ap (λ (b : Bool). option_or a (if b then Some n else place_from (n + 1) fs x)) (swapped x f)

pub places_on : (files : List (List ℕ)) (i : ℕ) (f g x : List ℕ) (a b whole : Option ℕ) → i < length files → f ≡ get_or files i f → g ≡ f → b ≡ option_or a (number_of_one x g i)
    → option_or a (place_from i (drop i files) x) ≡ whole → option_or b (place_from (i + 1) (drop (i + 1) files) x) ≡ whole
places_on files i f g x a b whole l is same step all =
    ap (λ o. option_or o (place_from (i + 1) (drop (i + 1) files) x)) (step ∙ ap (λ y. option_or a (number_of_one x y i)) same)
    ∙ place_step x a f (drop (i + 1) files) i
    ∙ ap (λ fs. option_or a (place_from i fs x)) (sym (split_at files i f l is))
    ∙ all
