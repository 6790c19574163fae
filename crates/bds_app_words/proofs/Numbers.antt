-- What a number is that is read of a text.
use Rattle.std.proofs.Common.{◌≡◌, ◌&&◌, ◌^◌, ◌<◌, ℕ, Bool, cond, List, [], ◌∷◌, true, false, refl, sym, ap, length, nat_lt, Option, Some, None, Ok, Err, Result}
use Rattle.std.proofs.lemmas.Bool.{ltb-true, lt-ltb}
use Rattle.std.specs.Prelude.{MatchResult, option_and_then}
use Rattle.std.specs.List.{list_all}
use Rattle.std.specs.Option.{option_map_or}
use Rattle.std.specs.Char.{digit_value}
use Rattle.std.specs.Str.Parse.{AllDigits, IsNumeral, ParsesUnsigned, digits_value, without_leading_plus}
use Rattle.clap.specs.ValueTests.{is_numeral}
use Rattle.clap.specs.Matches.{ReadsOne}
use Rattle.clap.proofs.WalkLemmas.{both}
use Rattle.bds_app_words.specs.Asked.{number_below}

digits_told : (ds : List ℕ) → list_all (λ d. nat_lt (digit_value d) 10) ds ≡ true → AllDigits 10 ds
digits_told [] e = tt
digits_told (d ∷ ds) e = let parts = both _ _ e in (ltb-true _ _ parts.0, digits_told ds parts.1)

digits_test : (ds : List ℕ) → AllDigits 10 ds → list_all (λ d. nat_lt (digit_value d) 10) ds ≡ true
digits_test [] h = refl
digits_test (d ∷ ds) h = rw (lt-ltb (digit_value d) 10 h.0) (digits_test ds h.1)

numeral_told : (ds : List ℕ) → is_numeral ds ≡ true → IsNumeral 10 ds
numeral_told ds e = let parts = both _ _ e in (ltb-true _ _ parts.0, digits_told ds parts.1)

pub numeral_test : (ds : List ℕ) → IsNumeral 10 ds → is_numeral ds ≡ true
numeral_test ds h = rw (lt-ltb 0 (length ds) h.0) (digits_test ds h.1)

-- where a number is read it is the one below the bound, and where none is there is none
read_is : (bits : ℕ) (E : Type 0) (text : List ℕ) (r : Result ℕ E) → ParsesUnsigned bits 10 text r
    → MatchResult r (λ n. Some n ≡ number_below (2 ^ bits) text) (λ _. None ≡ number_below (2 ^ bits) text)
read_is bits E text (Ok n) h =
    let value : n ≡ digits_value 10 (without_leading_plus text) = h.1 in
    rw (numeral_test (without_leading_plus text) h.0.0, lt-ltb (digits_value 10 (without_leading_plus text)) (2 ^ bits) h.0.1) (ap Some value)
read_is bits E text (Err e) h = go (is_numeral (without_leading_plus text)) refl (nat_lt (digits_value 10 (without_leading_plus text)) (2 ^ bits)) refl
  where
    go : (a : Bool) → is_numeral (without_leading_plus text) ≡ a → (b : Bool) → nat_lt (digits_value 10 (without_leading_plus text)) (2 ^ bits) ≡ b → None ≡ number_below (2 ^ bits) text
    go false is b at = rw is refl
    go true is false at = rw (is, at) refl
    go true is true at = absurd (h (numeral_told (without_leading_plus text) is, ltb-true _ _ at))

-- the same of the text of an argument
pub one_read : (bits : ℕ) (E : Type 0) (G : List ℕ → Result ℕ E → Type 0) → ((t : List ℕ) (x : Result ℕ E) → G t x → ParsesUnsigned bits 10 t x) → (text : Option (List ℕ)) (r : Option ℕ)
    → (text ≡ None → r ≡ None) → ((t : List ℕ) → text ≡ Some t → ReadsOne G t r) → r ≡ option_and_then (number_below (2 ^ bits)) text
one_read bits E G parses None r none some = none refl
one_read bits E G parses (Some t) (Some n) none some = read_is bits E t (Ok n) (parses t (Ok n) (some t refl))
one_read bits E G parses (Some t) None none some = let h = some t refl in read_is bits E t (Err h.0) (parses t (Err h.0) h.1)

-- a number below a bound is what a numeral says
pub below_told : (bound : ℕ) (text : List ℕ) (n : ℕ) → number_below bound text ≡ Some n
    → (IsNumeral 10 (without_leading_plus text) × (digits_value 10 (without_leading_plus text) < bound)) × (n ≡ digits_value 10 (without_leading_plus text))
below_told bound text n e = go (is_numeral (without_leading_plus text)) refl (nat_lt (digits_value 10 (without_leading_plus text)) bound) refl e
  where
    go : (a : Bool) → is_numeral (without_leading_plus text) ≡ a → (b : Bool) → nat_lt (digits_value 10 (without_leading_plus text)) bound ≡ b
        → cond (a && b) (Some (digits_value 10 (without_leading_plus text))) None ≡ Some n
        → (IsNumeral 10 (without_leading_plus text) × (digits_value 10 (without_leading_plus text) < bound)) × (n ≡ digits_value 10 (without_leading_plus text))
    go false is b at e = absurd (cc e)
    go true is false at e = absurd (cc e)
    go true is true at e = ((numeral_told (without_leading_plus text) is, ltb-true _ _ at), sym (ap (λ o. option_map_or (λ z. z) o n) e))
