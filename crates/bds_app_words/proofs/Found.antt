-- What is found in rows that fit and have values: a text, and a number where the parser takes numbers alone.
use Rattle.std.proofs.Common.{◌≡◌, ◌∙◌, ◌^◌, ◌≤◌, ◌<◌, ℕ, Bool, true, refl, sym, ap, subst, arith, List, [], ◌∷◌, length, Option, Some, None}
use Rattle.std.specs.List.{AllByRecursion, list_all}
use Rattle.std.specs.Prelude.{find, is_some, option_and_then, option_map, pos, slice_get, ⊤}
use Rattle.std.specs.Str.{bytes_eq}
use Rattle.std.specs.Str.Parse.{IsNumeral, ParsesUnsigned, digits_value, without_leading_plus}
use Rattle.std.proofs.lemmas.Bool.{lt-ltb}
use Rattle.clap.specs.Lexer.{without_minus}
use Rattle.clap.specs.Facts.{parser_of_value}
use Rattle.clap.specs.Values.{read_as, reading_of}
use Rattle.clap.specs.ValueTests.{accepts}
use Rattle.clap.specs.Takes.{value_passes}
use Rattle.clap.specs.Walk.{Row, Rule, Text, arg_by_id, first_of, one_of, reading_by, row_text}
use Rattle.clap.specs.declared.builder.value_parser.Reading.{Reading}
use Rattle.clap.specs.declared.builder.value_parser.ValueParser.{ValueParser}
use Rattle.clap.specs.declared.builder.value_parser.ValueParser.TheVariants.{Signed, Unsigned}
use Rattle.clap.proofs.CallerReads.{signed_reads}
use Rattle.clap.proofs.ValueTestLemmas.{accepts-Accepts}
use Rattle.clap.proofs.WalkLemmas.{both}
use Rattle.bds_app_words.specs.Asked.{number_at, number_below}
use Rattle.bds_app_words.proofs.Filled.{AreFilled, IsFilled, IsFilledBy, least}
use Rattle.bds_app_words.proofs.Fitting.{IsReadBy, RowFits, each_found, passes_by}
use Rattle.bds_app_words.proofs.Numbers.{numeral_test}
use Rattle.bds_app_words.proofs.Present.{is_there}
use Rattle.bds_app_words.proofs.Within.{row_found}

-- ---- numerals

numeral_below : (bits : ℕ) (text : Text) → IsNumeral 10 (without_leading_plus text) → digits_value 10 (without_leading_plus text) < 2 ^ bits → is_some (number_below (2 ^ bits) text) ≡ true
numeral_below bits text numeral below = rw (numeral_test (without_leading_plus text) numeral, lt-ltb (digits_value 10 (without_leading_plus text)) (2 ^ bits) below) refl

unsigned_below : (ignore_case : Bool) (high bits : ℕ) (text : Text) → high < 2 ^ bits → accepts ignore_case (Unsigned 0 high) text ≡ true → is_some (number_below (2 ^ bits) text) ≡ true
unsigned_below ignore_case high bits text fit taken =
    let within = accepts-Accepts ignore_case (Unsigned 0 high) text taken in
    numeral_below bits text within.0 (omega (arith, within.3, fit))

signed_below : (ignore_case : Bool) (low high bits : ℕ) (text : Text) → high < 2 ^ bits → accepts ignore_case (Signed (pos low) (pos high)) text ≡ true → is_some (number_below (2 ^ bits) (without_minus text)) ≡ true
signed_below ignore_case low high bits text fit taken = go (number_below (2 ^ bits) (without_minus text)) refl
  where
    go : (o : Option ℕ) → number_below (2 ^ bits) (without_minus text) ≡ o → is_some o ≡ true
    go (Some v) is = refl
    go None is =
        let got = signed_reads ⊤ (λ u x. ParsesUnsigned bits 10 u x) bits low high text None
        (tt, λ h. let found = ap is_some (sym is) ∙ numeral_below bits (without_minus text) h.0 h.1 in absurd (cc found)) (λ u x g. g) fit
        (accepts-Accepts ignore_case (Signed (pos low) (pos high)) text taken) in
        absurd (cc got.1)

-- ---- rows

module _ (c : List Rule) (n : ℕ) (rows : List Row) (fits : AllByRecursion (RowFits c 0 n) rows) (filled : AreFilled c rows) (id : Text) (a : Rule) (known : arg_by_id c id ≡ Some a) (wants : 1 ≤ least a) (there : is_there id rows ≡ true) where
  -- the first value, as it is written and as it is read, has passed
  value_found : (t : Text) × (first_of id rows ≡ Some t) × (one_of id rows ≡ Some (read_as (reading_by a) t)) × (value_passes a t ≡ true)
  value_found = go (find (λ x. bytes_eq x.id id) rows) refl there
    where
      head : (how : Reading) (vs : List Text) → how ≡ reading_by a → list_all (value_passes a) vs ≡ true → 1 ≤ length vs
          → (t : Text) × (slice_get vs 0 ≡ Some t) × (option_map (read_as how) (slice_get vs 0) ≡ Some (read_as (reading_by a) t)) × (value_passes a t ≡ true)
      head how [] is pass le = absurd (omega (arith, le))
      head how (t ∷ ts) is pass le = (t, refl, ap (λ r. Some (read_as r t)) is, (both _ _ pass).0)

      go : (o : Option Row) → find (λ x. bytes_eq x.id id) rows ≡ o → is_some o ≡ true
          → (t : Text) × (option_and_then (λ r. slice_get r.values 0) o ≡ Some t) × (option_and_then row_text o ≡ Some (read_as (reading_by a) t)) × (value_passes a t ≡ true)
      go None is e = absurd (cc e)
      go (Some r) is e =
          let row = row_found c n rows fits id r is in
          let by : arg_by_id c r.id ≡ Some a = ap (arg_by_id c) row.1 ∙ known in
          let how : IsReadBy (Some a) r.reading = subst (λ o. IsReadBy o r.reading) by row.0.read_by in
          let pass : list_all (passes_by (Some a)) r.values ≡ true = subst (λ o. list_all (passes_by o) r.values ≡ true) by row.0.passed in
          let full : IsFilledBy (Some a) r.values = subst (λ o. IsFilledBy o r.values) by (each_found (IsFilled c) (λ x. bytes_eq x.id id) rows r filled is) in
          head r.reading r.values how pass (full wants)

  pub text_there : is_some (first_of id rows) ≡ true
  text_there = ap is_some value_found.1

  -- the number that is read of the text, where all texts that pass have one
  number_there : (bits : ℕ) → ((t : Text) → value_passes a t ≡ true → is_some (number_below (2 ^ bits) (read_as (reading_by a) t)) ≡ true) → is_some (number_at bits id rows) ≡ true
  number_there bits reads = ap (λ o. is_some (option_and_then (number_below (2 ^ bits)) o)) value_found.2 ∙ reads value_found.0 value_found.3

  pub signed_there : (low high bits : ℕ) → parser_of_value a.parser ≡ Signed (pos low) (pos high) → high < 2 ^ bits → is_some (number_at bits id rows) ≡ true
  signed_there low high bits is fit = number_there bits (λ t pass.
      subst (λ (p : ValueParser). is_some (number_below (2 ^ bits) (read_as (reading_of p) t)) ≡ true) (sym is)
      (signed_below a.ignore_case low high bits t fit (subst (λ (p : ValueParser). accepts a.ignore_case p t ≡ true) is pass)))

  pub unsigned_there : (high bits : ℕ) → parser_of_value a.parser ≡ Unsigned 0 high → high < 2 ^ bits → is_some (number_at bits id rows) ≡ true
  unsigned_there high bits is fit = number_there bits (λ t pass.
      subst (λ (p : ValueParser). is_some (number_below (2 ^ bits) (read_as (reading_of p) t)) ≡ true) (sym is)
      (unsigned_below a.ignore_case high bits t fit (subst (λ (p : ValueParser). accepts a.ignore_case p t ≡ true) is pass)))
