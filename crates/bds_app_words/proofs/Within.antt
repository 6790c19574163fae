-- What words ask for is within its ranges.
use Rattle.std.proofs.Common.{◌≡◌, ◌∙◌, ◌^◌, ◌≤◌, ◌<◌, ℕ, Bool, true, false, refl, sym, ap, subst, cond, arith, List, [], ◌∷◌, length, zero, suc, Option, Some, None}
use Rattle.std.specs.List.{All, AllByRecursion, list_all}
use Rattle.std.specs.Prelude.{find, option_and_then, option_map, pos, slice_get, unwrap_or, ⊤}
use Rattle.std.specs.Option.{option_map_or}
use Rattle.std.specs.Str.{bytes_eq}
use Rattle.std.specs.Str.Parse.{ParsesUnsigned}
use Rattle.std.proofs.lemmas.Slice.Eq.{bytes_eq-Decides}
use Rattle.clap.specs.Lexer.{without_minus}
use Rattle.clap.specs.Facts.{parser_of_value}
use Rattle.clap.specs.Values.{read_as, reading_of}
use Rattle.clap.specs.ValueTests.{accepts}
use Rattle.clap.specs.Takes.{value_passes}
use Rattle.clap.specs.Walk.{Row, Rule, Text, arg_by_id, first_of, reading_by, row_text}
use Rattle.clap.specs.declared.builder.value_parser.Reading.{Reading}
use Rattle.clap.specs.declared.builder.value_parser.ValueParser.{ValueParser}
use Rattle.clap.specs.declared.builder.value_parser.ValueParser.TheVariants.{Signed, Unsigned}
use Rattle.clap.proofs.CallerReads.{signed_reads}
use Rattle.clap.proofs.ValueTestLemmas.{accepts-Accepts}
use Rattle.clap.proofs.WalkLemmas.{both}
use Rattle.bds_app_words.specs.Asked.{number_at, number_below, texts_at}
use Rattle.bds_app_words.specs.Ranges.{IsShort}
use Rattle.bds_app_words.proofs.Fitting.{RowFits, passes_by, IsReadBy, each_found}
use Rattle.bds_app_words.proofs.Numbers.{below_told}

-- ---- what is found in rows that fit

found_passes : {X : Type 0} (test : X → Bool) (xs : List X) (x : X) → find test xs ≡ Some x → test x ≡ true
found_passes test [] x e = absurd (cc e)
found_passes test (y ∷ ys) x e = go (test y) refl (found_passes test ys x) e
  where
    go : (b : Bool) → test y ≡ b → (find test ys ≡ Some x → test x ≡ true) → cond b (Some y) (find test ys) ≡ Some x → test x ≡ true
    go true is later same = ap test (sym (ap (λ o. option_map_or (λ z. z) o y) same)) ∙ is
    go false is later e = later e

pub each_all : {X : Type 0} (P : X → Type 0) (xs : List X) → AllByRecursion P xs → All P xs
each_all P [] h k d lt = absurd (omega arith)
each_all P (x ∷ xs) h zero d lt = h.0
each_all P (x ∷ xs) h (suc k) d lt = each_all P xs h.1 k d (omega arith)

module _ (c : List Rule) (n : ℕ) (rows : List Row) (fits : AllByRecursion (RowFits c 0 n) rows) (id : Text) where
  pub row_found : (r : Row) → find (λ x. bytes_eq x.id id) rows ≡ Some r → RowFits c 0 n r × (r.id ≡ id)
  row_found r e = (each_found (RowFits c 0 n) (λ x. bytes_eq x.id id) rows r fits e, (bytes_eq-Decides r.id id).0 (found_passes (λ x. bytes_eq x.id id) rows r e))

  -- a text that is there is short
  pub first_short : (t : Text) → first_of id rows ≡ Some t → IsShort t
  first_short t e = go (find (λ x. bytes_eq x.id id) rows) refl e
    where
      head : (vs : List Text) → AllByRecursion IsShort vs → slice_get vs 0 ≡ Some t → IsShort t
      head [] h e = absurd (cc e)
      head (v ∷ vs) h e = subst IsShort (ap (λ o. option_map_or (λ z. z) o v) e) h.0

      go : (o : Option Row) → find (λ x. bytes_eq x.id id) rows ≡ o → option_and_then (λ r. slice_get r.values 0) o ≡ Some t → IsShort t
      go None is e = absurd (cc e)
      go (Some r) is e = head r.values (row_found r is).0.shorts e

  pub texts_few : length (texts_at id rows) ≤ n
  texts_few = go (find (λ x. bytes_eq x.id id) rows) refl
    where
      go : (o : Option Row) → find (λ x. bytes_eq x.id id) rows ≡ o → length (unwrap_or (option_map (λ r. r.values) o) []) ≤ n
      go None is = omega arith
      go (Some r) is = omega (arith, (row_found r is).0.few)

  pub texts_short : All IsShort (texts_at id rows)
  texts_short = each_all IsShort (texts_at id rows) (go (find (λ x. bytes_eq x.id id) rows) refl)
    where
      go : (o : Option Row) → find (λ x. bytes_eq x.id id) rows ≡ o → AllByRecursion IsShort (unwrap_or (option_map (λ r. r.values) o) [])
      go None is = tt
      go (Some r) is = (row_found r is).0.shorts

  -- a number that is there is read of a text that passed
  number_from : (a : Rule) (bits v : ℕ) → arg_by_id c id ≡ Some a → number_at bits id rows ≡ Some v → (t : Text) × (number_below (2 ^ bits) (read_as (reading_by a) t) ≡ Some v) × (value_passes a t ≡ true)
  number_from a bits v known e = go (find (λ x. bytes_eq x.id id) rows) refl e
    where
      head : (how : Reading) (vs : List Text) → how ≡ reading_by a → list_all (value_passes a) vs ≡ true → option_and_then (number_below (2 ^ bits)) (option_map (read_as how) (slice_get vs 0)) ≡ Some v
          → (t : Text) × (number_below (2 ^ bits) (read_as (reading_by a) t) ≡ Some v) × (value_passes a t ≡ true)
      head how [] is pass e = absurd (cc e)
      head how (t ∷ ts) is pass e = (t, subst (λ r. number_below (2 ^ bits) (read_as r t) ≡ Some v) is e, (both _ _ pass).0)

      go : (o : Option Row) → find (λ x. bytes_eq x.id id) rows ≡ o → option_and_then (number_below (2 ^ bits)) (option_and_then row_text o) ≡ Some v
          → (t : Text) × (number_below (2 ^ bits) (read_as (reading_by a) t) ≡ Some v) × (value_passes a t ≡ true)
      go None is e = absurd (cc e)
      go (Some r) is e =
          let row = row_found r is in
          let by : arg_by_id c r.id ≡ Some a = ap (arg_by_id c) row.1 ∙ known in
          let how : IsReadBy (Some a) r.reading = subst (λ o. IsReadBy o r.reading) by row.0.read_by in
          let pass : list_all (passes_by (Some a)) r.values ≡ true = subst (λ o. list_all (passes_by o) r.values ≡ true) by row.0.passed in
          head r.reading r.values how pass e

  pub signed_within : (a : Rule) (high v : ℕ) → arg_by_id c id ≡ Some a → parser_of_value a.parser ≡ Signed (pos 1) (pos high) → high < 2 ^ 32 → number_at 32 id rows ≡ Some v → (1 ≤ v) × (v ≤ high)
  signed_within a high v known is fit e =
      let from = number_from a 32 v known e in
      let t = from.0 in
      let read : number_below (2 ^ 32) (without_minus t) ≡ Some v = subst (λ (p : ValueParser). number_below (2 ^ 32) (read_as (reading_of p) t) ≡ Some v) is from.1 in
      let taken : accepts a.ignore_case (Signed (pos 1) (pos high)) t ≡ true = subst (λ (p : ValueParser). accepts a.ignore_case p t ≡ true) is from.2 in
      let got = signed_reads ⊤ (λ u x. ParsesUnsigned 32 10 u x) 32 1 high t (Some v) (below_told (2 ^ 32) (without_minus t) v read) (λ u x g. g) fit (accepts-Accepts a.ignore_case (Signed (pos 1) (pos high)) t taken) in
      let same : v ≡ got.0 = ap (λ o. option_map_or (λ z. z) o v) got.1 in
      (omega (arith, same, got.2), omega (arith, same, got.3))

  pub unsigned_within : (a : Rule) (high v : ℕ) → arg_by_id c id ≡ Some a → parser_of_value a.parser ≡ Unsigned 0 high → number_at 64 id rows ≡ Some v → v ≤ high
  unsigned_within a high v known is e =
      let from = number_from a 64 v known e in
      let t = from.0 in
      let read : number_below (2 ^ 64) t ≡ Some v = subst (λ (p : ValueParser). number_below (2 ^ 64) (read_as (reading_of p) t) ≡ Some v) is from.1 in
      let taken : accepts a.ignore_case (Unsigned 0 high) t ≡ true = subst (λ (p : ValueParser). accepts a.ignore_case p t ≡ true) is from.2 in
      let within = accepts-Accepts a.ignore_case (Unsigned 0 high) t taken in
      let told = below_told (2 ^ 64) t v read in
      omega (arith, told.1, within.3)
