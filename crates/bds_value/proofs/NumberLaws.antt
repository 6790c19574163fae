-- Numbers, truth values, counts and texts, both ways.
use Rattle.std.proofs.Common.{◌≡◌, ℕ, zero, suc, ◌+◌, ◌^◌, ◌≤◌, ◌<◌, List, [], ◌∷◌, length, get_or, Bool, true, false, Ok, Err, nat_lt, Fits, FitsSigned, refl, sym, ap, subst, ◌∙◌, arith}
use Rattle.std.proofs.Math.Facts.{sfits_to_z, Fits-of_z}
use Rattle.std.proofs.lemmas.Bool.{le-ltb, ltb-false, ltb-true}
use Rattle.std.proofs.lemmas.Int.{of_z-to_z, to_z-of_z}
use Rattle.std.proofs.lemmas.List.{get_or-drop, get_or_past}
use Rattle.std.proofs.Math.ListN.{get_or-append}
use Rattle.std.proofs.lemmas.Nat.{be_bytes_2, be_bytes_4, be_bytes_8, from_be_bytes-to_be_bytes_2, from_be_bytes-to_be_bytes_4, from_be_bytes-to_be_bytes_8}
use Rattle.std.specs.Bool.{⊤}
use Rattle.std.specs.Int.{w16, w32, w64, to_be_bytes, from_be_bytes, cast_signed, cast_unsigned}
use Rattle.bds_value.specs.declared.TheConstants.{MAX_TEXT}
use Rattle.bds_value.specs.declared.faults.FieldFault.TheVariants.{BadNumber}
use Rattle.bds_value.specs.declared.value.Input.{Input}
use Rattle.bds_value.specs.Fields.{AreBytes, Stretch, ReadsBack, Spelled, ReadsSpelled, IsField}
use Rattle.bds_value.specs.Reading.{Read, read_map, rest_of, forward, byte_at, bytes_at, u16_at, u32_at, u64_at, i64_at, bool_at, bool_of, count_at, within, text_at}
use Rattle.bds_value.specs.Spelling.{u8_field, bool_field, u16_field, u32_field, u64_field, i64_field, text_field}
use Rattle.bds_value.proofs.FieldLaws.{bytes_back, bytes_spelled, byte_back, byte_spelled, bind_ok, map_ok, ok_parts, stretch-join, back_then}

-- the bytes of a text that stands in an input
pub bytes_within : (i j : Input) (text : List ℕ) → AreBytes i.bytes → Stretch i text j → (k : ℕ) → get_or text k 0 < 256
bytes_within i j text bytes s k = by_test (nat_lt k (length text)) refl
  where
    by_test : (b : Bool) → nat_lt k (length text) ≡ b → get_or text k 0 < 256
    by_test true t =
        let small : get_or (rest_of i) k 0 < 256 = rw (get_or-drop i.at i.bytes k 0) (bytes (i.at + k)) in
        let inside : k < length text = ltb-true k (length text) t in
        rw (sym (ap (λ l. get_or l k 0) s.stands ∙ get_or-append text (rest_of j) 0 k inside)) small
    by_test false t = rw (get_or_past text k 0 (ltb-false k (length text) t)) (omega arith)

-- what is read as a number of bytes and seen as a value that those bytes spell
pub seen_spelled : {X : Type 0} (size : ℕ) (f : List ℕ → X) (spell : X → List ℕ) (Legal : X → Type 0)
    → ((bs : List ℕ) → length bs ≡ size → ((k : ℕ) → get_or bs k 0 < 256) → Legal (f bs) × (spell (f bs) ≡ bs)) → ReadsSpelled (λ i. read_map f (bytes_at size i)) spell Legal
seen_spelled {X = X} size f spell Legal good i j n bytes e =
    let found = map_ok f (bytes_at size i) (n, j) e in
    let value : f found.0.0 ≡ n = ap (λ (p : X × Input). p.0) found.1.1 in
    let next : found.0.1 ≡ j = ap (λ (p : X × Input). p.1) found.1.1 in
    let here = bytes_spelled size i found.0.1 found.0.0 found.1.0 in
    let fits = good found.0.0 here.1 (bytes_within i found.0.1 found.0.0 bytes here.0) in
    let spelt : found.0.0 ≡ spell n = sym fits.1 ∙ ap spell value in
    record {
      legal = subst Legal value fits.0;
      stretch = subst (λ t. Stretch i t j) spelt (subst (λ k. Stretch i found.0.0 k) next here.0);
    }

u16_seen : (bs : List ℕ) → length bs ≡ 2 → ((k : ℕ) → get_or bs k 0 < 256) → (from_be_bytes w16 bs < 2 ^ 16) × (u16_field (from_be_bytes w16 bs) ≡ bs)
u16_seen bs size h = (omega (arith, h 0, h 1), be_bytes_2 bs (from_be_bytes w16 bs) size h refl)

u32_seen : (bs : List ℕ) → length bs ≡ 4 → ((k : ℕ) → get_or bs k 0 < 256) → (from_be_bytes w32 bs < 2 ^ 32) × (u32_field (from_be_bytes w32 bs) ≡ bs)
u32_seen bs size h = (omega (arith, h 0, h 1, h 2, h 3), be_bytes_4 bs (from_be_bytes w32 bs) size h refl)

u64_seen : (bs : List ℕ) → length bs ≡ 8 → ((k : ℕ) → get_or bs k 0 < 256) → (from_be_bytes w64 bs < 2 ^ 64) × (u64_field (from_be_bytes w64 bs) ≡ bs)
u64_seen bs size h = (omega (arith, h 0, h 1, h 2, h 3, h 4, h 5, h 6, h 7), be_bytes_8 bs (from_be_bytes w64 bs) size h refl)

i64_seen : (bs : List ℕ) → length bs ≡ 8 → ((k : ℕ) → get_or bs k 0 < 256) → FitsSigned w64 (cast_signed w64 (from_be_bytes w64 bs)) × (i64_field (cast_signed w64 (from_be_bytes w64 bs)) ≡ bs)
i64_seen bs size h =
    let seen = u64_seen bs size h in
    let small : Fits w64 (from_be_bytes w64 bs) = record { fits = seen.0 } in
    (sfits_to_z small, ap u64_field (of_z-to_z w64 (from_be_bytes w64 bs) seen.0) ∙ seen.1)

pub u16_is_field : IsField u16_at u16_field (λ n. n < 2 ^ 16)
u16_is_field = record {
  read_back = λ n small i rest e. rw (bytes_back (to_be_bytes w16 n) i rest e) (ap (λ m. Ok (m, forward 2 i)) (from_be_bytes-to_be_bytes_2 n small));
  spelled = seen_spelled 2 (from_be_bytes w16) u16_field (λ n. n < 2 ^ 16) u16_seen;
}

pub u32_is_field : IsField u32_at u32_field (λ n. n < 2 ^ 32)
u32_is_field = record {
  read_back = λ n small i rest e. rw (bytes_back (to_be_bytes w32 n) i rest e) (ap (λ m. Ok (m, forward 4 i)) (from_be_bytes-to_be_bytes_4 n small));
  spelled = seen_spelled 4 (from_be_bytes w32) u32_field (λ n. n < 2 ^ 32) u32_seen;
}

pub u64_is_field : IsField u64_at u64_field (λ n. n < 2 ^ 64)
u64_is_field = record {
  read_back = λ n small i rest e. rw (bytes_back (to_be_bytes w64 n) i rest e) (ap (λ m. Ok (m, forward 8 i)) (from_be_bytes-to_be_bytes_8 n small));
  spelled = seen_spelled 8 (from_be_bytes w64) u64_field (λ n. n < 2 ^ 64) u64_seen;
}

pub i64_is_field : IsField i64_at i64_field (λ z. FitsSigned w64 z)
i64_is_field = record {
  read_back = λ z fits i rest e. rw (bytes_back (to_be_bytes w64 (cast_unsigned w64 z)) i rest e)
      (ap (λ m. Ok (m, forward 8 i)) (ap (cast_signed w64) (from_be_bytes-to_be_bytes_8 (cast_unsigned w64 z) (Fits-of_z fits).fits) ∙ to_z-of_z w64 z fits));
  spelled = seen_spelled 8 (λ bs. cast_signed w64 (from_be_bytes w64 bs)) i64_field (λ z. FitsSigned w64 z) i64_seen;
}

pub u8_is_field : IsField byte_at u8_field (λ b. b < 256)
u8_is_field = record { read_back = λ b small. byte_back b; spelled = byte_spelled }

pub bool_is_field : IsField bool_at bool_field (λ b. ⊤)
bool_is_field = record {
  read_back = λ b legal i rest e. bool_back b i rest e;
  spelled = bool_spelled;
}
  where
    bool_back : (b : Bool) → ReadsBack bool_at bool_field b
    bool_back true i rest e = rw (byte_back 1 i rest e) refl
    bool_back false i rest e = rw (byte_back 0 i rest e) refl

    by_tag : (i k j : Input) (tag : ℕ) (b : Bool) → Stretch i (tag ∷ []) k → bool_of i.at tag k ≡ Ok (b, j) → Spelled bool_field (λ b. ⊤) i b j
    by_tag i k j zero b s e = let p = ok_parts false b k j e in record { legal = tt; stretch = subst (λ (c : Bool). Stretch i (bool_field c) j) p.0 (subst (λ m. Stretch i (0 ∷ []) m) p.1 s) }
    by_tag i k j (suc zero) b s e = let p = ok_parts true b k j e in record { legal = tt; stretch = subst (λ (c : Bool). Stretch i (bool_field c) j) p.0 (subst (λ m. Stretch i (1 ∷ []) m) p.1 s) }
    by_tag i k j (suc (suc n)) b s e = absurd (cc)

    bool_spelled : ReadsSpelled bool_at bool_field (λ b. ⊤)
    bool_spelled i j b bytes e =
        let found = bind_ok (byte_at i) (λ (x : ℕ × Input). bool_of i.at x.0 x.1) (b, j) e in
        let here = byte_spelled i found.0.1 found.0.0 bytes found.1.0 in
        by_tag i found.0.1 j found.0.0 b here.stretch found.1.1

-- a count up to its limit
pub count_is_field : (limit : ℕ) → limit < 2 ^ 32 → IsField (count_at limit) u32_field (λ n. n ≤ limit)
count_is_field limit small = record {
  read_back = λ n le i rest e.
      let enough : nat_lt limit n ≡ false = le-ltb limit n le in
      rw (u32_is_field.read_back n (omega arith) i rest e, enough) refl;
  spelled = count_spelled;
}
  where
    by_test : (i k j : Input) (m n : ℕ) (b : Bool) → nat_lt limit m ≡ b → Stretch i (u32_field m) k → within i.at limit m k ≡ Ok (n, j) → Spelled u32_field (λ n. n ≤ limit) i n j
    by_test i k j m n true t s e = let g : ◌≡◌ {A = Read ℕ} (Err (BadNumber i.at m)) (Ok (n, j)) = rw t at e in absurd (cc)
    by_test i k j m n false t s e =
        let g : ◌≡◌ {A = Read ℕ} (Ok (m, k)) (Ok (n, j)) = rw t at e in
        let p = ok_parts m n k j g in
        record {
          legal = subst (λ x. x ≤ limit) p.0 (ltb-false limit m t);
          stretch = subst (λ x. Stretch i (u32_field x) j) p.0 (subst (λ x. Stretch i (u32_field m) x) p.1 s);
        }

    count_spelled : ReadsSpelled (count_at limit) u32_field (λ n. n ≤ limit)
    count_spelled i j n bytes e =
        let found = bind_ok (u32_at i) (λ (x : ℕ × Input). within i.at limit x.0 x.1) (n, j) e in
        let here = u32_is_field.spelled i found.0.1 found.0.0 bytes found.1.0 in
        by_test i found.0.1 j found.0.0 n (nat_lt limit found.0.0) refl here.stretch found.1.1

-- a text
pub text_is_field : IsField text_at text_field (λ t. length t ≤ MAX_TEXT)
text_is_field = record {
  read_back = λ t le. back_then (count_at MAX_TEXT) bytes_at (u32_field (length t)) t (length t) t (limited.read_back (length t) le) (bytes_back t);
  spelled = text_spelled;
}
  where
    limited : IsField (count_at MAX_TEXT) u32_field (λ n. n ≤ MAX_TEXT)
    limited = count_is_field MAX_TEXT (omega arith)

    text_spelled : ReadsSpelled text_at text_field (λ t. length t ≤ MAX_TEXT)
    text_spelled i j t bytes e =
        let found = bind_ok (count_at MAX_TEXT i) (λ (x : ℕ × Input). bytes_at x.0 x.1) (t, j) e in
        let here = limited.spelled i found.0.1 found.0.0 bytes found.1.0 in
        let there = bytes_spelled found.0.0 found.0.1 j t found.1.1 in
        record {
          legal = subst (λ n. n ≤ MAX_TEXT) (sym there.1) here.legal;
          stretch = stretch-join i found.0.1 j (u32_field (length t)) t (subst (λ n. Stretch i (u32_field n) found.0.1) (sym there.1) here.stretch) there.0;
        }
