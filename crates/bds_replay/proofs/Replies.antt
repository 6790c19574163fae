-- A reply is a field, both ways.
use Rattle.std.proofs.Common.{◌≡◌, ℕ, zero, suc, ◌+◌, ◌^◌, ◌≤◌, ◌<◌, List, [], ◌∷◌, ◌++◌, length, Bool, Ok}
use Rattle.std.proofs.Common.{FitsSigned, refl, sym, ap, subst, ◌∙◌, arith}
use Rattle.std.specs.Bool.{⊤}
use Rattle.std.specs.Int.{w64}
use Rattle.bds_value.specs.declared.value.Input.{Input}
use Rattle.bds_value.specs.Fields.{AreBytes, Stretch, Back, ReadsBack, Spelled, IsField}
use Rattle.bds_value.specs.Reading.{Read, Reader, rest_of, forward, byte_at, bool_at, u32_at, u64_at, i64_at}
use Rattle.bds_value.specs.Reading.{read_map}
use Rattle.bds_value.specs.Spelling.{bool_field, i64_field, u8_field, u32_field, u64_field}
use Rattle.bds_value.proofs.FieldLaws.{bind_ok, map_ok, ok_parts, byte_back, byte_spelled, rest-forward}
use Rattle.bds_value.proofs.FieldLaws.{forward-forward, stretch-bytes, stretch-join}
use Rattle.bds_value.proofs.NumberLaws.{bool_is_field, i64_is_field, u8_is_field, u32_is_field, u64_is_field}
use Rattle.bds_host.specs.declared.asks.Reply.{Reply}
use Rattle.bds_host.specs.declared.asks.Reply.TheVariants.{Bytes, Missing, Stamp, Done, SysDone, Started, Run, Ended}
use Rattle.bds_host.specs.declared.asks.Reply.TheVariants.{Fault, NoRoom}
use Rattle.bds_replay.specs.Log.{MAX_LENGTH, stamp_of, done_of, ended_of, text_at, stamp_at, done_at, ended_at}
use Rattle.bds_replay.specs.Log.{stamp_field, reply_of, reply_at, reply_field, IsFieldReply}
use Rattle.bds_replay.specs.Longs.{both_at, both_field, long_field}
use Rattle.bds_replay.proofs.Longs.{both_is_field, long_is_field}

pub text_is_field : IsField text_at long_field (λ t. length t ≤ MAX_LENGTH)
text_is_field = long_is_field MAX_LENGTH (omega arith)

stamp_is_field : IsField stamp_at stamp_field (λ p. (⊤ × (p.0.1 < 2 ^ 64)) × FitsSigned w64 p.1)
stamp_is_field =
    both_is_field (both_at bool_at u64_at) (both_field bool_field u64_field)
    (λ (p : Bool × ℕ). ⊤ × (p.1 < 2 ^ 64)) i64_at i64_field (λ z. FitsSigned w64 z)
    (both_is_field bool_at bool_field (λ b. ⊤) u64_at u64_field
    (λ n. n < 2 ^ 64) bool_is_field u64_is_field) i64_is_field

done_is_field : IsField done_at (both_field u8_field long_field) (λ p. (p.0 < 256) × (length p.1 ≤ MAX_LENGTH))
done_is_field =
    both_is_field byte_at u8_field (λ b. b < 256) text_at long_field
    (λ t. length t ≤ MAX_LENGTH) u8_is_field text_is_field

ended_is_field : IsField ended_at (both_field u32_field u8_field) (λ p. (p.0 < 2 ^ 32) × (p.1 < 256))
ended_is_field =
    both_is_field u32_at u32_field (λ n. n < 2 ^ 32) byte_at u8_field (λ b. b < 256) u32_is_field u8_is_field

-- Reading back

-- behind a tag
after_tag : {Z : Type 0} (f : Z → Reply) (r : Reader Z) (tag : ℕ) (text : List ℕ) (z : Z) → Back r text z
    → (i : Input) (rest : List ℕ) → rest_of i ≡ (tag ∷ text) ++ rest
    → read_map f (r (forward 1 i)) ≡ Ok (f z, forward (length (tag ∷ text)) i)
after_tag f r tag text z back i rest e =
    rw (back (forward 1 i) rest (rest-forward i (tag ∷ []) (text ++ rest) e))
    (ap (λ k. Ok (f z, k))
    (forward-forward i 1 (length text)
    ∙ ap (λ n. forward n i) (let q : 1 + length text ≡ suc (length text) = omega arith in q)))

tagged : {Z : Type 0} (f : Z → Reply) (r : Reader Z) (tag : ℕ) (text : List ℕ) (z : Z) → Back r text z
    → ((i : Input) (k : Input) → reply_of i.at tag k ≡ read_map f (r k)) → Back reply_at (tag ∷ text) (f z)
tagged f r tag text z back is i rest e =
    rw (byte_back tag i (text ++ rest) e) (is i (forward 1 i) ∙ after_tag f r tag text z back i rest e)

alone : (tag : ℕ) (x : Reply) → ((i : Input) (k : Input) → reply_of i.at tag k ≡ Ok (x, k)) → Back reply_at (tag ∷ []) x
alone tag x is i rest e = rw (byte_back tag i rest e) (is i (forward 1 i))

reply_back : (x : Reply) → IsFieldReply x → ReadsBack reply_at reply_field x
reply_back (Bytes text) h = tagged Bytes text_at 0 (long_field text) text (text_is_field.read_back text h) (λ i k. refl)
reply_back Missing h = alone 1 Missing (λ i k. refl)
reply_back (Stamp there size time) h =
    tagged stamp_of stamp_at 2 (stamp_field ((there, size), time)) ((there, size), time)
    (stamp_is_field.read_back ((there, size), time) h) (λ i k. refl)
reply_back Done h = alone 3 Done (λ i k. refl)
reply_back (SysDone code out) h =
    tagged done_of done_at 4 (both_field u8_field long_field (code, out)) (code, out)
    (done_is_field.read_back (code, out) h) (λ i k. refl)
reply_back Started h = alone 5 Started (λ i k. refl)
reply_back (Run n) h = tagged Run u32_at 6 (u32_field n) n (u32_is_field.read_back n h) (λ i k. refl)
reply_back (Ended task code) h =
    tagged ended_of ended_at 7 (both_field u32_field u8_field (task, code)) (task, code)
    (ended_is_field.read_back (task, code) h) (λ i k. refl)
reply_back Fault h = absurd h
reply_back NoRoom h = absurd h

-- What is read

abbrev SpelledReply : Input → Reply → Input → Type 0
SpelledReply i x j = Spelled reply_field IsFieldReply i x j

read_alone : (i k j : Input) (tag : ℕ) (x y : Reply) → IsFieldReply x → reply_field x ≡ tag ∷ []
    → Stretch i (tag ∷ []) k → ◌≡◌ {A = Read Reply} (Ok (x, k)) (Ok (y, j)) → SpelledReply i y j
read_alone i k j tag x y legal is s e =
    let p = ok_parts x y k j e in
    subst (λ z. SpelledReply i z j) p.0
    (record {
      legal = legal;
      stretch = subst (λ t. Stretch i t j) (sym is) (subst (λ m. Stretch i (tag ∷ []) m) p.1 s);
    })

read_tagged : {Z : Type 0} (f : Z → Reply) (r : Reader Z) (spell : Z → List ℕ) (Legal : Z → Type 0)
    → IsField r spell Legal → (tag : ℕ) → ((z : Z) → Legal z → IsFieldReply (f z))
    → ((z : Z) → reply_field (f z) ≡ tag ∷ spell z)
    → (i k j : Input) (y : Reply) → AreBytes i.bytes → Stretch i (tag ∷ []) k → read_map f (r k) ≡ Ok (y, j)
    → SpelledReply i y j
read_tagged {Z} f r spell Legal field tag legal is i k j y bytes s e =
    let found = map_ok f (r k) (y, j) e in
    let here = field.spelled k found.0.1 found.0.0 (stretch-bytes i k (tag ∷ []) s bytes) found.1.0 in
    let value : f found.0.0 ≡ y = ap (λ (p : Reply × Input). p.0) found.1.1 in
    let next : found.0.1 ≡ j = ap (λ (p : Reply × Input). p.1) found.1.1 in
    let stands : Stretch i (tag ∷ spell found.0.0) j =
    stretch-join i k j (tag ∷ []) (spell found.0.0) s
    (subst (λ m. Stretch k (spell found.0.0) m) next here.stretch) in
    subst (λ z. SpelledReply i z j) value
    (record {
      legal = legal found.0.0 here.legal;
      stretch = subst (λ t. Stretch i t j) (sym (is found.0.0)) stands;
    })

by_tag : (tag : ℕ) (i k j : Input) (y : Reply) → AreBytes i.bytes → Stretch i (tag ∷ []) k
    → reply_of i.at tag k ≡ Ok (y, j) → SpelledReply i y j
by_tag zero i k j y bytes s e =
    read_tagged Bytes text_at long_field (λ t. length t ≤ MAX_LENGTH) text_is_field 0 (λ z h. h)
    (λ z. refl) i k j y bytes s e
by_tag (suc zero) i k j y bytes s e = read_alone i k j 1 Missing y tt refl s e
by_tag (suc (suc zero)) i k j y bytes s e =
    read_tagged stamp_of stamp_at stamp_field _ stamp_is_field 2 (λ z h. h) (λ z. refl) i k j y bytes s e
by_tag (suc (suc (suc zero))) i k j y bytes s e = read_alone i k j 3 Done y tt refl s e
by_tag (suc (suc (suc (suc zero)))) i k j y bytes s e =
    read_tagged done_of done_at (both_field u8_field long_field) _ done_is_field 4 (λ z h. h)
    (λ z. refl) i k j y bytes s e
by_tag (suc (suc (suc (suc (suc zero))))) i k j y bytes s e = read_alone i k j 5 Started y tt refl s e
by_tag (suc (suc (suc (suc (suc (suc zero)))))) i k j y bytes s e =
    read_tagged Run u32_at u32_field (λ n. n < 2 ^ 32) u32_is_field 6 (λ z h. h) (λ z. refl) i k j y bytes s e
by_tag (suc (suc (suc (suc (suc (suc (suc zero))))))) i k j y bytes s e =
    read_tagged ended_of ended_at (both_field u32_field u8_field) _ ended_is_field 7 (λ z h. h)
    (λ z. refl) i k j y bytes s e
by_tag (suc (suc (suc (suc (suc (suc (suc (suc n)))))))) i k j y bytes s e = absurd (cc e)

pub reply_is_field : IsField reply_at reply_field IsFieldReply
reply_is_field = record {
  read_back = reply_back;
  spelled = λ i j y bytes e.
      let found = bind_ok (byte_at i) (λ (b : ℕ × Input). reply_of i.at b.0 b.1) (y, j) e in
      let here = byte_spelled i found.0.1 found.0.0 bytes found.1.0 in
      by_tag found.0.0 i found.0.1 j y bytes here.stretch found.1.1;
}
