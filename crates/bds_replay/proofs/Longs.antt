-- Fields with a length of 64 bits are fields, both ways.
use Rattle.std.proofs.Common.{◌≡◌, ℕ, zero, suc, ◌^◌, ◌≤◌, ◌<◌, List, [], ◌∷◌, length, Bool, true, false, Ok}
use Rattle.std.proofs.Common.{Err, nat_lt, refl, sym, subst, arith}
use Rattle.std.proofs.lemmas.Bool.{le-ltb, lt-ltb, ltb-false}
use Rattle.std.specs.List.{AllByRecursion, flat_map}
use Rattle.bds_value.specs.declared.TheConstants.{MAX_PROCESSORS}
use Rattle.bds_value.specs.declared.faults.FieldFault.TheVariants.{BadNumber}
use Rattle.bds_value.specs.declared.value.Input.{Input}
use Rattle.bds_value.specs.Fields.{Stretch, ReadsBack, Spelled, IsField}
use Rattle.bds_value.specs.Reading.{◌>>=◌, Read, Reader, forward, bytes_at, many, u32_at, u64_at, within}
use Rattle.bds_value.specs.Spelling.{u32_field, u64_field}
use Rattle.bds_value.proofs.FieldLaws.{back_then, bind_ok, bytes_back, bytes_spelled, ok_parts, stretch-join}
use Rattle.bds_value.proofs.FieldLaws.{stretch-bytes}
use Rattle.bds_value.proofs.ListLaws.{many_back, many_spelled}
use Rattle.bds_value.proofs.NumberLaws.{u32_is_field, u64_is_field}
use Rattle.bds_value.proofs.RestLaws.{rest_field, rest_last, rest_then}
use Rattle.bds_replay.specs.Log.{cpus_at}
use Rattle.bds_replay.specs.Longs.{both_at, both_field, from_one, long_at, long_count_at, long_field, long_list_at}
use Rattle.bds_replay.specs.Longs.{long_list_field}

-- a number that is within its limit
within_spelled : (limit : ℕ) (spell : ℕ → List ℕ) (i k j : Input) (m n : ℕ) (b : Bool) → nat_lt limit m ≡ b
    → Stretch i (spell m) k → within i.at limit m k ≡ Ok (n, j) → Spelled spell (λ n. n ≤ limit) i n j
within_spelled limit spell i k j m n true t s e = let g : ◌≡◌ {A = Read ℕ} (Err (BadNumber i.at m)) (Ok (n, j)) =
    rw t at e in absurd (cc)
within_spelled limit spell i k j m n false t s e =
    let g : ◌≡◌ {A = Read ℕ} (Ok (m, k)) (Ok (n, j)) = rw t at e in
    let p = ok_parts m n k j g in
    record {
      legal = subst (λ x. x ≤ limit) p.0 (ltb-false limit m t);
      stretch = subst (λ x. Stretch i (spell x) j) p.0 (subst (λ x. Stretch i (spell m) x) p.1 s);
    }

pub long_count_is_field : (limit : ℕ) → limit < 2 ^ 64 → IsField (long_count_at limit) u64_field (λ n. n ≤ limit)
long_count_is_field limit small = record {
  read_back = λ n le i rest e.
      let enough : nat_lt limit n ≡ false = le-ltb limit n le in
      rw (u64_is_field.read_back n (omega arith) i rest e, enough) refl;
  spelled = λ i j n bytes e.
      let found = bind_ok (u64_at i) (λ (x : ℕ × Input). within i.at limit x.0 x.1) (n, j) e in
      let here = u64_is_field.spelled i found.0.1 found.0.0 bytes found.1.0 in
      within_spelled limit u64_field i found.0.1 j found.0.0 n (nat_lt limit found.0.0) refl here.stretch found.1.1;
}

pub long_is_field : (limit : ℕ) → limit < 2 ^ 64 → IsField (long_at limit) long_field (λ t. length t ≤ limit)
long_is_field limit small = record {
  read_back =
      λ t le. back_then (long_count_at limit) bytes_at (u64_field (length t)) t (length t) t
      ((long_count_is_field limit small).read_back (length t) le) (bytes_back t);
  spelled = λ i j t bytes e.
      let found = bind_ok (long_count_at limit i) (λ (x : ℕ × Input). bytes_at x.0 x.1) (t, j) e in
      let here = (long_count_is_field limit small).spelled i found.0.1 found.0.0 bytes found.1.0 in
      let there = bytes_spelled found.0.0 found.0.1 j t found.1.1 in
      record {
        legal = subst (λ n. n ≤ limit) (sym there.1) here.legal;
        stretch =
            stretch-join i found.0.1 j (u64_field (length t)) t
            (subst (λ n. Stretch i (u64_field n) found.0.1) (sym there.1) here.stretch) there.0;
      };
}

all_back : {X : Type 0} (r : Reader X) (spell : X → List ℕ) (Legal : X → Type 0) → IsField r spell Legal
    → (xs : List X) → AllByRecursion Legal xs → AllByRecursion (ReadsBack r spell) xs
all_back r spell Legal field [] h = tt
all_back r spell Legal field (x ∷ xs) h = (field.read_back x h.0, all_back r spell Legal field xs h.1)

pub long_list_is_field : {X : Type 0} (r : Reader X) (spell : X → List ℕ) (Legal : X → Type 0) → IsField r spell Legal
    → (limit : ℕ) → limit < 2 ^ 64
    → IsField (long_list_at limit r) (long_list_field spell) (λ xs. (length xs ≤ limit) × AllByRecursion Legal xs)
long_list_is_field {X = X} r spell Legal field limit small = record {
  read_back =
      λ xs h. back_then (long_count_at limit) (many r) (u64_field (length xs)) (flat_map spell xs) (length xs) xs
      ((long_count_is_field limit small).read_back (length xs) h.0)
      (many_back r spell xs (all_back r spell Legal field xs h.1));
  spelled = λ i j xs bytes e.
      let found = bind_ok (long_count_at limit i) (λ (n : ℕ × Input). many r n.0 n.1) (xs, j) e in
      let here = (long_count_is_field limit small).spelled i found.0.1 found.0.0 bytes found.1.0 in
      let there =
      many_spelled r spell Legal field.spelled found.0.0 found.0.1 j xs
      (stretch-bytes i found.0.1 (u64_field found.0.0) here.stretch bytes) found.1.1 in
      record {
        legal = (subst (λ n. n ≤ limit) (sym there.0) here.legal, there.1.0);
        stretch =
            stretch-join i found.0.1 j (u64_field (length xs)) (flat_map spell xs)
            (subst (λ n. Stretch i (u64_field n) found.0.1) (sym there.0) here.stretch) there.1.1;
      };
}

pub both_is_field : {X Y : Type 0} (r : Reader X) (f : X → List ℕ) (LegalX : X → Type 0) (s : Reader Y)
    (g : Y → List ℕ) (LegalY : Y → Type 0) → IsField r f LegalX → IsField s g LegalY
    → IsField (both_at r s) (both_field f g) (λ p. LegalX p.0 × LegalY p.1)
both_is_field {X} {Y} r f LegalX s g LegalY rf sf =
    rest_field (both_at r s) (both_field f g) (λ p. LegalX p.0 × LegalY p.1)
    (rest_then {X = Unit {0}} {Y = X × Y} {Z = X} (λ p. tt) (λ p. p.0) r f LegalX
    (λ x i. s i >>= λ y. Ok ((x.1, y.0), y.1)) (λ p. g p.1) (λ p. LegalY p.1) rf
    (rest_last {X = (Unit {0}) × X} {Y = X × Y} {Z = Y} (λ p. (tt, p.0)) (λ p. p.1) (λ x. s) g (λ x y. LegalY y)
    (λ x y. (x.1, y)) (λ p. refl) (λ x y. refl) (λ x y. refl) (λ x. sf)))

-- a number from 1 on

from_one_spelled : (i k j : Input) (m n : ℕ) → Stretch i (u32_field m) k → from_one i.at MAX_PROCESSORS m k ≡ Ok (n, j)
    → Spelled u32_field (λ n. (1 ≤ n) × (n ≤ MAX_PROCESSORS)) i n j
from_one_spelled i k j zero n s e = absurd (cc e)
from_one_spelled i k j (suc m) n s e =
    go (within_spelled MAX_PROCESSORS u32_field i k j (suc m) n (nat_lt MAX_PROCESSORS (suc m)) refl s e)
    (low (nat_lt MAX_PROCESSORS (suc m)) refl)
  where
    low : (b : Bool) → nat_lt MAX_PROCESSORS (suc m) ≡ b → 1 ≤ n
    low true t = let g : ◌≡◌ {A = Read ℕ} (Err (BadNumber i.at (suc m))) (Ok (n, j)) = rw t at e in absurd (cc)
    low false t =
        let g : ◌≡◌ {A = Read ℕ} (Ok (suc m, k)) (Ok (n, j)) = rw t at e in
        let p = ok_parts (suc m) n k j g in
        subst (λ x. 1 ≤ x) p.0 (omega arith)

    go : Spelled u32_field (λ n. n ≤ MAX_PROCESSORS) i n j → 1 ≤ n
        → Spelled u32_field (λ n. (1 ≤ n) × (n ≤ MAX_PROCESSORS)) i n j
    go h l = record { legal = (l, h.legal); stretch = h.stretch }

pub from_one-back : (n at : ℕ) (k : Input) → 1 ≤ n → n ≤ MAX_PROCESSORS → from_one at MAX_PROCESSORS n k ≡ Ok (n, k)
from_one-back zero at k low high = absurd (omega arith)
from_one-back (suc n) at k low high = let enough : nat_lt MAX_PROCESSORS (suc n) ≡ false =
    le-ltb MAX_PROCESSORS (suc n) high in rw enough refl

pub from_one-low : (n at : ℕ) (k : Input) → n < 1 → from_one at MAX_PROCESSORS n k ≡ Err (BadNumber at n)
from_one-low zero at k low = refl
from_one-low (suc n) at k low = absurd (omega arith)

pub from_one-high : (n at : ℕ) (k : Input) → MAX_PROCESSORS < n → from_one at MAX_PROCESSORS n k ≡ Err (BadNumber at n)
from_one-high zero at k high = absurd (omega arith)
from_one-high (suc n) at k high = let over : nat_lt MAX_PROCESSORS (suc n) ≡ true =
    lt-ltb MAX_PROCESSORS (suc n) high in rw over refl

pub ruleset from_ones = (from_one-back, from_one-low, from_one-high)

pub cpus_are_field : IsField cpus_at u32_field (λ n. (1 ≤ n) × (n ≤ MAX_PROCESSORS))
cpus_are_field = record {
  read_back = λ n h i rest e.
      let small : n < 2 ^ 32 = omega (arith, h.1) in
      rw (u32_is_field.read_back n small i rest e) (from_one-back n i.at (forward 4 i) h.0 h.1);
  spelled = λ i j n bytes e.
      let found = bind_ok (u32_at i) (λ (x : ℕ × Input). from_one i.at MAX_PROCESSORS x.0 x.1) (n, j) e in
      let here = u32_is_field.spelled i found.0.1 found.0.0 bytes found.1.0 in
      from_one_spelled i found.0.1 j found.0.0 n here.stretch found.1.1;
}
