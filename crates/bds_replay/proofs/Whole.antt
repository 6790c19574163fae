-- A log is read back, and what is read is spelled so.
use Rattle.std.proofs.Common.{◌≡◌, ℕ, ◌<◌, ◌≤◌, ◌^◌, List, [], ◌∷◌, ◌++◌, ◌==◌, Bool, true, false, length, Ok, Err}
use Rattle.std.proofs.Common.{refl, sym, ap, subst, add-zero, arith, ◌∙◌, append_assoc}
use Rattle.std.specs.Bool.{⊤}
use Rattle.std.specs.List.{AllByRecursion}
use Rattle.std.proofs.lemmas.Bool.{eq-eqb, eqb-true}
use Rattle.std.proofs.lemmas.List.Elements.{All-from_recursion, recursion_from_All}
use Rattle.bds_value.specs.declared.TheConstants.{MAX_PROCESSORS, MAX_TEXT, MAX_TICKS}
use Rattle.bds_value.specs.declared.faults.FieldFault.TheVariants.{BadTag}
use Rattle.bds_value.specs.declared.value.Input.{Input}
use Rattle.bds_value.specs.Fields.{AreBytes, Back, IsField, Stretch}
use Rattle.bds_value.specs.Reading.{◌>>=◌, Read, Reader, byte_at, bool_at}
use Rattle.bds_value.specs.Spelling.{bool_field, u32_field, u64_field}
use Rattle.bds_value.proofs.FieldLaws.{back_then, bind_ok, byte_back, ok_parts, stretch-bytes, stretch-join}
use Rattle.bds_value.proofs.FieldLaws.{stretch-none}
use Rattle.bds_value.proofs.NumberLaws.{u8_is_field, bool_is_field}
use Rattle.bds_value.proofs.RestLaws.{rest_field, rest_last, rest_then, same_field}
use Rattle.bds_host.specs.declared.asks.Reply.{Reply}
use Rattle.bds_replay.specs.declared.log.Log.{Log}
use Rattle.bds_replay.specs.Log.{MAX_LENGTH, mark, matched, byte_is, bytes_are, text_at, reply_at, reply_field}
use Rattle.bds_replay.specs.Log.{IsFieldReply, cpus_at, most_words, rest_at, log_at, log_field, IsFieldLog}
use Rattle.bds_replay.specs.Longs.{both_field, long_at, long_count_at, long_field, long_list_at, long_list_field}
use Rattle.bds_replay.proofs.Longs.{both_is_field, cpus_are_field, long_count_is_field, long_is_field}
use Rattle.bds_replay.proofs.Longs.{long_list_is_field}
use Rattle.bds_replay.proofs.Replies.{reply_is_field, text_is_field}

abbrev Nothing : Type 0
Nothing = Unit {0}

-- a given byte

equal_to_itself : (b : ℕ) → (b == b) ≡ true
equal_to_itself b = eq-eqb b b refl

given_back : (b : ℕ) → Back (byte_is b) (b ∷ []) tt
given_back b i rest e = rw (byte_back b i rest e, equal_to_itself b) refl

same_number : (a b : ℕ) → (a == b) ≡ true → a ≡ b
same_number a b e = eqb-true a b e

given_spelled : (b : ℕ) (i j : Input) → AreBytes i.bytes → byte_is b i ≡ Ok (tt, j) → Stretch i (b ∷ []) j
given_spelled b i j bytes e =
    let found = bind_ok (byte_at i) (λ (n : ℕ × Input). matched b i.at n.0 n.1) (tt, j) e in
    let here = u8_is_field.spelled i found.0.1 found.0.0 bytes found.1.0 in
    by_test found.0.0 found.0.1 here.stretch (found.0.0 == b) refl found.1.1
  where
    by_test : (n : ℕ) (k : Input) → Stretch i (n ∷ []) k → (t : Bool) → (n == b) ≡ t → matched b i.at n k ≡ Ok (tt, j)
        → Stretch i (b ∷ []) j
    by_test n k s true t g =
        let h : ◌≡◌ {A = Read Nothing} (Ok (tt, k)) (Ok (tt, j)) = rw t at g in
        let p = ok_parts tt tt k j h in
        subst (λ m. Stretch i (m ∷ []) j) (same_number n b t) (subst (λ c. Stretch i (n ∷ []) c) p.1 s)
    by_test n k s false t g =
        let h : ◌≡◌ {A = Read Nothing} (Err (BadTag i.at n)) (Ok (tt, j)) = rw t at g in absurd (cc)

-- given bytes, one behind the other

bytes_back : (bs : List ℕ) → Back (bytes_are bs) bs tt
bytes_back [] i rest e = ap (λ k. Ok (tt, k)) (ap (λ n. record { bytes = i.bytes; at = n }) (sym (add-zero i.at)))
bytes_back (b ∷ bs) i rest e =
    back_then (byte_is b) (λ x. bytes_are bs) (b ∷ []) bs tt tt (given_back b) (bytes_back bs) i rest e

bytes_spelled : (bs : List ℕ) (i j : Input) → AreBytes i.bytes → bytes_are bs i ≡ Ok (tt, j) → Stretch i bs j
bytes_spelled [] i j bytes e = let p = ok_parts tt tt i j e in subst (λ k. Stretch i [] k) p.1 (stretch-none i)
bytes_spelled (b ∷ bs) i j bytes e =
    let found = bind_ok (byte_is b i) (λ (x : Nothing × Input). bytes_are bs x.1) (tt, j) e in
    let here = given_spelled b i found.0.1 bytes found.1.0 in
    stretch-join i found.0.1 j (b ∷ []) bs here
    (bytes_spelled bs found.0.1 j (stretch-bytes i found.0.1 (b ∷ []) here bytes) found.1.1)

bytes_are_field : (bs : List ℕ) → IsField (bytes_are bs) (λ x. bs) (λ x. ⊤)
bytes_are_field bs =
    record {
      read_back = λ x h. bytes_back bs;
      spelled = λ i j x bytes e. record { legal = tt; stretch = bytes_spelled bs i j bytes e };
    }

-- the parts of a file

abbrev LegalWords : Bool → List (List ℕ) → Type 0
LegalWords resume ws = (length ws ≤ most_words resume) × AllByRecursion (λ (t : List ℕ). length t ≤ MAX_TEXT) ws

abbrev LegalReplies : List Reply → Type 0
LegalReplies rs = (length rs ≤ MAX_LENGTH) × AllByRecursion IsFieldReply rs

few_words : (resume : Bool) → most_words resume < 2 ^ 64
few_words true = omega arith
few_words false = omega arith

abbrev Tail : Type 0
Tail = List (List ℕ) × List Reply

abbrev tail_field : Tail → List ℕ
tail_field = both_field (long_list_field long_field) (long_list_field reply_field)

tail_is_field : (resume : Bool) → IsField (rest_at resume) tail_field (λ p. LegalWords resume p.0 × LegalReplies p.1)
tail_is_field resume =
    both_is_field (long_list_at (most_words resume) (long_at MAX_TEXT)) (long_list_field long_field)
    (LegalWords resume) (long_list_at MAX_LENGTH reply_at) (long_list_field reply_field) LegalReplies
    (long_list_is_field (long_at MAX_TEXT) long_field (λ (t : List ℕ). length t ≤ MAX_TEXT)
    (long_is_field MAX_TEXT (omega arith)) (most_words resume) (few_words resume))
    (long_list_is_field reply_at reply_field IsFieldReply reply_is_field MAX_LENGTH (omega arith))

abbrev P1 : Type 0
P1 = (Unit {0}) × Nothing

abbrev P2 : Type 0
P2 = P1 × Bool

abbrev P3 : Type 0
P3 = P2 × List ℕ

abbrev P4 : Type 0
P4 = P3 × ℕ

abbrev P5 : Type 0
P5 = P4 × ℕ

abbrev built : P5 → Tail → Log
built x t =
    record {
      job = record { resume = x.0.0.0.1; path = x.0.0.1; cpus = x.0.1; ticks = x.1; words = t.0 };
      replies = t.1;
    }

abbrev part5 : Log → P5
part5 l = (((((tt, tt), l.job.resume), l.job.path), l.job.cpus), l.job.ticks)

abbrev tail_of : Log → Tail
tail_of l = (l.job.words, l.replies)

abbrev at5 : P5 → Reader Log
at5 x i = rest_at x.0.0.0.1 i >>= λ z. Ok (built x z.0, z.1)

abbrev at4 : P4 → Reader Log
at4 x i = long_count_at MAX_TICKS i >>= λ z. at5 (x, z.0) z.1

abbrev at3 : P3 → Reader Log
at3 x i = cpus_at i >>= λ z. at4 (x, z.0) z.1

abbrev at2 : P2 → Reader Log
at2 x i = text_at i >>= λ z. at3 (x, z.0) z.1

abbrev at1 : P1 → Reader Log
at1 x i = bool_at i >>= λ z. at2 (x, z.0) z.1

abbrev L5 : Log → Type 0
L5 l = LegalWords l.job.resume l.job.words × LegalReplies l.replies

abbrev L4 : Log → Type 0
L4 l = (l.job.ticks ≤ MAX_TICKS) × L5 l

abbrev L3 : Log → Type 0
L3 l = ((1 ≤ l.job.cpus) × (l.job.cpus ≤ MAX_PROCESSORS)) × L4 l

abbrev L2 : Log → Type 0
L2 l = (length l.job.path ≤ MAX_LENGTH) × L3 l

abbrev L1 : Log → Type 0
L1 l = ⊤ × L2 l

abbrev L0 : Log → Type 0
L0 l = ⊤ × L1 l

abbrev S4 : Log → List ℕ
S4 l = u64_field l.job.ticks ++ tail_field (tail_of l)

abbrev S3 : Log → List ℕ
S3 l = u32_field l.job.cpus ++ S4 l

abbrev S2 : Log → List ℕ
S2 l = long_field l.job.path ++ S3 l

abbrev S1 : Log → List ℕ
S1 l = bool_field l.job.resume ++ S2 l

abbrev S0 : Log → List ℕ
S0 l = mark ++ S1 l

straight : IsField log_at S0 L0
straight =
    rest_field log_at S0 L0
    (rest_then {X = Unit {0}} {Y = Log} {Z = Nothing} (λ l. tt) (λ l. tt) (bytes_are mark) (λ x. mark)
    (λ x. ⊤) at1 S1 L1 (bytes_are_field mark)
    (rest_then {X = P1} {Y = Log} {Z = Bool} (λ l. (tt, tt)) (λ l. l.job.resume) bool_at bool_field
    (λ b. ⊤) at2 S2 L2 bool_is_field
    (rest_then {X = P2} {Y = Log} {Z = List ℕ} (λ l. ((tt, tt), l.job.resume)) (λ l. l.job.path) text_at long_field
    (λ t. length t ≤ MAX_LENGTH) at3 S3 L3 text_is_field
    (rest_then {X = P3} {Y = Log} {Z = ℕ} (λ l. (((tt, tt), l.job.resume), l.job.path))
    (λ l. l.job.cpus) cpus_at u32_field (λ n. (1 ≤ n) × (n ≤ MAX_PROCESSORS)) at4 S4 L4 cpus_are_field
    (rest_then {X = P4} {Y = Log} {Z = ℕ} (λ l. ((((tt, tt), l.job.resume), l.job.path), l.job.cpus))
    (λ l. l.job.ticks) (long_count_at MAX_TICKS) u64_field (λ n. n ≤ MAX_TICKS) at5
    (λ l. tail_field (tail_of l)) L5 (long_count_is_field MAX_TICKS (omega arith))
    (rest_last {X = P5} {Y = Log} {Z = Tail} part5 tail_of (λ x. rest_at x.0.0.0.1) tail_field
    (λ x t. LegalWords x.0.0.0.1 t.0 × LegalReplies t.1) built (λ l. refl) (λ x t. refl) (λ x t. refl)
    (λ x. tail_is_field x.0.0.0.1)))))))

head_first : (l : Log) → S0 l ≡ log_field l
head_first l =
    let words = long_list_field long_field l.job.words in
    let replies = long_list_field reply_field l.replies in
    let ticks = u64_field l.job.ticks in
    let cpus = u32_field l.job.cpus in
    let path = long_field l.job.path in
    ap (λ t. mark ++ t) (sym (
    append_assoc (bool_field l.job.resume) (path ++ (cpus ++ (ticks ++ words))) replies
    ∙ ap (λ t. bool_field l.job.resume ++ t) (append_assoc path (cpus ++ (ticks ++ words)) replies
    ∙ ap (λ t. path ++ t) (append_assoc cpus (ticks ++ words) replies
    ∙ ap (λ t. cpus ++ t) (append_assoc ticks words replies)))))

abbrev IsShort : List ℕ → Type 0
IsShort t = length t ≤ MAX_TEXT

pub log_is_field : IsField log_at log_field IsFieldLog
log_is_field = same_field log_at S0 log_field L0 IsFieldLog (λ l. head_first l)
    (λ l h. record {
      job = record {
        cpus = h.1.1.1.0;
        ticks = h.1.1.1.1.0;
        few = h.1.1.1.1.1.0.0;
        words = All-from_recursion IsShort l.job.words h.1.1.1.1.1.0.1;
      };
      path = h.1.1.0;
      count = h.1.1.1.1.1.1.0;
      replies = All-from_recursion IsFieldReply l.replies h.1.1.1.1.1.1.1;
    })
    (λ l h.
    let words = recursion_from_All IsShort l.job.words h.job.words in
    let replies = recursion_from_All IsFieldReply l.replies h.replies in
    (tt, (tt, (h.path, (h.job.cpus, (h.job.ticks, ((h.job.few, words), (h.count, replies)))))))) straight
