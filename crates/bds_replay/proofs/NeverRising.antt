-- No field of a log has to rise.
use Rattle.std.proofs.Common.{◌≡◌, ℕ, zero, suc, Bool, true, false, List, [], ◌∷◌, ◌==◌, length, take, nat_lt}
use Rattle.std.proofs.Common.{if◌then◌else◌, ap, Ok, Err}
use Rattle.bds_value.specs.declared.TheConstants.{MAX_PROCESSORS, MAX_TEXT, MAX_TICKS}
use Rattle.bds_value.specs.declared.faults.FieldFault.{FieldFault}
use Rattle.bds_value.specs.declared.faults.FieldFault.TheVariants as field
use Rattle.bds_value.specs.declared.value.Input.{Input}
use Rattle.bds_value.specs.Reading.{◌>>=◌, Read, Reader, Reads, bool_at, bool_of, byte_at, bytes_at, first_of, forward}
use Rattle.bds_value.specs.Reading.{i64_at, many, read_map, rest_of, u32_at, u64_at, within}
use Rattle.bds_replay.specs.declared.log.Log.{Log}
use Rattle.bds_replay.specs.Loading.{NeverRises}
use Rattle.bds_replay.specs.Log.{MAX_LENGTH, byte_is, bytes_are, cpus_at, log_at, mark, matched, most_words, reply_at}
use Rattle.bds_replay.specs.Log.{reply_of, rest_at, text_at}
use Rattle.bds_replay.specs.Longs.{both_at, from_one, long_at, long_count_at, long_list_at}

abbrev Plain : {X : Type 0} → Read X → Type 0
Plain {X} read = (at : ℕ) → ◌≡◌ {A = Read X} read (Err (field.NotRising at)) → ⊥

abbrev AllPlain : {X : Type 0} → Reader X → Type 0
AllPlain r = (i : Input) → Plain (r i)

plain_ok : {X : Type 0} (x : X × Input) → Plain {X = X} (Ok x)
plain_ok x at e = cc e

plain_then : {X Y : Type 0} (read : Read X) (go : X × Input → Read Y) → Plain read → ((x : X × Input) → Plain (go x))
    → Plain (read >>= go)
plain_then (Ok x) go h k at e = k x at e
plain_then (Err fault) go h k at e = let same : fault ≡ field.NotRising at = cc e in h at (ap (λ f. Err f) same)

plain_map : {X Y : Type 0} (f : X → Y) (read : Read X) → Plain read → Plain (read_map f read)
plain_map f (Ok x) h at e = cc e
plain_map f (Err fault) h at e = let same : fault ≡ field.NotRising at = cc e in h at (ap (λ f. Err f) same)

-- Numbers and texts

plain_first : (bytes : List ℕ) (i : Input) → Plain (first_of bytes i)
plain_first [] i at e = cc e
plain_first (b ∷ bs) i at e = cc e

plain_byte : AllPlain byte_at
plain_byte i = plain_first (rest_of i) i

plain_if : {X : Type 0} (b : Bool) (fault : FieldFault) (x : X × Input) → NeverRises fault
    → Plain {X = X} (if b then Err fault else Ok x)
plain_if true fault x h at e = h at (cc e)
plain_if false fault x h at e = cc e

plain_bytes : (n : ℕ) → AllPlain (bytes_at n)
plain_bytes n i =
    plain_if (nat_lt (length (rest_of i)) n) (field.Short (length i.bytes)) (take n (rest_of i), forward n i)
    (λ at e. cc e)

plain_u32 : AllPlain u32_at
plain_u32 i = plain_map _ (bytes_at 4 i) (plain_bytes 4 i)

plain_u64 : AllPlain u64_at
plain_u64 i = plain_map _ (bytes_at 8 i) (plain_bytes 8 i)

plain_i64 : AllPlain i64_at
plain_i64 i = plain_map _ (bytes_at 8 i) (plain_bytes 8 i)

plain_bool_of : (at b : ℕ) → AllPlain (bool_of at b)
plain_bool_of at zero j = plain_ok (false, j)
plain_bool_of at (suc zero) j = plain_ok (true, j)
plain_bool_of at (suc (suc b)) j = λ n e. cc e

plain_bool : AllPlain bool_at
plain_bool i =
    plain_then (byte_at i) (λ (b : ℕ × Input). bool_of i.at b.0 b.1) (plain_byte i) (λ b. plain_bool_of i.at b.0 b.1)

plain_within : (at limit n : ℕ) → AllPlain (within at limit n)
plain_within at limit n j = plain_if (nat_lt limit n) (field.BadNumber at n) (n, j) (λ k e. cc e)

plain_count : (limit : ℕ) → AllPlain (long_count_at limit)
plain_count limit i =
    plain_then (u64_at i) (λ (n : ℕ × Input). within i.at limit n.0 n.1) (plain_u64 i)
    (λ n. plain_within i.at limit n.0 n.1)

plain_long : (limit : ℕ) → AllPlain (long_at limit)
plain_long limit i =
    plain_then (long_count_at limit i) (λ (n : ℕ × Input). bytes_at n.0 n.1) (plain_count limit i)
    (λ n. plain_bytes n.0 n.1)

plain_many : {X : Type 0} (r : Reader X) → AllPlain r → (n : ℕ) → AllPlain (many r n)
plain_many r h zero i = plain_ok ([], i)
plain_many {X} r h (suc n) i =
    plain_then (r i) (λ (x : X × Input). many r n x.1 >>= λ xs. Ok (x.0 ∷ xs.0, xs.1)) (h i)
    (λ x. plain_then (many r n x.1) (λ (xs : List X × Input). Ok (x.0 ∷ xs.0, xs.1)) (plain_many r h n x.1)
    (λ xs. plain_ok (x.0 ∷ xs.0, xs.1)))

plain_list : {X : Type 0} (limit : ℕ) (r : Reader X) → AllPlain r → AllPlain (long_list_at limit r)
plain_list limit r h i =
    plain_then (long_count_at limit i) (λ (n : ℕ × Input). many r n.0 n.1) (plain_count limit i)
    (λ n. plain_many r h n.0 n.1)

plain_both : {X Y : Type 0} (r : Reader X) (s : Reader Y) → AllPlain r → AllPlain s → AllPlain (both_at r s)
plain_both {X} {Y} r s h k i =
    plain_then (r i) (λ (x : X × Input). s x.1 >>= λ y. Ok ((x.0, y.0), y.1)) (h i)
    (λ x. plain_then (s x.1) (λ (y : Y × Input). Ok ((x.0, y.0), y.1)) (k x.1) (λ y. plain_ok ((x.0, y.0), y.1)))

-- Replies

plain_text : AllPlain text_at
plain_text = plain_long MAX_LENGTH

plain_tagged : (at tag : ℕ) → AllPlain (reply_of at tag)
plain_tagged at zero j = plain_map _ (text_at j) (plain_text j)
plain_tagged at (suc zero) j = plain_ok (_, j)
plain_tagged at (suc (suc zero)) j =
    plain_map _ _
    (plain_both (both_at bool_at u64_at) i64_at (plain_both bool_at u64_at plain_bool plain_u64) plain_i64 j)
plain_tagged at (suc (suc (suc zero))) j = plain_ok (_, j)
plain_tagged at (suc (suc (suc (suc zero)))) j = plain_map _ _ (plain_both byte_at text_at plain_byte plain_text j)
plain_tagged at (suc (suc (suc (suc (suc zero))))) j = plain_ok (_, j)
plain_tagged at (suc (suc (suc (suc (suc (suc zero)))))) j = plain_map _ _ (plain_u32 j)
plain_tagged at (suc (suc (suc (suc (suc (suc (suc zero))))))) j =
    plain_map _ _ (plain_both u32_at byte_at plain_u32 plain_byte j)
plain_tagged at (suc (suc (suc (suc (suc (suc (suc (suc n)))))))) j = λ k e. cc e

plain_reply : AllPlain reply_at
plain_reply i =
    plain_then (byte_at i) (λ (b : ℕ × Input). reply_of i.at b.0 b.1) (plain_byte i) (λ b. plain_tagged i.at b.0 b.1)

-- The whole

abbrev Nothing : Type 0
Nothing = Unit {0}

plain_matched : (wanted at byte : ℕ) → AllPlain (matched wanted at byte)
plain_matched wanted at byte i = by_test (byte == wanted)
  where
    by_test : (b : Bool) → Plain {X = Nothing} (if b then Ok (tt, i) else Err (field.BadTag at byte))
    by_test true k e = cc e
    by_test false k e = cc e

plain_given : (bytes : List ℕ) → AllPlain (bytes_are bytes)
plain_given [] i = plain_ok (tt, i)
plain_given (b ∷ bs) i =
    plain_then (byte_is b i) (λ (x : Nothing × Input). bytes_are bs x.1)
    (plain_then (byte_at i) (λ (n : ℕ × Input). matched b i.at n.0 n.1) (plain_byte i)
    (λ n. plain_matched b i.at n.0 n.1)) (λ x. plain_given bs x.1)

plain_from_one : (at limit n : ℕ) → AllPlain (from_one at limit n)
plain_from_one at limit zero j = λ k e. cc e
plain_from_one at limit (suc n) j = plain_within at limit (suc n) j

plain_cpus : AllPlain cpus_at
plain_cpus i =
    plain_then (u32_at i) (λ (n : ℕ × Input). from_one i.at MAX_PROCESSORS n.0 n.1) (plain_u32 i)
    (λ n. plain_from_one i.at MAX_PROCESSORS n.0 n.1)

plain_rest : (resume : Bool) → AllPlain (rest_at resume)
plain_rest resume =
    plain_both (long_list_at (most_words resume) (long_at MAX_TEXT)) (long_list_at MAX_LENGTH reply_at)
    (plain_list (most_words resume) (long_at MAX_TEXT) (plain_long MAX_TEXT))
    (plain_list MAX_LENGTH reply_at plain_reply)

plain_log : AllPlain log_at
plain_log i =
    plain_then _ _ (plain_given mark i) (λ begun.
    plain_then _ _ (plain_bool begun.1) (λ resume.
    plain_then _ _ (plain_text resume.1) (λ path.
    plain_then _ _ (plain_cpus path.1) (λ cpus.
    plain_then _ _ (plain_count MAX_TICKS cpus.1) (λ ticks.
    plain_then _ _ (plain_rest resume.0 ticks.1) (λ rest. plain_ok _))))))

pub log_never_rises : (i j : Input) (fault : FieldFault) → Reads {X = Log} (log_at i) j (Err fault) → NeverRises fault
log_never_rises i j (field.Short n) h at e = cc e
log_never_rises i j (field.BadTag n b) h at e = cc e
log_never_rises i j (field.BadNumber n m) h at e = cc e
log_never_rises i j (field.NotRising n) h at e = plain_log i n h
log_never_rises i j field.NoMemory h at e = cc e
