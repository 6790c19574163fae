-- The bytes of a log, and how they are read.
use Rattle.std.specs.Prelude.{◌≡◌, ℕ, zero, suc, ℤ, ◌<◌, ◌≤◌, ◌^◌, Bool, true, false, List, [], ◌∷◌, ◌++◌, length}
use Rattle.std.specs.Prelude.{Ok, Err, FitsSigned, if◌then◌else◌, ◌==◌, ⊤}
use Rattle.std.specs.Int.{w64}
use Rattle.std.specs.List.{All}
use Rattle.bds_value.specs.declared.TheConstants.{MAX_ITEMS, MAX_PROCESSORS, MAX_TEXT, MAX_TICKS}
use Rattle.bds_value.specs.declared.faults.FieldFault.TheVariants.{BadTag}
use Rattle.bds_value.specs.Reading.{◌>>=◌, Reader, bool_at, byte_at, i64_at, read_map, u32_at, u64_at}
use Rattle.bds_value.specs.Spelling.{bool_field, i64_field, u8_field, u32_field, u64_field}
use Rattle.bds_host.specs.declared.asks.Reply.{Reply}
use Rattle.bds_host.specs.declared.asks.Reply.TheVariants.{Bytes, Missing, Stamp, Done, SysDone, Started, Run, Ended}
use Rattle.bds_host.specs.declared.asks.Reply.TheVariants.{Fault, NoRoom}
use Rattle.bds_replay.specs.declared.log.Job.{Job}
use Rattle.bds_replay.specs.declared.log.Log.{Log}
use Rattle.bds_replay.specs.Longs.{both_at, both_field, from_one, long_at, long_count_at, long_field, long_list_at}
use Rattle.bds_replay.specs.Longs.{long_list_field}

-- no length of 64 bits is above it
abbrev pub MAX_LENGTH : ℕ
MAX_LENGTH = 18446744073709551615

-- the bytes with which a log begins
abbrev pub mark : List ℕ
mark = 66 ∷ 68 ∷ 83 ∷ 76 ∷ 1 ∷ []

abbrev pub matched : ℕ → ℕ → ℕ → Reader (Unit {0})
matched wanted at byte i = if byte == wanted then Ok (tt, i) else Err (BadTag at byte)

abbrev pub byte_is : ℕ → Reader (Unit {0})
byte_is wanted i = byte_at i >>= λ b. matched wanted i.at b.0 b.1

abbrev pub bytes_are : List ℕ → Reader (Unit {0})
bytes_are [] i = Ok (tt, i)
bytes_are (b ∷ bs) i = byte_is b i >>= λ x. bytes_are bs x.1

-- Replies

abbrev pub stamp_of : (Bool × ℕ) × ℤ → Reply
stamp_of p = Stamp p.0.0 p.0.1 p.1

abbrev pub done_of : ℕ × List ℕ → Reply
done_of p = SysDone p.0 p.1

abbrev pub ended_of : ℕ × ℕ → Reply
ended_of p = Ended p.0 p.1

abbrev pub text_at : Reader (List ℕ)
text_at = long_at MAX_LENGTH

abbrev pub stamp_at : Reader ((Bool × ℕ) × ℤ)
stamp_at = both_at (both_at bool_at u64_at) i64_at

abbrev pub done_at : Reader (ℕ × List ℕ)
done_at = both_at byte_at text_at

abbrev pub ended_at : Reader (ℕ × ℕ)
ended_at = both_at u32_at byte_at

-- a reply by its tag
abbrev pub reply_of : ℕ → ℕ → Reader Reply
reply_of at zero j = read_map Bytes (text_at j)
reply_of at (suc zero) j = Ok (Missing, j)
reply_of at (suc (suc zero)) j = read_map stamp_of (stamp_at j)
reply_of at (suc (suc (suc zero))) j = Ok (Done, j)
reply_of at (suc (suc (suc (suc zero)))) j = read_map done_of (done_at j)
reply_of at (suc (suc (suc (suc (suc zero))))) j = Ok (Started, j)
reply_of at (suc (suc (suc (suc (suc (suc zero)))))) j = read_map Run (u32_at j)
reply_of at (suc (suc (suc (suc (suc (suc (suc zero))))))) j = read_map ended_of (ended_at j)
reply_of at (suc (suc (suc (suc (suc (suc (suc (suc n)))))))) j =
    Err (BadTag at (suc (suc (suc (suc (suc (suc (suc (suc n)))))))))

abbrev pub reply_at : Reader Reply
reply_at i = byte_at i >>= λ b. reply_of i.at b.0 b.1

abbrev pub stamp_field : (Bool × ℕ) × ℤ → List ℕ
stamp_field = both_field (both_field bool_field u64_field) i64_field

abbrev pub reply_field : Reply → List ℕ
reply_field (Bytes text) = 0 ∷ long_field text
reply_field Missing = 1 ∷ []
reply_field (Stamp there size time) = 2 ∷ stamp_field ((there, size), time)
reply_field Done = 3 ∷ []
reply_field (SysDone code out) = 4 ∷ both_field u8_field long_field (code, out)
reply_field Started = 5 ∷ []
reply_field (Run k) = 6 ∷ u32_field k
reply_field (Ended task code) = 7 ∷ both_field u32_field u8_field (task, code)
reply_field Fault = []
reply_field NoRoom = []

-- a reply that a log may hold
abbrev pub IsFieldReply : Reply → Type 0
IsFieldReply (Bytes text) = length text ≤ MAX_LENGTH
IsFieldReply Missing = ⊤
IsFieldReply (Stamp there size time) = (⊤ × (size < 2 ^ 64)) × FitsSigned w64 time
IsFieldReply Done = ⊤
IsFieldReply (SysDone code out) = (code < 256) × (length out ≤ MAX_LENGTH)
IsFieldReply Started = ⊤
IsFieldReply (Run k) = k < 2 ^ 32
IsFieldReply (Ended task code) = (task < 2 ^ 32) × (code < 256)
IsFieldReply Fault = ⊥
IsFieldReply NoRoom = ⊥

-- the numbers of a reply have their bits, as those of every reply of a program have
abbrev pub ReplyFits : Reply → Type 0
ReplyFits Fault = ⊤
ReplyFits NoRoom = ⊤
ReplyFits r = IsFieldReply r

-- a reply by which something was answered
abbrev pub is_given : Reply → Bool
is_given Fault = false
is_given NoRoom = false
is_given _ = true

abbrev pub IsGiven : Reply → Type 0
IsGiven r = is_given r ≡ true

-- The whole

abbrev pub cpus_at : Reader ℕ
cpus_at i = u32_at i >>= λ n. from_one i.at MAX_PROCESSORS n.0 n.1

-- behind a file there are no words
abbrev pub most_words : Bool → ℕ
most_words true = 0
most_words false = MAX_ITEMS

-- words and replies
abbrev pub rest_at : Bool → Reader (List (List ℕ) × List Reply)
rest_at resume = both_at (long_list_at (most_words resume) (long_at MAX_TEXT)) (long_list_at MAX_LENGTH reply_at)

abbrev pub log_at : Reader Log
log_at i =
    bytes_are mark i >>= λ begun.
    bool_at begun.1 >>= λ resume.
    text_at resume.1 >>= λ path.
    cpus_at path.1 >>= λ cpus.
    long_count_at MAX_TICKS cpus.1 >>= λ ticks.
    rest_at resume.0 ticks.1 >>= λ rest.
    Ok (
      record {
        job = record { resume = resume.0; path = path.0; cpus = cpus.0; ticks = ticks.0; words = rest.0.0 };
        replies = rest.0.1;
      },
      rest.1,
    )

abbrev pub ticks_field : Job → List ℕ
ticks_field j = u64_field j.ticks ++ long_list_field long_field j.words

abbrev pub cpus_field : Job → List ℕ
cpus_field j = u32_field j.cpus ++ ticks_field j

abbrev pub path_field : Job → List ℕ
path_field j = long_field j.path ++ cpus_field j

-- a job, behind the mark
abbrev pub head_field : Job → List ℕ
head_field j = bool_field j.resume ++ path_field j

abbrev pub log_field : Log → List ℕ
log_field l = mark ++ (head_field l.job ++ long_list_field reply_field l.replies)

-- a job whose numbers and words are within their limits
pub record IsFieldJob (j : Job) : Type 0 where
  pub cpus : (1 ≤ j.cpus) × (j.cpus ≤ MAX_PROCESSORS)
  pub ticks : j.ticks ≤ MAX_TICKS
  pub few : length j.words ≤ most_words j.resume
  pub words : All (λ t. length t ≤ MAX_TEXT) j.words

-- a log that has bytes
pub record IsFieldLog (l : Log) : Type 0 where
  pub job : IsFieldJob l.job
  pub path : length l.job.path ≤ MAX_LENGTH
  pub count : length l.replies ≤ MAX_LENGTH
  pub replies : All IsFieldReply l.replies
