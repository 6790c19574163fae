-- Reading a file, with the first fault that is met.
use Rattle.std.specs.Prelude.{ℕ, zero, suc, List, [], ◌∷◌, ◌++◌, ◌==◌, if◌then◌else◌, Ok, Err}
use Rattle.bds_value.specs.declared.faults.FieldFault.TheVariants.{BadTag}
use Rattle.bds_value.specs.declared.value.Input.{Input}
use Rattle.bds_value.specs.Reading.{Reader, byte_at, bytes_at, text_at, ◌>>=◌}
use Rattle.bds_code.specs.UnitReading.{unit_at}
use Rattle.bds_tasks.specs.TaskFields.{tasks_at}
use Rattle.bds_rules.specs.RuleFields.{rules_at}
use Rattle.bds_state.specs.Parts.{Parts}
use Rattle.bds_state.specs.StateSpelling.{letters, mark, fields}
use Rattle.bds_ckpt.specs.declared.version.Version.{Version}
use Rattle.bds_ckpt.specs.declared.version.Version.TheVariants.{First, Second}
use Rattle.bds_ckpt.specs.ThreadReading.{threads_at}

-- a byte that was read at a place is the wanted one
abbrev pub matched : ℕ → ℕ → ℕ → Reader (Unit {0})
matched wanted at byte i = if byte == wanted then Ok (tt, i) else Err (BadTag at byte)

abbrev pub byte_is : ℕ → Reader (Unit {0})
byte_is wanted i = byte_at i >>= λ b. matched wanted i.at b.0 b.1

-- these bytes, one behind the other
abbrev pub bytes_are : List ℕ → Reader (Unit {0})
bytes_are [] i = Ok (tt, i)
bytes_are (b ∷ bs) i = byte_is b i >>= λ x. bytes_are bs x.1

abbrev pub number_of : Version → ℕ
number_of First = 1
number_of Second = 2

-- a byte that was read at a place is the number of a version
abbrev pub version_of : ℕ → ℕ → Reader Version
version_of at zero i = Err (BadTag at 0)
version_of at (suc zero) i = Ok (First, i)
version_of at (suc (suc zero)) i = Ok (Second, i)
version_of at (suc (suc (suc n))) i = Err (BadTag at (suc (suc (suc n))))

abbrev pub version_byte_at : Reader Version
version_byte_at i = byte_at i >>= λ b. version_of i.at b.0 b.1

-- the letters, and the version
abbrev pub version_at : Reader Version
version_at i = bytes_are letters i >>= λ begun. version_byte_at begun.1

abbrev pub fields_at : Reader Parts
fields_at i =
    text_at i >>= λ path.
    unit_at path.1 >>= λ unit.
    threads_at unit.1 >>= λ threads.
    tasks_at threads.1 >>= λ tasks.
    rules_at tasks.1 >>= λ rules.
    Ok (record { unit = unit.0; threads = threads.0; tasks = tasks.0; rules = rules.0; path = path.0 }, rules.1)

-- how many bytes the trailer has
abbrev pub sum_size : Version → ℕ
sum_size First = 0
sum_size Second = 32

abbrev pub sum_at : Version → Reader (List ℕ)
sum_at v i = bytes_at (sum_size v) i

-- what a file holds, before it is judged
pub record FileParts : Type 0 where
  pub version : Version
  pub parts : Parts
  -- the trailer, which is empty in version 1
  pub sum : List ℕ

-- the trailer is the last field
abbrev pub file_at : Reader FileParts
file_at i = version_at i >>= λ v. fields_at v.1 >>= λ s. sum_at v.0 s.1 >>= λ sum. Ok (record { version = v.0; parts = s.0; sum = sum.0 }, sum.1)

-- the bytes of what a file holds
abbrev pub spell_file : FileParts → List ℕ
spell_file f = mark (number_of f.version) ++ (fields f.parts ++ f.sum)

-- bytes of which nothing was read yet
abbrev pub unread : List ℕ → Input
unread bytes = record { bytes = bytes; at = 0 }
