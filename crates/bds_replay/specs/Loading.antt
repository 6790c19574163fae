-- Which bytes are those of a log, and what is wrong with others.
use Rattle.std.specs.Prelude.{◌≡◌, ◌≢◌, ◌<◌, ℕ, List, length, Result, Ok, Err, ⊤}
use Rattle.bds_value.specs.declared.faults.FieldFault.{FieldFault}
use Rattle.bds_value.specs.declared.faults.FieldFault.TheVariants as field
use Rattle.bds_value.specs.declared.value.Input.{Input}
use Rattle.bds_replay.specs.Log.{IsFieldLog, log_at, log_field}
use Rattle.bds_replay.specs.declared.log.Log.{Log}
use Rattle.bds_replay.specs.declared.log.LogFault.{LogFault}
use Rattle.bds_replay.specs.declared.log.LogFault.TheVariants.{Short, BadTag, BadNumber, Extra, NoMemory}

-- bytes of which nothing was read yet
abbrev pub unread : List ℕ → Input
unread bytes = record { bytes = bytes; at = 0 }

-- the bytes, all of them, are those of a log
pub record IsLogOf (bytes : List ℕ) (l : Log) : Type 0 where
  pub spelled : log_field l ≡ bytes
  pub legal : IsFieldLog l

module _ (bytes : List ℕ) where
  abbrev pub IsFieldFault : FieldFault → Type 0
  IsFieldFault fault = log_at (unread bytes) ≡ Err fault

  abbrev pub IsReadTo : ℕ → Log → Type 0
  IsReadTo at l = log_at (unread bytes) ≡ Ok (l, record { bytes = bytes; at = at })

  pub record IsExtra (at : ℕ) : Type 0 where
    pub l : Log
    pub read : IsReadTo at l
    pub more : at < length bytes

  -- the first fault of a field, or bytes behind the last one
  abbrev pub Refuses : LogFault → Type 0
  Refuses (Short at) = IsFieldFault (field.Short at)
  Refuses (BadTag at byte) = IsFieldFault (field.BadTag at byte)
  Refuses (BadNumber at n) = IsFieldFault (field.BadNumber at n)
  Refuses (Extra at) = IsExtra at
  Refuses NoMemory = ⊤

-- For private contracts alone: how the faults of fields are called here; no field of a log has to rise
abbrev pub NeverRises : FieldFault → Type 0
NeverRises fault = (at : ℕ) → fault ≢ field.NotRising at

abbrev pub of_field : FieldFault → LogFault
of_field (field.Short at) = Short at
of_field (field.BadTag at byte) = BadTag at byte
of_field (field.BadNumber at n) = BadNumber at n
of_field (field.NotRising at) = NoMemory
of_field field.NoMemory = NoMemory

-- this log, unless memory runs out
abbrev pub GivesLog : Log → Result Log LogFault → Type 0
GivesLog l (Ok m) = m ≡ l
GivesLog l (Err NoMemory) = ⊤
GivesLog l (Err _) = ⊥
