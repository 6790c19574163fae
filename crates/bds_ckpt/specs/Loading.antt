-- Which bytes are those of a state, and what is wrong with others.
use Rattle.std.specs.Prelude.{◌≡◌, ◌≢◌, ◌<◌, ◌+◌, ◌⊎◌, ℕ, List, length, take, Result, Ok, Err, ⊤}
use Rattle.sha2.specs.Sha256.{sha256}
use Rattle.bds_value.specs.declared.faults.FieldFault.{FieldFault}
use Rattle.bds_value.specs.declared.faults.FieldFault.TheVariants as field
use Rattle.bds_code.specs.declared.unit.Unit.{Unit as CodeUnit}
use Rattle.bds_verify.specs.declared.places.Kind.{Kind}
use Rattle.bds_verify.specs.Pass.{IsUnitFault}
use Rattle.bds_verify.specs.Verified.{VerifiedUnit}
use Rattle.bds_state.specs.declared.judge.StateFault.{StateFault}
use Rattle.bds_state.specs.declared.judge.StateFault.TheVariants as state
use Rattle.bds_state.specs.Fits.{AreFields, NumbersFit}
use Rattle.bds_state.specs.Judged.{IsStateFault}
use Rattle.bds_state.specs.Parts.{Parts}
use Rattle.bds_state.specs.Valid.{IsValid}
use Rattle.bds_ckpt.specs.declared.fault.LoadFault.{LoadFault}
use Rattle.bds_ckpt.specs.declared.fault.LoadFault.TheVariants.{Short, BadTag, BadNumber, NotRising, Extra, BadSum, Unverified, BadThread, BadFrame, BadTask, BadRule, NoMemory}
use Rattle.bds_ckpt.specs.declared.version.Version.TheVariants.{Second}
use Rattle.bds_ckpt.specs.FileReading.{FileParts, file_at, sum_size, unread}
use Rattle.bds_state.specs.StateSpelling.{spells1, spells2}

-- the bytes, all of them, are those of a valid state, in one of the versions; its numbers have the bits that they have in memory
pub record Loadable (bytes : List ℕ) (s : Parts) : Type 0 where
  pub spelled : (spells1 s ≡ bytes) ⊎ (spells2 s ≡ bytes)
  pub valid : IsValid s
  pub fits : NumbersFit s

-- parts that may be in a file, valid or not
abbrev pub AreFieldParts : Parts → Type 0
AreFieldParts s = AreFields s × NumbersFit s

-- what may be in a file, valid or not
abbrev pub IsFieldFile : FileParts → Type 0
IsFieldFile f = AreFieldParts f.parts × (length f.sum ≡ sum_size f.version)

-- the first thing that is wrong with a unit stands there
abbrev pub IsUnverified : CodeUnit → ℕ → ℕ → Type 0
IsUnverified u function at = (kind : Kind) × IsUnitFault u function at kind

-- the unit is verified, and this is the first other thing that is wrong
abbrev pub IsInvalid : Parts → StateFault → Type 0
IsInvalid s fault = VerifiedUnit s.unit × IsStateFault s fault

-- what is wrong with parts: the unit comes first, then threads with their frames, tasks and rules
abbrev pub IsWrong : Parts → LoadFault → Type 0
IsWrong s (Unverified function at) = IsUnverified s.unit function at
IsWrong s (BadThread n) = IsInvalid s (state.BadThread n)
IsWrong s (BadFrame n i) = IsInvalid s (state.BadFrame n i)
IsWrong s (BadTask n) = IsInvalid s (state.BadTask n)
IsWrong s (BadRule n) = IsInvalid s (state.BadRule n)
IsWrong s NoMemory = ⊤
IsWrong s (Short at) = ⊥
IsWrong s (BadTag at byte) = ⊥
IsWrong s (BadNumber at n) = ⊥
IsWrong s (NotRising at) = ⊥
IsWrong s (Extra at) = ⊥
IsWrong s (BadSum at) = ⊥

module _ (bytes : List ℕ) where
  -- the first fault of a field, the trailer among them
  abbrev pub IsFieldFault : FieldFault → Type 0
  IsFieldFault fault = file_at (unread bytes) ≡ Err fault

  -- this is read, and the last field ends at a place
  abbrev pub IsReadTo : ℕ → FileParts → Type 0
  IsReadTo at f = file_at (unread bytes) ≡ Ok (f, record { bytes = bytes; at = at })

  -- bytes stand behind the last field
  pub record IsExtra (at : ℕ) : Type 0 where
    pub f : FileParts
    pub read : IsReadTo at f
    pub more : at < length bytes

  -- all bytes are read, and the trailer, which begins at this place, isn't the SHA-256 of the bytes before it
  pub record IsBadSum (at : ℕ) : Type 0 where
    pub f : FileParts
    pub read : IsReadTo (length bytes) f
    pub second : f.version ≡ Second
    pub place : at + 32 ≡ length bytes
    pub bad : f.sum ≢ sha256 (take at bytes)

  -- a trailer, where there is one, is the SHA-256 of the bytes before it
  abbrev pub IsSummed : FileParts → Type 0
  IsSummed f = (at : ℕ) → f.version ≡ Second → at + 32 ≡ length bytes → f.sum ≡ sha256 (take at bytes)

  -- all bytes are read with their trailer, and this is wrong with the parts
  pub record AreWrong (fault : LoadFault) : Type 0 where
    pub f : FileParts
    pub read : IsReadTo (length bytes) f
    pub summed : IsSummed f
    pub wrong : IsWrong f.parts fault

  -- what is wrong with bytes: fields in their order come first, then bytes behind them, then the trailer, then the parts
  abbrev pub Refuses : LoadFault → Type 0
  Refuses (Short at) = IsFieldFault (field.Short at)
  Refuses (BadTag at byte) = IsFieldFault (field.BadTag at byte)
  Refuses (BadNumber at n) = IsFieldFault (field.BadNumber at n)
  Refuses (NotRising at) = IsFieldFault (field.NotRising at)
  Refuses (Extra at) = IsExtra at
  Refuses (BadSum at) = IsBadSum at
  Refuses (Unverified function at) = AreWrong (Unverified function at)
  Refuses (BadThread n) = AreWrong (BadThread n)
  Refuses (BadFrame n i) = AreWrong (BadFrame n i)
  Refuses (BadTask n) = AreWrong (BadTask n)
  Refuses (BadRule n) = AreWrong (BadRule n)
  Refuses NoMemory = ⊤

-- this state, unless memory runs out
abbrev pub GivesState : Parts → Result Parts LoadFault → Type 0
GivesState s (Ok t) = t ≡ s
GivesState s (Err NoMemory) = ⊤
GivesState s (Err _) = ⊥

-- what is written of the state whose bytes these are: the same bytes in version 2, and those of version 2 where they are of version 1
pub record IsRewritten (bytes again : List ℕ) : Type 0 where
  pub s : Parts
  pub loaded : (spells1 s ≡ bytes) ⊎ (spells2 s ≡ bytes)
  pub written : again ≡ spells2 s
