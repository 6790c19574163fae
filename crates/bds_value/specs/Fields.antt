-- What is a field: which types and values have one, and how reading and spelling belong together.
use Rattle.std.specs.Prelude.{◌≡◌, ℕ, ◌+◌, ◌<◌, ◌≤◌, List, [], ◌∷◌, ◌++◌, length, Bool, true, false, Option, Some, Ok, ⊤, IsTrue, ◌⊎◌, slice_index, FitsSigned}
use Rattle.std.specs.Int.{w64}
use Rattle.std.specs.List.{All}
use Rattle.bds_value.specs.declared.TheConstants.{MAX_COUNT, MAX_TEXT, MAX_NESTING}
use Rattle.bds_value.specs.declared.value.Input.{Input}
use Rattle.bds_value.specs.declared.value.Ty.{Ty, fold-Ty}
use Rattle.bds_value.specs.declared.value.Ty.TheVariants as ty
use Rattle.bds_value.specs.declared.value.Ty.TheOpen.{Ty-F}
use Rattle.bds_value.specs.declared.value.Value.{Value, every-Value}
use Rattle.bds_value.specs.declared.value.Value.TheOpen.{Value-F}
use Rattle.bds_value.specs.Reading.{Reader, rest_of, forward, follows}
use Rattle.bds_value.specs.Spelling.{IsWithinLimits}
use Rattle.bds_value.specs.Value.{type_of, IsWellFormed}

abbrev pub nesting_step : Ty-F ℕ → ℕ
nesting_step (Ty-F.List n) = n + 1
nesting_step (Ty-F.Map n) = n + 1
nesting_step _ = 0

-- how many lists and maps a type has within one another
abbrev pub nesting : Ty → ℕ
nesting = fold-Ty ℕ nesting_step

abbrev pub solid_step : Ty-F Bool → Bool
solid_step Ty-F.Void = false
solid_step (Ty-F.List b) = b
solid_step (Ty-F.Map b) = b
solid_step _ = true

-- no Void stands in a type
abbrev pub is_solid : Ty → Bool
is_solid = fold-Ty Bool solid_step

-- a type that a value may have in a field
abbrev pub IsValueTy : Ty → Type 0
IsValueTy t = (nesting t ≤ MAX_NESTING) × IsTrue (is_solid t)

-- a type that a field may hold
abbrev pub IsFieldTy : Ty → Type 0
IsFieldTy t = (t ≡ ty.Void) ⊎ IsValueTy t

-- texts that a field may hold
pub record AreFieldTexts (texts : List (List ℕ)) : Type 0 where
  pub count : length texts ≤ MAX_COUNT
  pub each : All (λ t. length t ≤ MAX_TEXT) texts

-- types that a field may hold
pub record AreFieldTypes (types : List Ty) : Type 0 where
  pub count : length types ≤ MAX_COUNT
  pub each : All IsFieldTy types

abbrev pub NumberFits : Value-F Value → Type 0
NumberFits (Value-F.Int n) = FitsSigned w64 n
NumberFits _ = ⊤

-- each number in a value has 64 bits, as those of every value of a program have
abbrev pub NumbersFit : Value → Type 0
NumbersFit = every-Value NumberFits

abbrev pub PairNumbersFit : List ℕ × Value → Type 0
PairNumbersFit p = NumbersFit p.1

-- a value that a field may hold
abbrev pub IsFieldValue : Value → Type 0
IsFieldValue v = IsValueTy (type_of v) × IsWellFormed v × IsWithinLimits v × NumbersFit v

abbrev pub AreBytes : List ℕ → Type 0
AreBytes bytes = (k : ℕ) → slice_index bytes k < 256

-- a text stands at i, and j is its end
pub record Stretch (i : Input) (text : List ℕ) (j : Input) : Type 0 where
  pub moved : j ≡ forward (length text) i
  pub stands : rest_of i ≡ text ++ rest_of j

-- where a text stands, x is read, up to its end
abbrev pub Back : {X : Type 0} → Reader X → List ℕ → X → Type 0
Back r text x = (i : Input) (rest : List ℕ) → rest_of i ≡ text ++ rest → r i ≡ Ok (x, forward (length text) i)

-- x is read back from its spelling
abbrev pub ReadsBack : {X : Type 0} → Reader X → (X → List ℕ) → X → Type 0
ReadsBack r spell x = Back r (spell x) x

-- x may be in a field, and its spelling stands from i to j
pub record Spelled {X : Type 0} (spell : X → List ℕ) (Legal : X → Type 0) (i : Input) (x : X) (j : Input) : Type 0 where
  pub legal : Legal x
  pub stretch : Stretch i (spell x) j

-- what is read is spelled so
abbrev pub ReadsSpelled : {X : Type 0} → Reader X → (X → List ℕ) → (X → Type 0) → Type 0
ReadsSpelled {X = X} r spell Legal = (i j : Input) (x : X) → AreBytes i.bytes → r i ≡ Ok (x, j) → Spelled spell Legal i x j

-- a reader and a spelling are one field of the legal values, both ways
pub record IsField {X : Type 0} (r : Reader X) (spell : X → List ℕ) (Legal : X → Type 0) : Type 0 where
  pub read_back : (x : X) → Legal x → ReadsBack r spell x
  pub spelled : ReadsSpelled r spell Legal

-- the keys of items rise, the first behind a last one
abbrev pub RisesFrom : {K X : Type 0} → (K → K → Bool) → (X → K) → Option K → List X → Type 0
RisesFrom before key_of last [] = ⊤
RisesFrom before key_of last (x ∷ xs) = IsTrue (follows before last (key_of x)) × RisesFrom before key_of (Some (key_of x)) xs
