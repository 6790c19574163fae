-- The line at the front of the bytes that a reader has left.
use Rattle.std.specs.Prelude.{ℕ, ◌≡◌, ◌≢◌, ◌<◌, ◌^◌, ◌⊎◌, List, [], ◌∷◌, ◌++◌, All, length, take}
use Rattle.std.specs.Prelude.{Option, Some, None, IfSome}
use Rattle.std.specs.Io.KnownBytes.{Consumes}

-- no line ends in these bytes
abbrev pub EndsNoLine : List ℕ → Type 0
EndsNoLine bytes = All (λ b. b ≢ 10) bytes

-- a line is taken: known bytes begin with it and its end, and lose both
abbrev pub TakesLine : Option (List ℕ) → Option (List ℕ) → List ℕ → Type 0
TakesLine old new line = EndsNoLine line × Consumes old new (line ++ 10 ∷ [])

-- the most bytes of a line that tells the end of a task: a number, a blank, a code and the line end
abbrev pub longest_line : ℕ
longest_line = 15

-- no line ends in the first of known bytes, so many as the longest line has
abbrev pub HasNoLine : Option (List ℕ) → Type 0
HasNoLine known = IfSome known (λ left. EndsNoLine (take longest_line left))

-- the next line is given; none exactly where so many reads in a row were interrupted, or where no line ends in time
abbrev pub GivesLine : Option (List ℕ) → Option (List ℕ) → ℕ → Option (List ℕ) → Type 0
GivesLine old new interrupted (Some line) =
    TakesLine old new line × (length line < longest_line) × (interrupted < 2 ^ 32)
GivesLine old new interrupted None = (interrupted ≡ 2 ^ 32) ⊎ HasNoLine old
