-- The number that a text writes.
use Rattle.std.specs.Prelude.{ℕ, ◌+◌, ◌-◌, ◌*◌, ◌^◌, ℤ, pos, neg_ℤ, nat_le, nat_lt, List, [], ◌∷◌, ◌==◌, Option, Some, None, if◌then◌else◌}
use Rattle.std.specs.Char.{is_ascii_digit}

-- the number that the digits of n and these digits write, if these are digits
abbrev pub numeral_from : ℕ → List ℕ → Option ℕ
numeral_from n [] = Some n
numeral_from n (c ∷ cs) = if is_ascii_digit c then numeral_from (n * 10 + (c - 48)) cs else None

-- the number that one digit or more write
abbrev pub numeral : List ℕ → Option ℕ
numeral [] = None
numeral (c ∷ cs) = numeral_from 0 (c ∷ cs)

abbrev pub positive : Option ℕ → Option ℤ
positive None = None
positive (Some n) = if nat_lt n (2 ^ 63) then Some (pos n) else None

abbrev pub negative : Option ℕ → Option ℤ
negative None = None
negative (Some n) = if nat_le n (2 ^ 63) then Some (neg_ℤ (pos n)) else None

-- the number of 64 bits that digits write, behind a minus sign or without one
abbrev pub number_of : List ℕ → Option ℤ
number_of [] = None
number_of (c ∷ s) = if c == 45 then negative (numeral s) else positive (numeral (c ∷ s))
