-- Places in a text or list that a number names.
use Rattle.std.specs.Prelude.{ℕ, ℤ, pos, negsuc, ◌&&◌, nat_le, nat_lt, Option, Some, None, if◌then◌else◌}

-- the place, where it is one from low to high
abbrev pub place_within : ℕ → ℕ → ℤ → Option ℕ
place_within low high (pos n) = if nat_le low n && nat_le n high then Some n else None
place_within low high (negsuc n) = None

-- the place, where it is below an end
abbrev pub place_below : ℕ → ℤ → Option ℕ
place_below end (pos n) = if nat_lt n end then Some n else None
place_below end (negsuc n) = None
