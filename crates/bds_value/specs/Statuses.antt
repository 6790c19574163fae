-- The status that a number stands for.
use Rattle.std.specs.Prelude.{ℕ, ℤ, pos}
use Rattle.std.specs.Int.{int_rem_euclid}
use Rattle.bds_value.specs.Path.{nat_of}

-- from 0 to 255
abbrev pub status_of : ℤ → ℕ
status_of n = nat_of (int_rem_euclid n (pos 256))
