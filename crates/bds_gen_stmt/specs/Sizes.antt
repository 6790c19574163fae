-- How many instructions functions have.
use Rattle.std.specs.Prelude.{ℕ, ◌+◌, List, [], ◌∷◌, length}
use Rattle.bds_code.specs.declared.unit.Function.{Function}

abbrev pub codes_size : List Function → ℕ
codes_size [] = 0
codes_size (f ∷ fs) = length f.code + codes_size fs
