-- The parts of pieces behind each other.
use Rattle.std.proofs.Common.{◌≡◌, ◌+◌, ℕ, List, [], ◌∷◌, ◌++◌, arith}
use Rattle.bds_check_size.specs.Parts.{Part, part_size, joined_size}

pub joined_both : (ps qs : List Part) → joined_size (ps ++ qs) ≡ joined_size ps + joined_size qs
joined_both [] qs = omega arith
joined_both (p ∷ ps) qs = let e = joined_both ps qs in omega (arith, e)
