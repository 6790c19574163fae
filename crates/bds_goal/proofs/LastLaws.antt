-- The last text of a list.
use Rattle.std.proofs.Common.{◌≡◌, ℕ, suc, ◌-◌, List, [], ◌∷◌, length, refl, arith}
use Rattle.std.specs.List.{slice_get}
use Rattle.bds_goal.specs.Collected.{last_text}

pub last_text-at : (ts : List (List ℕ)) → last_text ts ≡ slice_get ts (length ts - 1)
last_text-at [] = refl
last_text-at (t ∷ []) = refl
last_text-at (t ∷ u ∷ ts) = let e : length (t ∷ u ∷ ts) - 1 ≡ suc (length (u ∷ ts) - 1) = omega arith in rw e (last_text-at (u ∷ ts))

pub ruleset last_text_rules = (last_text-at)
