use Rattle.std.proofs.Common.{◌≡◌, ℕ, List, drop}
use Rattle.std.specs.Option.{option_or}
use Rattle.bds_goal.specs.Goals.{place_from}
use Rattle.bds_rules.specs.Indexes.{number_in}
use Rattle.bds_goal.proofs.indexes.places_of.Given as goal

abbrev pub invariant-loop-i : goal.invariant-loop-i
invariant-loop-i l = (x : List ℕ) → option_or (number_in l.index.entries x) (place_from l.i (drop l.i l.files) x) ≡ place_from 0 l.files x
