-- proofs/functions/index/Invariants.antt
use Rattle.std.proofs.Common.{◌≡◌, ℕ, List, drop}
use Rattle.std.specs.Option.{option_or}
use Rattle.bds_check_names.specs.Indexes.{first_place, place_in}
use Rattle.bds_check_names.proofs.functions.index.Given as goal

abbrev pub invariant-loop-i : goal.invariant-loop-i
invariant-loop-i l = (x : List ℕ) → option_or (place_in l.places.entries x) (first_place x (drop l.i l.heads) l.i) ≡ first_place x l.heads 0
