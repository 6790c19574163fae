-- For private contracts alone: an index in which the place of a file is found without a search.
use Rattle.std.specs.Prelude.{◌≡◌, ℕ, List, Vec}
use Rattle.std.specs.Global.{Global}
use Rattle.bds_rules.specs.Indexes.{number_in}
use Rattle.bds_goal.specs.Goals.{place_from}

-- each file has the number of its first place
abbrev pub ArePlaces : List (List ℕ) → List (Vec ℕ Global × ℕ) → Type 0
ArePlaces files es = (x : List ℕ) → number_in es x ≡ place_from 0 files x
