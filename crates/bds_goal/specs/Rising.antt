-- For private contracts alone: texts in rising order, each once.
use Rattle.std.specs.Prelude.{◌≡◌, ℕ, List}
use Rattle.bds_rules.specs.Makers.{is_among}
use Rattle.bds_goal.specs.Goals.{Rises}

-- the same texts, in rising order
pub record AreRising (texts out : List (List ℕ)) : Type 0 where
  pub rises : Rises out
  pub set : (f : List ℕ) → is_among out f ≡ is_among texts f
