-- For private contracts alone: what a call that puts bytes at the end of a list has left of it, where it was cut short.
use Rattle.std.specs.Prelude.{◌≡◌, ℕ, List, ◌++◌}

-- what stood in a list before stands at the front of it
pub record Keeps (old new : List ℕ) : Type 0 where
  pub more : List ℕ
  pub same : new ≡ old ++ more
