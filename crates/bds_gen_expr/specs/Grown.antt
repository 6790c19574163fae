-- A function into which something was written, whole or in part.
use Rattle.std.specs.Prelude.{◌≡◌, ℕ, List, ◌++◌, take}
use Rattle.bds_code.specs.declared.unit.Function.{Function}

-- the one list stands at the front of the other
abbrev pub IsStartOf : {X : Type 0} → List X → List X → Type 0
IsStartOf {X} xs ys = (more : List X) × (ys ≡ xs ++ more)

-- its lists of code, labels and lines have those before at the front, and all else is the same
pub record Grown (before behind : Function) : Type 0 where
  pub name : behind.name ≡ before.name
  pub params : behind.params ≡ before.params
  pub locals : behind.locals ≡ before.locals
  pub ret : behind.ret ≡ before.ret
  pub code : IsStartOf before.code behind.code
  pub labels : IsStartOf before.labels behind.labels
  pub lines : IsStartOf before.lines behind.lines

-- For private contracts alone: its code is the same up to a place, and may be another from there on
pub record Turned (place : ℕ) (before behind : Function) : Type 0 where
  pub name : behind.name ≡ before.name
  pub params : behind.params ≡ before.params
  pub locals : behind.locals ≡ before.locals
  pub ret : behind.ret ≡ before.ret
  pub code : IsStartOf (take place before.code) behind.code
  pub labels : IsStartOf before.labels behind.labels
  pub lines : IsStartOf before.lines behind.lines
