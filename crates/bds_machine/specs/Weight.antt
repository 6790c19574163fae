-- For proofs alone: a number that falls with each row that goes on.
use Rattle.std.specs.Prelude.{ℕ, ◌+◌, ◌-◌, ◌*◌, [], ◌∷◌, length, slice_get, cond, Option, Some, None}
use Rattle.bds_code.specs.declared.unit.Function.{Function}
use Rattle.bds_code.specs.declared.unit.Unit.{Unit as CodeUnit}
use Rattle.bds_code_frames.specs.Stack.{Stack}
use Rattle.bds_verify.specs.Pass.{is_tick}

abbrev pub ahead_in : Option Function → ℕ → ℕ
ahead_in None place = 0
ahead_in (Some f) place = cond (is_tick (slice_get f.code place)) 0 (length f.code - place + 1)

module _ (u : CodeUnit) where
  -- one more than the places that are left to the end of the code, and none at a Tick
  unfoldable pub ahead : ℕ → ℕ → ℕ
  ahead function place = ahead_in (slice_get u.functions function) place

  abbrev pub all_ahead : Stack → ℕ
  all_ahead [] = 0
  all_ahead (c ∷ below) = ahead c.function c.place + 1 + all_ahead below

  -- with 2^25 for each tick that is left, which is more than a tick or a call adds
  unfoldable pub weight : Stack → ℕ → ℕ
  weight s t = t * 33554432 + all_ahead s
