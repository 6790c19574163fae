-- For private contracts alone: frames that are added to a stack of calls.
use Rattle.std.specs.Prelude.{ℕ, List, [], ◌∷◌, ◌++◌, reverse}
use Rattle.bds_value.specs.declared.value.Value.{Value}
use Rattle.bds_code_frames.specs.Stack.{Call, Stack, with_ops}

-- a call with these slots, and no operands yet
abbrev pub begun : ℕ → ℕ → List Value → Call
begun function place slots = record { function = function; place = place; slots = slots; ops = [] }

-- further operands of the newest call
abbrev pub more_operands : List Value → Stack → Stack
more_operands operands [] = []
more_operands operands (c ∷ below) = with_ops (reverse operands ++ c.ops) c ∷ below
