-- Taking operands. None: one isn't there, or is of another type.
use Rattle.std.specs.Prelude.{ℕ, List, [], ◌∷◌, take, drop, reverse, length, cond, nat_le, Option, Some, None}
use Rattle.bds_value.specs.declared.value.Value.{Value}
use Rattle.bds_value.specs.Options.{◌>>=◌}
use Rattle.bds_code_frames.specs.Stack.{Stack, popped, with_ops}

-- the last operand, as one of a type
abbrev pub taken_as : {X : Type 0} → (Value → Option X) → Stack → Option (X × Stack)
taken_as reads s = popped s >>= λ r. reads r.0 >>= λ x. Some (x, r.1)

-- the last operands, in their order
abbrev pub taken_all : ℕ → Stack → Option (List Value × Stack)
taken_all n [] = None
taken_all n (c ∷ below) = cond (nat_le n (length c.ops)) (Some (reverse (take n c.ops), with_ops (drop n c.ops) c ∷ below)) None
