use Rattle.std.proofs.Common.{◌≡◌, ◌≤◌, ◌+◌, ◌-◌, ◌++◌, map, length, take, vec_len, vec_capacity}
use Rattle.bds_value.specs.Value.{default_of}
use Rattle.bds_code_frames.proofs.blanks.fill.Given as goal

abbrev pub invariant-loop-ty : goal.invariant-loop-ty
invariant-loop-ty l = (l.values.items ≡ l.fn.values.items ++ map default_of (take l.ty-index l.types)) × (vec_len l.values + (length l.types - l.ty-index) ≤ vec_capacity l.values)
