use Rattle.std.proofs.Common.{◌≡◌, ◌++◌, take}
use Rattle.bds_code.proofs.shape.push_all.Given as goal

abbrev pub invariant-loop-ty : goal.invariant-loop-ty
invariant-loop-ty l = l.shape ≡ l.fn.shape ++ take l.ty-index l.types
