use Rattle.std.proofs.Common.{◌≡◌, take}
use Rattle.bds_code.proofs.shape.copy_front.Given as goal

abbrev pub invariant-loop-ty : goal.invariant-loop-ty
invariant-loop-ty l = l.copied ≡ take l.ty-index l.types
