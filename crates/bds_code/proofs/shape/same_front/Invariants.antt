use Rattle.std.proofs.Common.{◌≡◌, take}
use Rattle.bds_code.proofs.shape.same_front.Given as goal

abbrev pub invariant-loop-ty : goal.invariant-loop-ty
invariant-loop-ty l = record {
  same : take l.same l.shape ≡ take l.same l.types;
  at : l.same ≡ l.ty-index;
}
