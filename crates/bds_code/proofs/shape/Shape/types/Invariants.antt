use Rattle.std.proofs.Common.{◌≡◌, take}
use Rattle.bds_code.proofs.shape.Shape.types.Given as goal

abbrev pub invariant-loop-place : goal.invariant-loop-place
invariant-loop-place l = l.types ≡ take l.place l.self
