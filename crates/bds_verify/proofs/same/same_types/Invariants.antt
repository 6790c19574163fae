use Rattle.std.proofs.Common.{◌≡◌, drop}
use Rattle.bds_verify.specs.Pass.{same_tys}
use Rattle.bds_verify.proofs.same.same_types.Given as goal

abbrev pub invariant-loop-place : goal.invariant-loop-place
invariant-loop-place l = same_tys (drop l.place l.types) (drop l.place l.shape) ≡ same_tys l.types l.shape
