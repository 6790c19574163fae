use Rattle.std.proofs.Common.{◌≡◌, ◌<◌, ℕ, slice_get, length, Some}
use Rattle.bds_code.specs.declared.unit.Function.{Function}
use Rattle.bds_verify.specs.Marked.{AreAllMarks}
use Rattle.bds_verify.specs.Verified.{IsVerified}
use Rattle.bds_verify.proofs.units.check_functions.Given as goal

abbrev pub invariant-loop-function : goal.invariant-loop-function
invariant-loop-function l = record {
  number : l.number ≡ l.function-index;
  verified : (k : ℕ) (g : Function) → k < l.number → slice_get l.unit.functions k ≡ Some g → IsVerified l.unit g;
  count : length l.all ≡ l.function-index;
  marks : AreAllMarks l.unit l.all;
}
