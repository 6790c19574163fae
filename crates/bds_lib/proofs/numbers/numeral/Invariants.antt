use Rattle.std.proofs.Common.{◌≡◌, ℕ, drop}
use Rattle.bds_value.specs.TextResult.{held}
use Rattle.bds_lib.specs.Numbers.{numeral_from}
use Rattle.bds_lib.proofs.numbers.numeral.Given as goal

abbrev pub invariant-loop-digit : goal.invariant-loop-digit
invariant-loop-digit l = (n : ℕ) × (l.value ≡ held n) × (numeral_from n (drop l.digit-index l.digits) ≡ numeral_from 0 l.digits)
