use Rattle.std.proofs.Common.{ℕ, List}
use Rattle.bds_value.specs.declared.value.Ty.{Ty}
use Rattle.bds_verify.specs.Numbered.{Knows}
use Rattle.bds_verify.proofs.numbers.cut.Given as goal

abbrev pub invariant-loop-numbers : goal.invariant-loop-numbers
invariant-loop-numbers l =
    (labels : List (ℕ × List Ty)) (shape : List Ty) → Knows labels l.fn.numbers shape → Knows labels l.numbers shape

abbrev pub decreases-loop-numbers : goal.decreases-loop-numbers
decreases-loop-numbers l = l.numbers.length
