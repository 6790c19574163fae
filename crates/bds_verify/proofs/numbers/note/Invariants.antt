use Rattle.std.proofs.Common.{◌≡◌, ℕ, ◌+◌, ◌-◌, length}
use Rattle.bds_verify.specs.Numbered.{noted_at}
use Rattle.bds_verify.proofs.numbers.note.Given as goal

abbrev pub invariant-loop-labels : goal.invariant-loop-labels
invariant-loop-labels l = (at : ℕ) → noted_at l.labels at ≡ noted_at l.fn.labels at

abbrev pub decreases-loop-labels : goal.decreases-loop-labels
decreases-loop-labels l = l.place + 1 - length l.labels
