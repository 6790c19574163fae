use Rattle.std.proofs.Common.{◌++◌, ◌∷◌, [], length}
use Rattle.bds_levels.proofs.HalfLaws.{Chain}
use Rattle.bds_levels.proofs.making.levels_of.Given as goal

abbrev pub invariant-loop-alloc : goal.invariant-loop-alloc
invariant-loop-alloc l = Chain l.numbers (l.above ++ l.last ∷ [])

abbrev pub decreases-loop-alloc : goal.decreases-loop-alloc
decreases-loop-alloc l = length l.last
