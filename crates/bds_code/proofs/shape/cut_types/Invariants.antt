use Rattle.std.proofs.Common.{◌≡◌, take, length}
use Rattle.bds_code.proofs.shape.cut_types.Given as goal

abbrev pub invariant-loop-types : goal.invariant-loop-types
invariant-loop-types l = take l.keeps l.types ≡ take l.keeps l.fn.types

abbrev pub decreases-loop-types : goal.decreases-loop-types
decreases-loop-types l = length l.types
