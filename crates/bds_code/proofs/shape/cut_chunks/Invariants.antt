use Rattle.std.proofs.Common.{◌≡◌, take, length}
use Rattle.bds_code.proofs.shape.cut_chunks.Given as goal

abbrev pub invariant-loop-chunks : goal.invariant-loop-chunks
invariant-loop-chunks l = take l.keeps l.chunks ≡ take l.keeps l.fn.chunks

abbrev pub decreases-loop-chunks : goal.decreases-loop-chunks
decreases-loop-chunks l = length l.chunks
