use Rattle.std.proofs.Common.{◌≡◌, take}
use Rattle.bds_code.proofs.shape.copy_chunks.Given as goal

abbrev pub invariant-loop-chunk : goal.invariant-loop-chunk
invariant-loop-chunk l = l.copied ≡ take l.chunk-index l.chunks
