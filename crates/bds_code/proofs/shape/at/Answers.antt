use Rattle.std.proofs.Common.{length, get_or, ◌%◌, ◌∙◌, ap, arith}
use Rattle.bds_code.proofs.ChunkLaws.{chunk_of, rest_of, chunk_full, at_chunk, at_top}
use Rattle.bds_code.proofs.shape.at.Goals as goal

pub bounds-chunks-place : goal.bounds-chunks-place
bounds-chunks-place c =
    chunk_of c.args.chunks.now c.args.below c.args.place c.args.top.now c.requires.laid c.if-place-below.true

pub bounds-chunk-place : goal.bounds-chunk-place
bounds-chunk-place c =
    let full = chunk_full c.args.chunks.now c.args.below c.args.place c.args.top.now c.index-chunks-place.result
    c.requires.laid c.if-place-below.true c.index-chunks-place.is in
    let same = ap length (c.as_slice-chunk.ensures ∙ c.get.ensures) in
    let less = rest_of c.args.place in
    omega (arith, full, same, less)

pub returns-then-place-below : goal.returns-then-place-below
returns-then-place-below c =
    at_chunk c.args.chunks.now c.args.below c.args.place c.args.top.now c.index-chunks-place.result
    c.index-chunk-place.result c.requires.laid c.if-place-below.true c.index-chunks-place.is
    (c.index-chunk-place.is ∙ ap (λ xs. get_or xs (c.args.place % 32) c.index-chunk-place.result)
    (c.as_slice-chunk.ensures ∙ c.get.ensures))

pub returns-else-place-below : goal.returns-else-place-below
returns-else-place-below c =
    at_top c.args.chunks.now c.args.below c.args.place c.args.top.now c.index-top-place.result
    c.requires.laid c.if-place-below.false c.requires.there c.index-top-place.is
