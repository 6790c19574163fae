use Rattle.std.proofs.Common.{length, take, ◌%◌, ◌∙◌, ap, arith}
use Rattle.bds_code.proofs.ChunkLaws.{next_chunk, next_full, rest_of, settled, settled_whole}
use Rattle.bds_code.proofs.shape.settle.Goals as goal

pub bounds-chunks-whole : goal.bounds-chunks-whole
bounds-chunks-whole c = next_chunk c.args.chunks.now c.args.below.now c.args.top.now c.requires.laid c.if-part-gt0.true

pub split_at-requires : goal.split_at-requires
split_at-requires c =
    let full = next_full c.args.chunks.now c.args.below.now c.args.top.now c.index-chunks-whole.result
    c.requires.laid c.if-part-gt0.true c.index-chunks-whole.is in
    let same = ap length (c.as_slice.ensures ∙ c.get.ensures) in
    let less = rest_of c.args.below.now in
    omega (arith, full, same, less)

pub returns-in_ok-top : goal.returns-in_ok-top
returns-in_ok-top c =
    let s = settled c.args.chunks.now c.args.below.now c.args.top.now c.index-chunks-whole.result c.in_ok-top.field-0
    c.requires.laid c.requires.none c.if-part-gt0.true c.index-chunks-whole.is
    (c.in_ok-top.ensures ∙ c.split_at.ensures.front ∙ ap (λ xs. take (c.args.below.now % 32) xs)
    (c.as_slice.ensures ∙ c.get.ensures)) in
    record { laid = s.holds; same = s.same; room = s.room }

pub returns-else-part-gt0-clause-room : goal.returns-else-part-gt0-clause-room
returns-else-part-gt0-clause-room c = settled_whole c.args.below.now c.args.top.now c.requires.none c.if-part-gt0.false
