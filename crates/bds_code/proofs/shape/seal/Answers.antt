use Rattle.std.proofs.Common.{◌++◌, ◌∷◌, [], take, ◌/◌, ◌∙◌, ap}
use Rattle.bds_code.specs.Chunks.{held}
use Rattle.bds_code.proofs.ChunkLaws.{sealed}
use Rattle.bds_code.proofs.shape.seal.Goals as goal

pub returns : goal.returns
returns c =
    let n = c.args.below.now in
    let s = sealed (held c.args.chunks.now) n c.args.top.now c.replace-chunk.new.dest c.in_ok-more.more c.requires.laid
    c.requires.full c.if-count-ge-MOST.false
    (c.in_ok-more.ensures ∙ ap (λ cs. take (n / 32) (held cs) ++ c.replace-chunk.result ∷ [])
    c.replace-old.ensures.value
    ∙ ap (λ t. take (n / 32) (held c.args.chunks.now) ++ t ∷ []) c.replace-chunk.ensures.value)
    (c.replace-chunk.ensures.after ∙ c.new.ensures) in
    record { laid = s.holds; same = s.same; room = s.room }
