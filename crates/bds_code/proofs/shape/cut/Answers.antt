use Rattle.bds_code.proofs.ChunkLaws.{cut_top}
use Rattle.bds_code.proofs.shape.cut.Goals as goal

pub returns-else-keeps-below-clause-same : goal.returns-else-keeps-below-clause-same
returns-else-keeps-below-clause-same c =
    cut_top c.args.chunks.now c.args.below.now c.args.keeps c.args.top.now c.cut_types-else-keeps-below.new.types
    c.requires c.if-keeps-below.false c.cut_types-else-keeps-below.ensures
