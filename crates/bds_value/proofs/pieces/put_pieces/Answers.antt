use Rattle.std.proofs.Common.{arith}
use Rattle.std.proofs.lemmas.Grind.{common_steps}
use Rattle.std.specs.Prelude.{codes}
use Rattle.bds_value.specs.Text.{text_of}
use Rattle.bds_value.proofs.TextLaws.{join_by-more}
use Rattle.bds_value.proofs.pieces.put_pieces.Goals as goal

pub loop-i-preserved : goal.loop-i-preserved
loop-i-preserved c =
    grind (arith, common_steps, join_by-more text_of (codes " ") c.args.items.now c.loop-i.i c.index-items-i.result (omega arith))
