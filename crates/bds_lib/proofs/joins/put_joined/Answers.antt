use Rattle.std.proofs.Common.{arith}
use Rattle.std.proofs.lemmas.Grind.{common_steps}
use Rattle.bds_value.proofs.TextLaws.{join_by-more}
use Rattle.bds_lib.specs.Lists.{item_text}
use Rattle.bds_lib.proofs.joins.put_joined.Goals as goal

pub loop-i-preserved : goal.loop-i-preserved
loop-i-preserved c =
    grind (arith, common_steps, join_by-more item_text c.args.separator.now c.args.items.now c.loop-i.i c.index-items-i.result (omega arith))
