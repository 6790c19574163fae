use Rattle.std.proofs.Common.{[], ◌∷◌, codes}
use Rattle.bds_tools.specs.Lines.{lines}
use Rattle.bds_tools.specs.Make.{task_lines}
use Rattle.bds_tools.proofs.Making.{lines_more}
use Rattle.bds_tools.proofs.scripts.make.Goals as goal

pub loop-i-preserved : goal.loop-i-preserved
loop-i-preserved c = lines_more task_lines (lines (codes "string[] outs" ∷ [])) _ _ c.loop-i.i _ c.loop-i.invariant c.in_ok-put_task_lines.ensures c.from.ensures
