use Rattle.std.proofs.lemmas.Result.{on_ok_weaker}
use Rattle.bds_tools.proofs.Joining.{put_two_lines}
use Rattle.bds_tools.proofs.scripts.put_task_lines.Goals as goal

pub returns : goal.returns
returns c = on_ok_weaker _ (put_two_lines _ _ _ _ _ _ _ c.in_ok-put_task.ensures c.in_ok-put.ensures.ok c.in_ok-put_added.ensures) c.put-2.ensures.ok
