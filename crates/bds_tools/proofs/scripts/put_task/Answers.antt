use Rattle.std.proofs.lemmas.Result.{on_ok_weaker}
use Rattle.bds_tools.proofs.Joining.{put_five}
use Rattle.bds_tools.proofs.scripts.put_task.Goals as goal

pub returns : goal.returns
returns c = on_ok_weaker _ (put_five _ _ _ _ _ _ _ _ _ _ _ c.in_ok-put_numbered.ensures c.in_ok-put_numbered-2.ensures c.in_ok-put_numbered-3.ensures c.in_ok-put_numbered-4.ensures) c.put_numbered-5.ensures
