use Rattle.std.proofs.Common.{append_assoc}
use Rattle.bds_host.proofs.messages.put_task_failed.Goals as goal

pub returns : goal.returns
returns c = rw append_assoc at (rw (c.in_ok-put_with_number.ensures, c.from.ensures) at c.put_with_code.ensures)
