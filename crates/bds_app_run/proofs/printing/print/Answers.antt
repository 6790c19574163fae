use Rattle.bds_app_run.specs.Telling.{Prints}
use Rattle.bds_app_run.proofs.printing.print.Goals as goal

pub returns-in-Ok-Done : goal.returns-in-Ok-Done
returns-in-Ok-Done g c = Prints.printed (rw c.in-Ok-Done.field-0-is at c.in-Ok-Done.ensures.answered)

pub returns-in-Ok-Fault : goal.returns-in-Ok-Fault
returns-in-Ok-Fault g c = Prints.faulted _ c.tell_device.result (rw c.in-Ok-Fault.field-0-is at c.in-Ok-Fault.ensures.answered) c.tell_device.ensures

pub returns : goal.returns
returns g c = Prints.no_memory c.in-Err.ensures.refused
