use Rattle.bds_app_run.specs.Telling.{Says}
use Rattle.bds_app_run.proofs.printing.say.Goals as goal

pub returns-in-Ok : goal.returns-in-Ok
returns-in-Ok g c = Says.said c.in-Ok.ensures

pub returns-in-Err-Fault : goal.returns-in-Err-Fault
returns-in-Err-Fault g c = Says.faulted _ c.tell_device.result (rw c.in-Err-Fault.field-0-is at c.in-Err-Fault.ensures) c.tell_device.ensures

pub returns-in-Err-NoMemory : goal.returns-in-Err-NoMemory
returns-in-Err-NoMemory g c = Says.no_memory (rw c.in-Err-NoMemory.field-0-is at c.in-Err-NoMemory.ensures)
