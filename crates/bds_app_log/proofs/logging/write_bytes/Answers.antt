use Rattle.bds_app_log.specs.Logged.{Writes}
use Rattle.bds_app_log.proofs.logging.write_bytes.Goals as goal

pub returns-in-Ok : goal.returns-in-Ok
returns-in-Ok g c = Writes.written c.in-Ok.ensures

pub returns-in-Err-Fault : goal.returns-in-Err-Fault
returns-in-Err-Fault g c = Writes.faulted _ c.tell_device.result
    (rw c.in-Err-Fault.field-0-is at c.in-Err-Fault.ensures) c.tell_device.ensures

pub returns-in-Err-NoMemory : goal.returns-in-Err-NoMemory
returns-in-Err-NoMemory g c = Writes.no_memory (rw c.in-Err-NoMemory.field-0-is at c.in-Err-NoMemory.ensures)
