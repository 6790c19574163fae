use Rattle.bds_app_log.proofs.Printed.{faulted_at, lacking_at}
use Rattle.bds_app_log.specs.Replays.{PrintsAgain}
use Rattle.bds_app_log.proofs.printing.print_again.Goals as goal

pub returns-in-Ok : goal.returns-in-Ok
returns-in-Ok g c = PrintsAgain.printed c.in-Ok.ensures

pub returns-in-Err-Fault : goal.returns-in-Err-Fault
returns-in-Err-Fault g c = faulted_at _ _ _ _ _ _ (rw c.in-Err-Fault.field-0-is at c.in-Err-Fault.ensures)
    c.tell_device.ensures

pub returns-in-Err-NoMemory : goal.returns-in-Err-NoMemory
returns-in-Err-NoMemory g c = lacking_at _ _ _ _ (rw c.in-Err-NoMemory.field-0-is at c.in-Err-NoMemory.ensures)
