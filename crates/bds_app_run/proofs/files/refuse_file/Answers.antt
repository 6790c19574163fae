use Rattle.bds_app_run.specs.Ways.{RefusesFile}
use Rattle.bds_app_run.proofs.files.refuse_file.Goals as goal

pub returns-in-HoldsNone : goal.returns-in-HoldsNone
returns-in-HoldsNone g c = λ path before opened. RefusesFile.bad_file c.in-HoldsNone.fault _ c.tell.result (rw c.in-HoldsNone.is at opened) c.tell.ensures

pub returns-in-Unread : goal.returns-in-Unread
returns-in-Unread g c = λ path before opened. RefusesFile.unread _ c.tell_device.result (rw c.in-Unread.is at opened) c.tell_device.ensures

pub returns-in-NoMemory : goal.returns-in-NoMemory
returns-in-NoMemory g c = λ path before opened. RefusesFile.unloaded (rw c.in-NoMemory.is at opened)
