use Rattle.bds_app_fmt.proofs.Formats.{lacks_faulted, lacks_lost, lacks_told}
use Rattle.bds_app_fmt.proofs.formatting.refuse.Goals as goal

pub returns-in-Ok : goal.returns-in-Ok
returns-in-Ok g c = λ path before lacks. lacks_told path before _ _ c.args.fault _ c.tell.result lacks c.in-Ok.ensures c.tell.ensures

pub returns-in-Err-Fault : goal.returns-in-Err-Fault
returns-in-Err-Fault g c = λ path before lacks.
    lacks_faulted path before _ _ c.args.fault c.tell_device.result (rw c.in-Err-Fault.field-0-is at c.in-Err-Fault.ensures) lacks c.tell_device.ensures

pub returns-in-Err-NoMemory : goal.returns-in-Err-NoMemory
returns-in-Err-NoMemory g c = λ path before lacks. lacks_lost path before _ c.args.fault lacks
