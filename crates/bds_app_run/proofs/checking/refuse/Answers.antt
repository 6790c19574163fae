use Rattle.std.proofs.Common.{Err, subst}
use Rattle.bds_front.specs.Loading.{Loads}
use Rattle.bds_app_run.specs.Commands.{ChecksScript}
use Rattle.bds_app_run.proofs.checking.refuse.Goals as goal

pub returns-in-Ok : goal.returns-in-Ok
returns-in-Ok g c = λ path before loads. ChecksScript.refused_for c.args.fault _ _ c.tell.result loads c.in-Ok.ensures c.tell.ensures

pub returns-in-Err-Fault : goal.returns-in-Err-Fault
returns-in-Err-Fault g c = λ path before loads.
    ChecksScript.faulted _ c.tell_device.result (subst (λ f. Loads path before (g.H.Host.log c.args.host.now) (Err f)) (rw c.in-Err-Fault.field-0-is at c.in-Err-Fault.ensures) loads) c.tell_device.ensures

pub returns-in-Err-NoMemory : goal.returns-in-Err-NoMemory
returns-in-Err-NoMemory g c = λ path before loads. ChecksScript.no_memory _ loads
