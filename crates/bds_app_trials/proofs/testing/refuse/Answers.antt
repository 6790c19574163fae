use Rattle.bds_app_trials.specs.Testing.{TestsScript}
use Rattle.bds_app_trials.proofs.Refused.{unread_so}
use Rattle.bds_app_trials.proofs.testing.refuse.Goals as goal

pub returns-in-Ok : goal.returns-in-Ok
returns-in-Ok g c =
    λ before loads. TestsScript.refused_for c.args.fault c.in-Ok.fault _ _ loads c.in-Ok.ensures c.tell.ensures

pub returns-in-Err-Fault : goal.returns-in-Err-Fault
returns-in-Err-Fault g c = λ before loads.
    unread_so c.args.call.now before _ _ c.args.fault c.in-Err-Fault.field-0 c.in-Err-Fault.field-0-is
    c.in-Err-Fault.ensures loads c.tell_device.result c.tell_device.ensures

pub returns-in-Err-NoMemory : goal.returns-in-Err-NoMemory
returns-in-Err-NoMemory g c = λ before loads. TestsScript.unloaded c.args.fault loads
