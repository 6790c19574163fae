use Rattle.std.proofs.Common.{◌≡◌, ◌∙◌, [], Err, ap, subst}
use Rattle.bds_meaning.specs.Begin.{Reading}
use Rattle.bds_app_run.specs.Ways.{Reaches, at_end}
use Rattle.bds_app_run.specs.declared.stop.Stop.TheVariants as stop
use Rattle.bds_app_run.specs.Commands.{RunsScript}
use Rattle.bds_app_run.proofs.Commands.{runs_to_end, runs_to_fault}
use Rattle.bds_app_run.proofs.Quiet.{nothing_added, quiet_told}
use Rattle.bds_app_run.proofs.scripts.conclude.Goals as goal

pub returns-in-Ok-clause-does : goal.returns-in-Ok-clause-does
returns-in-Ok-clause-does g c = λ call before came.
    runs_to_end call before _ c.in-Ok.end c.outcome.result c.outcome.ensures (subst (λ r. Reaches call (Reading []) before (g.H.Host.log c.args.host.now) at_end r) c.in-Ok.is came)

pub returns-in-Err-Fault-clause-does : goal.returns-in-Err-Fault-clause-does
returns-in-Err-Fault-clause-does g c = λ call before came.
    let same : c.in-Err-Fault.field-0 ≡ stop.Fault = rw c.in-Err-Fault.is at c.in-Err-Fault.field-0-is in
    runs_to_fault call before _ _ c.tell_device.result (subst (λ r. Reaches call (Reading []) before (g.H.Host.log c.args.host.now) at_end r) (c.in-Err-Fault.is ∙ ap (λ x. Err x) same) came) c.tell_device.ensures

pub returns-in-Err-NoMemory-clause-does : goal.returns-in-Err-NoMemory-clause-does
returns-in-Err-NoMemory-clause-does g c = λ call before came.
    let same : c.in-Err-NoMemory.field-0 ≡ stop.NoMemory = rw c.in-Err-NoMemory.is at c.in-Err-NoMemory.field-0-is in
    RunsScript.no_memory (subst (λ r. Reaches call (Reading []) before (g.H.Host.log c.args.host.now) at_end r) (c.in-Err-NoMemory.is ∙ ap (λ x. Err x) same) came)

pub returns-in-Ok-clause-quiet : goal.returns-in-Ok-clause-quiet
returns-in-Ok-clause-quiet g c = nothing_added _

pub returns-in-Err-Fault-clause-quiet : goal.returns-in-Err-Fault-clause-quiet
returns-in-Err-Fault-clause-quiet g c = quiet_told _ _ c.tell_device.result c.tell_device.ensures

pub returns-in-Err-NoMemory-clause-quiet : goal.returns-in-Err-NoMemory-clause-quiet
returns-in-Err-NoMemory-clause-quiet g c = nothing_added _
