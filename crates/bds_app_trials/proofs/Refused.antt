-- Why a script isn't loaded is told.
use Rattle.std.proofs.Common.{◌≡◌, Err, subst}
use Rattle.bds_host.specs.Host.{Log}
use Rattle.bds_front.specs.Loading.{Loads}
use Rattle.bds_front.specs.declared.front_fault.FrontFault.{FrontFault}
use Rattle.bds_front.specs.declared.front_fault.FrontFault.TheVariants as front
use Rattle.bds_app_run.specs.Telling.{IsToldAs, TellsDevice}
use Rattle.bds_app_run.specs.declared.call.Call.{Call}
use Rattle.bds_app_run.specs.declared.outcome.Outcome.{Outcome}
use Rattle.bds_app_run.specs.declared.stop.Stop.{Stop}
use Rattle.bds_app_run.specs.declared.stop.Stop.TheVariants.{Fault}
use Rattle.bds_app_trials.specs.Testing.{TestsScript}

-- a read was a fault
pub unread_so : (c : Call) (before log after : Log) (f : FrontFault) (e : Stop) → e ≡ Fault → IsToldAs f (Err e)
    → Loads c.path before log (Err f) → (o : Outcome) → TellsDevice log after o → TestsScript c before after o
unread_so c before log after f e same is loads o told =
    let device : f ≡ front.Device = subst (λ (x : Stop). IsToldAs f (Err x)) same is in
    TestsScript.unread log o (subst (λ (x : FrontFault). Loads c.path before log (Err x)) device loads) told
