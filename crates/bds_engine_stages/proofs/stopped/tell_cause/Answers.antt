use Rattle.std.proofs.Common.{subst}
use Rattle.bds_engine_stages.specs.declared.stage.Cause.{Cause}
use Rattle.bds_engine_stages.specs.declared.stage.Stage.TheVariants as stage
use Rattle.bds_engine_stages.specs.Steps.{IsAt}
use Rattle.bds_engine_stages.proofs.Joining.{halts_err}
use Rattle.bds_engine_stages.proofs.Stops.{exits, halts, tells_fault, tells_task}
use Rattle.bds_engine_stages.proofs.stopped.tell_cause.Goals as goal

pub returns-in_err-text-in-Failed : goal.returns-in_err-text-in-Failed
returns-in_err-text-in-Failed g c = λ s cpus budget used d none at.
    let log = g.H.Host.log in
    halts_err s cpus budget d (log c.args.host.now) (log c.args.host.now) s used c.from_residual.result c.from_residual.ensures.1 (halts s cpus budget used c.args.cause d (log c.args.host.now) at)

pub returns-in_err-text-in-TaskFailed : goal.returns-in_err-text-in-TaskFailed
returns-in_err-text-in-TaskFailed g c = λ s cpus budget used d none at.
    let log = g.H.Host.log in
    halts_err s cpus budget d (log c.args.host.now) (log c.args.host.now) s used c.from_residual-in_err-text-in-TaskFailed.result c.from_residual-in_err-text-in-TaskFailed.ensures.1
    (halts s cpus budget used c.args.cause d (log c.args.host.now) at)

pub returns-in-Exited : goal.returns-in-Exited
returns-in-Exited g c = λ s cpus budget used d none at.
    let log = g.H.Host.log in
    exits s cpus budget used d (log c.args.host.now) c.in-Exited.status none (subst (λ (x : Cause). IsAt s cpus budget used (stage.Stopping x) d) c.in-Exited.is at)

pub returns-in_ok-text-in-Failed : goal.returns-in_ok-text-in-Failed
returns-in_ok-text-in-Failed g c = λ s cpus budget used d none at.
    let log = g.H.Host.log in
    tells_fault s cpus budget used d (log c.args.host.now) (log c.tell.new.host) c.in-Failed.fault c.in_ok-text-in-Failed.text c.tell.result none
    (subst (λ (x : Cause). IsAt s cpus budget used (stage.Stopping x) d) c.in-Failed.is at) c.in_ok-text-in-Failed.ensures c.tell.ensures

pub returns-in_ok-text-in-TaskFailed : goal.returns-in_ok-text-in-TaskFailed
returns-in_ok-text-in-TaskFailed g c = λ s cpus budget used d none at.
    let log = g.H.Host.log in
    tells_task s cpus budget used d (log c.args.host.now) (log c.tell-in-TaskFailed.new.host) c.in-TaskFailed.n c.in-TaskFailed.code c.in_ok-text-in-TaskFailed.text c.tell-in-TaskFailed.result none
    (subst (λ (x : Cause). IsAt s cpus budget used (stage.Stopping x) d) c.in-TaskFailed.is at) c.in_ok-text-in-TaskFailed.ensures c.tell-in-TaskFailed.ensures
