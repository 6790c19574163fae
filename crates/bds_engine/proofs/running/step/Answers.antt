use Rattle.std.proofs.Common.{subst}
use Rattle.bds_state.specs.Parts.{Parts}
use Rattle.bds_engine_stages.specs.declared.stage.Stage.{Stage}
use Rattle.bds_engine_stages.specs.declared.stage.Stage.TheVariants as stage
use Rattle.bds_engine_stages.specs.Steps.{IsAt}
use Rattle.bds_engine.proofs.Turning.{within}
use Rattle.bds_engine.proofs.running.step.Goals as goal

pub returns-in-Point : goal.returns-in-Point
returns-in-Point g c = λ budget used d room e at.
    let log = g.H.Host.log in
    let s : Parts = c.args.state.now in
    within s c.args.cpus budget used d (log c.args.host.now) (log c.at_point.new.host) c.at_point.new.state c.args.left.now c.at_point.result room e
    (c.at_point.ensures budget used d (subst (λ (x : Stage). IsAt s c.args.cpus budget used x d) c.in-Point.is at))

pub returns-in-Turn : goal.returns-in-Turn
returns-in-Turn g c = λ budget used d room e at.
    c.turn.ensures c.args.cpus budget used d room e (subst (λ (x : Stage). IsAt c.args.state.now c.args.cpus budget used x d) c.in-Turn.is at)

pub returns-in-Stopping : goal.returns-in-Stopping
returns-in-Stopping g c = λ budget used d room e at.
    let log = g.H.Host.log in
    let s : Parts = c.args.state.now in
    within s c.args.cpus budget used d (log c.args.host.now) (log c.stopping.new.host) c.stopping.new.state c.args.left.now c.stopping.result room e
    (c.stopping.ensures c.args.cpus budget used d (subst (λ (x : Stage). IsAt s c.args.cpus budget used x d) c.in-Stopping.is at))

pub returns-in-Saving : goal.returns-in-Saving
returns-in-Saving g c = λ budget used d room e at.
    let log = g.H.Host.log in
    let s : Parts = c.args.state.now in
    within s c.args.cpus budget used d (log c.args.host.now) (log c.saving.new.host) s c.args.left.now c.saving.result room e
    (c.saving.ensures c.args.cpus budget used d (subst (λ (x : Stage). IsAt s c.args.cpus budget used x d) c.in-Saving.is at))

pub returns-in-Faulted : goal.returns-in-Faulted
returns-in-Faulted g c = λ budget used d room e at.
    let log = g.H.Host.log in
    let s : Parts = c.args.state.now in
    within s c.args.cpus budget used d (log c.args.host.now) (log c.tell_device.new.host) s c.args.left.now c.tell_device.result room e
    (c.tell_device.ensures s c.args.cpus budget used d (subst (λ (x : Stage). IsAt s c.args.cpus budget used x d) c.in-Faulted.is at))
