use Rattle.std.proofs.Common.{Ok, sym, subst}
use Rattle.bds_machine.specs.declared.point.Point.{Point}
use Rattle.bds_engine_stages.specs.declared.stage.Cause.TheVariants as cause
use Rattle.bds_engine_stages.specs.declared.stage.Stage.TheVariants as stage
use Rattle.bds_engine_stages.specs.Held.{FromPoint}
use Rattle.bds_engine.proofs.Requesting.{exits, stops_run}
use Rattle.bds_engine.proofs.requests.request.Goals as goal

pub returns-in-Task : goal.returns-in-Task
returns-in-Task g c =
    let log = g.H.Host.log c.args.host.now in
    subst (λ (p : Point). FromPoint c.args.state.now c.args.k c.args.thread p log log c.make_task.new.state c.make_task.result) (sym c.in-Task.is) (c.make_task.ensures log)

pub returns-in-Declare : goal.returns-in-Declare
returns-in-Declare g c =
    let log = g.H.Host.log c.args.host.now in
    subst (λ (p : Point). FromPoint c.args.state.now c.args.k c.args.thread p log log c.declare.new.state c.declare.result) (sym c.in-Declare.is) (c.declare.ensures log)

pub returns-in-Spawn : goal.returns-in-Spawn
returns-in-Spawn g c =
    let log = g.H.Host.log c.args.host.now in
    subst (λ (p : Point). FromPoint c.args.state.now c.args.k c.args.thread p log log c.spawn.new.state c.spawn.result) (sym c.in-Spawn.is) (c.spawn.ensures log)

pub returns-in-Wait : goal.returns-in-Wait
returns-in-Wait g c =
    let log = g.H.Host.log c.args.host.now in
    subst (λ (p : Point). FromPoint c.args.state.now c.args.k c.args.thread p log log c.wait_for.new.state c.wait_for.result) (sym c.in-Wait.is) (c.wait_for.ensures log)

pub returns-in-WaitAll : goal.returns-in-WaitAll
returns-in-WaitAll g c =
    let log = g.H.Host.log c.args.host.now in
    subst (λ (p : Point). FromPoint c.args.state.now c.args.k c.args.thread p log log c.wait_all.new.state c.wait_all.result) (sym c.in-WaitAll.is) (c.wait_all.ensures log)

pub returns-in-Finished : goal.returns-in-Finished
returns-in-Finished g c =
    let log = g.H.Host.log c.args.host.now in
    subst (λ (p : Point). FromPoint c.args.state.now c.args.k c.args.thread p log log c.close.new.state c.close.result) (sym c.in-Finished.is) (c.close.ensures log)

pub returns-in-Exit : goal.returns-in-Exit
returns-in-Exit g c =
    let log = g.H.Host.log c.args.host.now in
    let s = c.args.state.now in
    subst (λ (p : Point). FromPoint s c.args.k c.args.thread p log log s (Ok (stage.Stopping (cause.Exited c.in-Exit.status)))) (sym c.in-Exit.is) (exits s c.args.k c.args.thread c.requires.place c.in-Exit.status log)

pub returns-in-Stop : goal.returns-in-Stop
returns-in-Stop g c =
    let log = g.H.Host.log c.args.host.now in
    let s = c.args.state.now in
    subst (λ (p : Point). FromPoint s c.args.k c.args.thread p log log s c.fails.result) (sym c.in-Stop.is) (stops_run s c.args.k c.args.thread c.requires.place c.requires.ready c.in-Stop.fault c.in-Stop.at c.fails.result c.fails.ensures log)
