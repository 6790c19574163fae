use Rattle.bds_state.specs.Parts.{Parts}
use Rattle.bds_engine_stages.proofs.Joining.{halts_err}
use Rattle.bds_engine_stages.proofs.Stops.{halts}
use Rattle.bds_engine_stages.proofs.stopped.stopping.Goals as goal

pub returns-in_err-running : goal.returns-in_err-running
returns-in_err-running g c = λ cpus budget used d at.
    let log = g.H.Host.log in
    let s : Parts = c.args.state.now in
    halts_err s cpus budget d (log c.args.host.now) (log c.args.host.now) s used c.from_residual.result c.from_residual.ensures.1 (halts s cpus budget used c.args.cause d (log c.args.host.now) at)
