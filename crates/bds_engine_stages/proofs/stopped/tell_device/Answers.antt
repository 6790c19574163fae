use Rattle.bds_engine_stages.proofs.Joining.{halts_err}
use Rattle.bds_engine_stages.proofs.Stops.{device_asks, device_halts}
use Rattle.bds_engine_stages.proofs.stopped.tell_device.Goals as goal

pub returns-in_err-text : goal.returns-in_err-text
returns-in_err-text g c = λ s cpus budget used d at.
    let log = g.H.Host.log in
    halts_err s cpus budget d (log c.args.host.now) (log c.args.host.now) s used c.from_residual.result c.from_residual.ensures.1 (device_halts s cpus budget used d (log c.args.host.now) at)

pub returns : goal.returns
returns g c = λ s cpus budget used d at.
    let log = g.H.Host.log in
    device_asks s cpus budget used d at (log c.args.host.now) (log c.tell_last.new.host) c.in_ok-text.text c.tell_last.result c.in_ok-text.ensures c.tell_last.ensures
