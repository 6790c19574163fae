use Rattle.std.proofs.Common.{◌-◌, length, ap}
use Rattle.bds_host.proofs.LastPair.{last_replaced}
use Rattle.bds_host.proofs.traces.record_reply.Goals as goal

pub returns : goal.returns
returns c = λ before ask old is.
    last_replaced c.args.trace.now _ c.at_mut-last.result.now c.args.reply before ask old
    (ap (λ xs. length xs - 1) c.as_slice-count.ensures) c.at_mut-last.ensures.value is
