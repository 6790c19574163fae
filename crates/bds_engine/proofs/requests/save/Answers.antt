use Rattle.std.proofs.Common.{None}
use Rattle.bds_machine.specs.declared.point.Point.TheVariants as point
use Rattle.bds_engine_stages.specs.declared.stage.Stage.TheVariants as stage
use Rattle.bds_engine.proofs.Beginning.{err_back, saves}
use Rattle.bds_engine.proofs.requests.save.Goals as goal

pub returns-in-Ok : goal.returns-in-Ok
returns-in-Ok g c =
    saves c.args.state.now c.args.k c.args.thread c.args.path c.requires c.hand.new.state c.in-Ok.ensures.1 c.is_valid.ensures c.numbers_fit.ensures (g.H.Host.log c.args.host.now) (g.H.Host.log c.keep_state.new.host) c.keep_state.result c.keep_state.ensures

pub returns-in-Err : goal.returns-in-Err
returns-in-Err g c =
    err_back c.args.state.now c.hand.new.state c.hand.new.state c.args.k c.args.thread (point.Save c.args.path) None stage.Point c.in-Err.halt c.in-Err.ensures (g.H.Host.log c.args.host.now)
