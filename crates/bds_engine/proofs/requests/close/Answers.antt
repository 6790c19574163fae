use Rattle.bds_machine.specs.declared.point.Point.TheVariants as point
use Rattle.bds_engine.proofs.Contacting.{halts_so}
use Rattle.bds_engine.proofs.Requesting.{closes}
use Rattle.bds_engine.proofs.requests.close.Goals as goal

pub returns-in_err-ids : goal.returns-in_err-ids
returns-in_err-ids c = λ log. halts_so c.args.state.now c.args.state.now c.args.k c.args.thread point.Finished log c.from_residual.result c.from_residual.ensures.1

pub returns : goal.returns
returns c = λ log.
    closes c.args.state.now c.args.k c.args.thread c.requires.place c.requires.rest.0 c.is_valid.ensures c.in_ok-ids.ids c.in_ok-ids.ensures c.wait.new.state c.wait.ensures.state c.wait.result c.wait.ensures.stage log
