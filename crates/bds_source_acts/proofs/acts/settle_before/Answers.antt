use Rattle.bds_source_acts.proofs.Settling.{settled_before}
use Rattle.bds_source_acts.proofs.acts.settle_before.Goals as goal

pub returns-in-Ok : goal.returns-in-Ok
returns-in-Ok c = settled_before c.push.new.self c.args.choices c.args.choice c.args.value c.args.behind c.in-Ok.ensures.ok
