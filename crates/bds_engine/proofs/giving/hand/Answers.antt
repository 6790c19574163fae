use Rattle.bds_engine.proofs.Fitting.{awaits_so}
use Rattle.bds_engine.proofs.giving.hand.Goals as goal

pub answer-requires-clause-awaits : goal.answer-requires-clause-awaits
answer-requires-clause-awaits c = awaits_so c.args.state.now c.args.k c.args.thread c.requires.0 c.args.given c.requires.1 c.requires.2
