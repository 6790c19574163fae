use Rattle.std.proofs.Common.{sym, inr}
use Rattle.bds_ckpt.proofs.laws.write_and_load.Goals as goal

pub returns-in-Ok : goal.returns-in-Ok
returns-in-Ok c = c.load.ensures.exact c.args.state.now (record { spelled = inr (sym c.in-Ok.ensures); valid = c.is_valid.ensures; fits = c.numbers_fit.ensures })
