use Rattle.std.proofs.lemmas.Result.{IfOk-weaker}
use Rattle.bds_ckpt.proofs.laws.load_and_write.Goals as goal

pub returns-in-Ok : goal.returns-in-Ok
returns-in-Ok c = IfOk-weaker c.write_loaded.result _ _ (λ again e. record { s = _; loaded = c.in-Ok.ensures.loads.spelled; written = e }) c.write_loaded.ensures
