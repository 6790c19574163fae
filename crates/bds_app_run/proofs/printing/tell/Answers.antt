use Rattle.std.proofs.Common.{inl, refl, subst}
use Rattle.bds_app_run.specs.Telling.{Says}
use Rattle.bds_app_run.proofs.printing.tell.Goals as goal

pub returns-in-Ok : goal.returns-in-Ok
returns-in-Ok g c = subst (λ t. Says t c.args.refusal (g.H.Host.log c.args.host.now) (g.H.Host.log c.say.new.host) c.say.result) c.in-Ok.ensures c.say.ensures

pub returns-in-Err : goal.returns-in-Err
returns-in-Err g c = Says.no_memory (inl refl)
