use Rattle.std.proofs.Common.{inl, refl, subst}
use Rattle.bds_app_run.specs.Telling.{Prints}
use Rattle.bds_app_trials.proofs.lines.tell_verdict.Goals as goal

pub returns-in-Ok : goal.returns-in-Ok
returns-in-Ok g c =
    subst (λ t. Prints t (g.H.Host.log c.args.host.now) (g.H.Host.log c.print.new.host) c.print.result) c.in-Ok.ensures
    c.print.ensures

pub returns-in-Err : goal.returns-in-Err
returns-in-Err g c = Prints.no_memory (inl refl)
