use Rattle.std.proofs.Common.{◌∙◌, sym, subst}
use Rattle.bds_app_run.specs.Saves.{SavesCheckpoints}
use Rattle.bds_app.proofs.Words.{run_is}
use Rattle.bds_app.proofs.commands.do_command.Goals as goal

pub returns-in-Run-clause-saved : goal.returns-in-Run-clause-saved
returns-in-Run-clause-saved g c = λ call is.
    let log = g.H.Host.log in
    let both = run_is _ _ _ _ _ call (sym c.in-Run.is ∙ is) in
    subst (λ x. SavesCheckpoints x (log c.args.host) (log c.run_over.result.1)) both.0 (c.run_over.ensures.saved both.1)
