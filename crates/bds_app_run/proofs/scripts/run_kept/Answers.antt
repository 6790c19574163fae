use Rattle.std.proofs.Common.{sym, subst, ◌∙◌}
use Rattle.bds_check.specs.declared.checking.TypedScript.{TypedScript}
use Rattle.bds_app_run.specs.Job.{accepted_with}
use Rattle.bds_app_run.specs.Saves.{SavesIfFits}
use Rattle.bds_app_run.proofs.scripts.run_kept.Goals as goal

pub returns-clause-saves : goal.returns-clause-saves
returns-clause-saves g c =
    let log = g.H.Host.log in
    subst (λ (t : TypedScript). SavesIfFits c.args.call.now (accepted_with t) (log c.args.host.now) (log c.run_typed.new.host)) (c.deref.ensures ∙ c.new-typed.ensures) c.run_typed.ensures.saves
