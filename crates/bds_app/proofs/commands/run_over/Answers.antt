use Rattle.std.proofs.Common.{refl, sym, subst}
use Rattle.bds_app_run.specs.Jobs.{SavesIfScript}
use Rattle.bds_replay.specs.Log.{IsFieldJob}
use Rattle.bds_app.specs.Answers.{DoesOver}
use Rattle.bds_app.proofs.Words.{field_of_run}
use Rattle.bds_app.proofs.commands.run_over.Goals as goal

pub job_over-requires : goal.job_over-requires
job_over-requires g c = subst IsFieldJob (sym c.script_job-job.ensures) (field_of_run _ _ _ _ _ c.requires)

pub returns-clause-does : goal.returns-clause-does
returns-clause-does g c =
    let log = g.H.Host.log in
    subst (λ j. DoesOver c.args.over j (log c.args.host) (log c.job_over.result.1) c.job_over.result.0)
    c.script_job-job.ensures c.job_over.ensures.does

pub returns-clause-saved : goal.returns-clause-saved
returns-clause-saved g c = λ plain.
    let log = g.H.Host.log in
    subst (λ j. SavesIfScript j (log c.args.host) (log c.job_over.result.1)) c.script_job-job.ensures
    (c.job_over.ensures.saved plain) refl
