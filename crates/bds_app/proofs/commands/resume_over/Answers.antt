use Rattle.std.proofs.Common.{sym, subst}
use Rattle.bds_replay.specs.Log.{IsFieldJob}
use Rattle.bds_app.specs.Answers.{DoesOver}
use Rattle.bds_app.proofs.Words.{field_of_resume}
use Rattle.bds_app.proofs.commands.resume_over.Goals as goal

pub job_over-requires : goal.job_over-requires
job_over-requires g c = subst IsFieldJob (sym c.file_job-job.ensures) (field_of_resume _ _ _ _ c.requires)

pub returns : goal.returns
returns g c =
    let log = g.H.Host.log in
    subst (λ j. DoesOver c.args.over j (log c.args.host) (log c.job_over.result.1) c.job_over.result.0)
    c.file_job-job.ensures c.job_over.ensures.does
