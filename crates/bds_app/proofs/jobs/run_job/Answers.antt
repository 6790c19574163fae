use Rattle.std.proofs.Common.{subst}
use Rattle.bds_app.proofs.Continued.{job_goes_on}
use Rattle.bds_app.proofs.jobs.run_job.Goals as goal
use Rattle.bds_app_farm.proofs.Farms.{job_determined}

pub returns : goal.returns
returns g c =
    record {
      does = c.run_job.ensures.does;
      determined = job_determined c.scripts_are_determined.ensures c.files_are_determined.ensures c.args.job.now _ _ _
          c.run_job.ensures.does;
      words = c.run_job.ensures.words;
      saves = c.run_job.ensures.saves;
      goes_on = job_goes_on c.script_histories_go_on.ensures c.args.job.now _ _ _ c.run_job.ensures.does;
    }
