use Rattle.bds_app_farm.proofs.Farms.{farms_by}
use Rattle.bds_app_farm.proofs.farming.run_over.Goals as goal

pub returns : goal.returns
returns g c =
    farms_by c.scripts_are_determined.ensures c.files_are_determined.ensures g.K.Farmed.submit g.K.Farmed.poll
    g.K.Farmed.start _ c.args.job.now _ _ _ c.new-farm.ensures.log c.into_inner.ensures.inner c.run_job-came.ensures.does
    c.run_job-came.ensures.saves c.into_inner.ensures.farm
