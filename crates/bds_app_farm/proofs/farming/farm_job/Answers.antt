use Rattle.bds_app_farm.proofs.Farms.{determined}
use Rattle.bds_app_farm.proofs.Faults.{faults_told}
use Rattle.bds_app_farm.proofs.Inside.{device_told, ends_told}
use Rattle.bds_app_farm.proofs.farming.farm_job.Goals as goal

pub returns : goal.returns
returns g c =
    let scripts = c.scripts_are_determined.ensures in
    let files = c.files_are_determined.ensures in
    let job = c.args.job.now in
    let submit = c.args.submit in
    let poll = c.args.poll in
    record {
      farms = c.run_over.ensures;
      determined = determined scripts files job submit poll _ _ _;
      told = ends_told submit poll (c.ends_are_learnt.ensures submit poll) _ _;
      faults =
          faults_told job submit poll _ _ _ c.run_over.ensures
          (determined scripts files job submit poll _ _ _ c.run_over.ensures);
      device =
          λ is.
          device_told submit poll _ _ job _ c.run_over.ensures
          (determined scripts files job submit poll _ _ _ c.run_over.ensures) is;
    }
