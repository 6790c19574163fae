use Rattle.bds_app_trials.proofs.TestRuns.{dry_run}
use Rattle.bds_app_trials.proofs.dry.run_inside.Goals as goal

pub returns : goal.returns
returns g c =
    dry_run c.args.call _ _ _ c.run_script-outcome.result c.into_inner.ensures.inner c.into_inner.ensures.dry
    (rw c.new-dry.ensures.log at c.run_script-outcome.ensures.does)
