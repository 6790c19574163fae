use Rattle.bds_app_trials.proofs.TestRuns.{ran_so_far}
use Rattle.bds_app_trials.proofs.one_test.run_inside.Goals as goal

pub returns : goal.returns
returns g c =
    ran_so_far c.args.call.now c.args.test.now _ _ _ c.run_typed-came.result c.into_inner.ensures.inner
    c.into_inner.ensures.dry
    c.requires.fits c.requires.unset (rw c.new-dry.ensures.log at c.run_typed-came.ensures.reaches)
