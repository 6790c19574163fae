use Rattle.bds_app_run.proofs.Beginning.{was_short}
use Rattle.bds_app_trials.specs.Testing.{TestsScript}
use Rattle.bds_app_trials.proofs.Loaded.{nothing_set}
use Rattle.bds_app_trials.proofs.testing.load_and_run.Goals as goal

pub run_kept-requires-clause-short : goal.run_kept-requires-clause-short
run_kept-requires-clause-short g c = was_short c.args.call.now.path _ _ _ c.in-Ok.ensures.loads

pub run_kept-requires-clause-unset : goal.run_kept-requires-clause-unset
run_kept-requires-clause-unset g c = nothing_set c.args.call.now.path _ _ _ c.in-Ok.ensures.loads

pub returns-in-Ok : goal.returns-in-Ok
returns-in-Ok g c = TestsScript.loaded c.in-Ok.typed _ _ c.in-Ok.ensures.loads c.run_kept.ensures

pub returns-in-Err : goal.returns-in-Err
returns-in-Err g c = c.refuse-answer.ensures _ c.in-Err.ensures.loads
