use Rattle.bds_app_trials.proofs.Passing.{tests_passed}
use Rattle.bds_app_trials.proofs.TestAnswers.{tests_answered}
use Rattle.bds_app_trials.proofs.testing.test_script.Goals as goal

pub returns-clause-passes : goal.returns-clause-passes
returns-clause-passes g c = tests_passed c.args.call _ _ _ c.load_and_run.ensures

pub returns-clause-device : goal.returns-clause-device
returns-clause-device g c = tests_answered c.args.call _ _ _ c.load_and_run.ensures
