use Rattle.bds_app_trials.proofs.DryAnswers.{dry_answered}
use Rattle.bds_app_trials.proofs.DryFaults.{dry_passed}
use Rattle.bds_app_trials.proofs.dry.dry_script.Goals as goal

pub returns-clause-passes : goal.returns-clause-passes
returns-clause-passes g c = dry_passed _ _ c.run_inside.ensures.own c.run_inside.ensures.dry

pub returns-clause-device : goal.returns-clause-device
returns-clause-device g c = dry_answered c.args.call _ _ _ c.run_inside.ensures
