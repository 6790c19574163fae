use Rattle.bds_app_run.proofs.files.go_on.Goals as goal

pub returns : goal.returns
returns g c = (c.run_state.result, (rw c.revive.ensures at c.run_state.ensures, c.outcome_of_run.ensures))
