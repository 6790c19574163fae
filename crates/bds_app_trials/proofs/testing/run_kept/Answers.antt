use Rattle.bds_app_trials.proofs.testing.run_kept.Goals as goal

pub run_listed-ran-requires-clause-base : goal.run_listed-ran-requires-clause-base
run_listed-ran-requires-clause-base g c = (c.args.typed, (c.base_of-base.ensures, c.names_if_fit-named.ensures))

pub returns : goal.returns
returns g c = c.run_listed-ran.ensures c.args.typed c.base_of-base.ensures c.names_if_fit-named.ensures
