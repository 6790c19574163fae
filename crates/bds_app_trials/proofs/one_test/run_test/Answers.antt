use Rattle.bds_app_trials.proofs.one_test.run_test.Goals as goal

pub judge-requires : goal.judge-requires
judge-requires g c = (c.args.call.now, (c.args.test.now, (_, (_, c.run_inside-came.ensures))))

pub returns : goal.returns
returns g c = λ t n is. c.judge.ensures c.args.call.now t c.args.test.now n _ _ is c.run_inside-came.ensures
