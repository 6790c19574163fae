use Rattle.bds_app_run.proofs.opening.load_state.Goals as goal

pub returns-in-Ok : goal.returns-in-Ok
returns-in-Ok c = λ before after answered. record { bytes = c.args.bytes; read = answered; loadable = c.in-Ok.ensures.loads }

pub returns-in-Err : goal.returns-in-Err
returns-in-Err c = λ before after answered. c.fault_of.ensures before after c.args.bytes answered c.in-Err.ensures.exact
