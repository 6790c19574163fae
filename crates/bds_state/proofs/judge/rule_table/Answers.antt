use Rattle.bds_rules.proofs.FitLaws.{fit_rules}
use Rattle.bds_state.proofs.Faults.{unfit_bad_rule}
use Rattle.bds_state.proofs.judge.rule_table.Goals as goal

pub returns-in-Ok : goal.returns-in-Ok
returns-in-Ok c = (c.in-Ok.ensures.0, fit_rules c.args.rules c.requires c.in-Ok.ensures.1)

pub returns-in-Err-Unfit : goal.returns-in-Err-Unfit
returns-in-Err-Unfit c =
    unfit_bad_rule c.args.rules c.in-Err-Unfit.n c.requires (rw c.in-Err-Unfit.field-0-is at c.in-Err-Unfit.ensures)
