use Rattle.bds_app_trials.proofs.Verdicts.{told_last, told_on}
use Rattle.bds_app_trials.proofs.turns.tell_run.Goals as goal

pub returns-then-was_printed : goal.returns-then-was_printed
returns-then-was_printed g c = λ call t n before run named.
    told_on call t n before _ _ c.args.passed run c.args.name.now named c.tell_verdict-answer.result
    c.was_printed.result
    c.if-was_printed.true c.was_printed.ensures c.tell_verdict-answer.ensures

pub returns-else-was_printed : goal.returns-else-was_printed
returns-else-was_printed g c = λ call t n before run named.
    told_last call t n before _ _ c.args.passed run c.args.name.now named c.tell_verdict-answer.result
    c.was_printed.result
    c.if-was_printed.false c.was_printed.ensures c.tell_verdict-answer.ensures
