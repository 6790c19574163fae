use Rattle.bds_app_trials.proofs.Verdicts.{counted_last, counted_on}
use Rattle.bds_app_trials.proofs.turns.tell_counts.Goals as goal

pub returns-then-was_printed : goal.returns-then-was_printed
returns-then-was_printed g c =
    rw c.status_of.ensures (counted_on c.args.passed c.args.failed _ _ c.tell_summary-answer.result c.was_printed.result
    c.if-was_printed.true c.was_printed.ensures c.tell_summary-answer.ensures)

pub returns-else-was_printed : goal.returns-else-was_printed
returns-else-was_printed g c =
    counted_last c.args.passed c.args.failed _ _ c.tell_summary-answer.result c.was_printed.result
    c.if-was_printed.false c.was_printed.ensures c.tell_summary-answer.ensures
