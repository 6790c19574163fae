use Rattle.std.proofs.lemmas.Result.{IfOk-weaker}
use Rattle.bds_source_acts.proofs.Settling.{settled_on}
use Rattle.bds_source_acts.proofs.acts.settle.Goals as goal

pub returns-in-Settle : goal.returns-in-Settle
returns-in-Settle c =
    IfOk-weaker c.settle_before.result _ _
    (λ t e. settled_on c.args.rest c.in-Settle.behind c.args.value t c.in-Settle.choices c.args.choice c.in-Settle.is e)
    c.settle_before.ensures
