use Rattle.std.proofs.lemmas.Result.{IfOk-weaker}
use Rattle.bds_source_places.proofs.PlaceLists.{item_term_put, key_term_put}
use Rattle.bds_source_places.proofs.calls.+put_steps.Goals as goal

pub returns-in-Ok : goal.returns-in-Ok
returns-in-Ok t c =
    IfOk-weaker c.put_step.result _ _
    (λ x last. item_term_put c.args.names.now c.args.expr.now c.in-Item.list c.in-Item.index c.get.result.now c.get-in-Ok.result.now c.args.terms.now c.put_steps.new.terms c.put_step.new.terms c.in-Item.is c.get.ensures c.get-in-Ok.ensures c.in-Ok.ensures last)
    c.put_step.ensures

pub returns-in-Ok-put_steps : goal.returns-in-Ok-put_steps
returns-in-Ok-put_steps t c =
    IfOk-weaker c.put_step-in-Ok-put_steps.result _ _
    (λ x last. key_term_put c.args.names.now c.args.expr.now c.in-Key.map c.in-Key.key c.get-in-Key.result.now c.get-in-Ok-put_steps.result.now c.args.terms.now c.put_steps-in-Key.new.terms c.put_step-in-Ok-put_steps.new.terms c.in-Key.is c.get-in-Key.ensures c.get-in-Ok-put_steps.ensures c.in-Ok-put_steps.ensures last)
    c.put_step-in-Ok-put_steps.ensures
