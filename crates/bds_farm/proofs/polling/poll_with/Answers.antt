use Rattle.bds_farm.proofs.Asking.{polled_out, unpolled}
use Rattle.bds_farm.proofs.polling.poll_with.Goals as goal

pub returns-in-Ok-Some : goal.returns-in-Ok-Some
returns-in-Ok-Some g c =
    polled_out c.args.text _ _ _ _ c.in-Ok-Some.code c.in-Ok-Some.out c.learn_out.result
    (rw c.in-Ok-Some.field-0-is at c.in-Ok-Some.ensures) c.learn_out.ensures

pub returns-in-Err : goal.returns-in-Err
returns-in-Err g c = unpolled c.args.text _ _ c.in-Err.ensures
