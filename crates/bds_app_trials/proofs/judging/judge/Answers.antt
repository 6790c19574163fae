use Rattle.std.proofs.Common.{◌≡◌, ◌∙◌, Err, Ok, ap, refl}
use Rattle.bds_app_run.specs.declared.ending.Ending.TheVariants as ending
use Rattle.bds_app_run.specs.declared.stop.Stop.TheVariants as stop
use Rattle.bds_app_trials.specs.Testing.{StopsTest}
use Rattle.bds_app_trials.proofs.RunOn.{not_faulting, not_refused}
use Rattle.bds_app_trials.proofs.TestRuns.{judged_done, ran_faulted, ran_halted, ran_spent}
use Rattle.bds_app_trials.proofs.judging.judge.Goals as goal

pub returns-in-Ok-Done : goal.returns-in-Ok-Done
returns-in-Ok-Done c = λ call t test n before after is h.
    let same : c.in-Ok-Done.field-0 ≡ ending.Done c.in-Ok-Done.status = rw c.in-Ok-Done.is at c.in-Ok-Done.field-0-is in
    judged_done call test before after t n c.args.came c.in-Ok-Done.status _ is (c.in-Ok-Done.is
    ∙ ap (λ x. Ok x) same) refl h

pub returns-in-Ok-Spent : goal.returns-in-Ok-Spent
returns-in-Ok-Spent c = λ call t test n before after is h.
    let same : c.in-Ok-Spent.field-0 ≡ ending.Spent = rw c.in-Ok-Spent.is at c.in-Ok-Spent.field-0-is in
    StopsTest.spent test is (ran_spent call test before after c.args.came (c.in-Ok-Spent.is ∙ ap (λ x. Ok x) same) h)

pub returns-in-Ok-DeviceFault : goal.returns-in-Ok-DeviceFault
returns-in-Ok-DeviceFault c = λ call t test n before after is h.
    let same : c.in-Ok-DeviceFault.field-0 ≡ ending.DeviceFault =
    rw c.in-Ok-DeviceFault.is at c.in-Ok-DeviceFault.field-0-is in
    StopsTest.faulted test is (ran_faulted call test before after c.args.came (c.in-Ok-DeviceFault.is
    ∙ ap (λ x. Ok x) same) h)

pub returns-in-Err-NoMemory : goal.returns-in-Err-NoMemory
returns-in-Err-NoMemory c = λ call t test n before after is h.
    let same : c.in-Err-NoMemory.field-0 ≡ stop.NoMemory = rw c.in-Err-NoMemory.is at c.in-Err-NoMemory.field-0-is in
    StopsTest.halted test is (ran_halted call test before after c.args.came (c.in-Err-NoMemory.is
    ∙ ap (λ x. Err x) same) h)

pub unreachable-requires : goal.unreachable-requires
unreachable-requires c =
    let same : c.in-Ok-Refused.field-0 ≡ ending.Refused = rw c.in-Ok-Refused.is at c.in-Ok-Refused.field-0-is in
    not_refused c.args.came c.requires (c.in-Ok-Refused.is ∙ ap (λ x. Ok x) same)

pub unreachable-requires-in-Err-Fault : goal.unreachable-requires-in-Err-Fault
unreachable-requires-in-Err-Fault c =
    let same : c.in-Err-Fault.field-0 ≡ stop.Fault = rw c.in-Err-Fault.is at c.in-Err-Fault.field-0-is in
    not_faulting c.args.came c.requires (c.in-Err-Fault.is ∙ ap (λ x. Err x) same)
