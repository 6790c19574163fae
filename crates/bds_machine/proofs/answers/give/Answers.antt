use Rattle.std.proofs.Common.{Result, Ok, Err, refl, ap, sym, ◌∙◌}
use Rattle.std.specs.Result.{OnOk}
use Rattle.bds_value.specs.declared.listed.NoMemory.{NoMemory}
use Rattle.bds_code_frames.specs.Stack.{stack}
use Rattle.bds_machine.specs.Answers.{value_of}
use Rattle.bds_machine.specs.Calls.{received}
use Rattle.bds_machine.proofs.answers.give.Goals as goal

on_ok : (r : Result (Unit {0}) NoMemory) (P Q : Type 0) → (P → Q) → OnOk r P → OnOk r Q
on_ok (Ok x) P Q go h = go h
on_ok (Err e) P Q go h = tt

pub returns-clause-ok : goal.returns-clause-ok
returns-clause-ok c =
    let old = c.args.thread.now in
    on_ok c.receive.result _ _ (λ got.
    let given = ap (λ v. received v (stack old.frames)) (sym c.in_ok-value.ensures) ∙ got in
    record { frames = given; rest = refl; valid = c.requires.1.valid (value_of c.args.answer) c.requires.2 c.receive.new.frames given })
    c.receive.ensures.ok
