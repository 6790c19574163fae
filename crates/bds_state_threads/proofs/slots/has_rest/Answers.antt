use Rattle.std.specs.Bool.{Decides}
use Rattle.std.proofs.lemmas.Result.{IfOk-weaker}
use Rattle.bds_verify.specs.Threads.{Typed}
use Rattle.bds_state_threads.specs.Judged.{HasRest}
use Rattle.bds_state_threads.proofs.Resting.{given-other, rest-void, rest-front}
use Rattle.bds_state_threads.proofs.slots.has_rest.Goals as goal

pub returns-in-Void : goal.returns-in-Void
returns-in-Void c =
    let os = c.args.operands.now in
    let shape = c.args.shape.now in
    let ret = c.args.ret.now in
    IfOk-weaker c.are_of.result (λ b. Decides b (Typed os shape)) (λ b. Decides b (HasRest os shape ret)) (λ b d. rest-void os shape ret b c.in-Void.is d) c.are_of.ensures

pub returns-else-not-are_same : goal.returns-else-not-are_same
returns-else-not-are_same c =
    let os = c.args.operands.now in
    let shape = c.args.shape.now in
    let ret = c.args.ret.now in
    let rest = c.in-Some.rest.now in
    IfOk-weaker c.are_of-in-Some.result (λ b. Decides b (Typed os rest)) (λ b. Decides b (HasRest os shape ret))
    (λ b d. rest-front os shape rest c.in-Some.last.now ret (given-other ret c.in_default.not-Void) c.in-Some.ensures.cases.0 c.are_same.result b c.are_same.ensures c.if-not-are_same.false d) c.are_of-in-Some.ensures
