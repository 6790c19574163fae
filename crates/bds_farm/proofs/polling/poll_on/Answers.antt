use Rattle.std.proofs.Common.{◌≡◌, ◌<◌, [], arith}
use Rattle.bds_farm.specs.Farm.{most_polls}
use Rattle.bds_farm.specs.Inside.{queue_of}
use Rattle.bds_farm.proofs.Asking.{answered_turn, last_turn, polls_begin, polls_lost, polls_more}
use Rattle.bds_farm.proofs.polling.poll_on.Goals as goal

pub loop-init : goal.loop-init
loop-init g c = polls_begin _ _ _ _

pub returns-in-Ok-Some : goal.returns-in-Ok-Some
returns-in-Ok-Some g c =
    let few : c.loop.counter < most_polls = omega arith in
    let reply = rw c.in-Ok-Some.field-0-is at c.in-Ok-Some.ensures in
    λ submit. answered_turn submit _ _ _ _ _ _ _ _ _ c.loop.invariant c.requires few c.in-Ok-Some.reply reply

pub returns-in-Err : goal.returns-in-Err
returns-in-Err g c =
    let few : c.loop.counter < most_polls = omega arith in
    let now = queue_of c.poll_step.new.known in
    λ submit. polls_lost submit _ _ _ _ now _ _ _ _ c.loop.invariant c.requires few c.in-Err.ensures

pub loop-preserved : goal.loop-preserved
loop-preserved g c =
    polls_more [] _ _ _ _ _ _ _ _ _ c.loop.invariant (rw c.in-Ok-None.field-0-is at c.in-Ok-None.ensures)

pub returns : goal.returns
returns g c =
    let all : c.loop.counter ≡ most_polls = omega arith in
    λ submit. last_turn submit _ _ _ _ _ _ _ _ c.loop.invariant c.requires all c.last_end.result c.last_end.ensures
