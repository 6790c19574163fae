use Rattle.std.proofs.Common.{ap, ◌∙◌}
use Rattle.bds_machine.proofs.PointTypes.{awaits_fitting}
use Rattle.bds_rows_code.proofs.machine.every.turn.Goals as goal

pub give-requires : goal.give-requires
give-requires c =
    awaits_fitting c.args.unit.now c.in_ok-point.point c.run_to_point.new.thread c.in_ok-point.ensures.left c.in-Some.answer
    (c.in_ok-answer.ensures c.in-Some.answer c.in-Some.is)

pub returns-in_ok-give-in-Some : goal.returns-in_ok-give-in-Some
returns-in_ok-give-in-Some c =
    let given = c.in_ok-give-in-Some.ensures.ok in
    λ e. (given.valid, ap (λ t. t.status) given.rest ∙ c.in_ok-point.ensures.run.status ∙ c.requires.ready)
