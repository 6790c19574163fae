use Rattle.std.proofs.Common.{ap}
use Rattle.bds_machine.specs.declared.point.Answer.TheVariants as answer
use Rattle.bds_machine.specs.declared.point.Point.TheVariants as point
use Rattle.bds_machine.specs.Answers.{ask_ty}
use Rattle.bds_machine.proofs.AnswerFits.{fits-Nothing}
use Rattle.bds_machine.proofs.PointTypes.{awaits_fitting}
use Rattle.bds_rows_engine.proofs.states.give_printed.Goals as goal

pub give-requires : goal.give-requires
give-requires c =
    awaits_fitting c.args.unit.now (point.Asks c.args.ask.now) c.args.thread.now (λ h. c.requires.left) answer.Nothing
    (fits-Nothing (point.Asks c.args.ask.now) (ap ask_ty c.in-Out.is))
