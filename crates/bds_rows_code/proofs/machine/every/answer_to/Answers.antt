use Rattle.std.proofs.Common.{[], ◌∷◌, ap, arith}
use Rattle.bds_machine.specs.declared.point.Answer.TheVariants as answer
use Rattle.bds_machine.specs.declared.point.Point.TheVariants as point
use Rattle.bds_machine.specs.Answers.{ask_ty}
use Rattle.bds_machine.proofs.AnswerFits.{fits-Nothing, fits-some, made-Text}
use Rattle.bds_rows_code.proofs.machine.every.answer_to.Goals as goal

pub returns-in_ok-letter-in-Read : goal.returns-in_ok-letter-in-Read
returns-in_ok-letter-in-Read c = made-Text (point.Asks c.args.ask.now) (105 ∷ []) (omega arith) (ap ask_ty c.in-Read.is) c.in_ok-letter-in-Read.field-0 c.in_ok-letter-in-Read.ensures

pub returns-in_ok-letter-in-Sys : goal.returns-in_ok-letter-in-Sys
returns-in_ok-letter-in-Sys c = made-Text (point.Asks c.args.ask.now) (c.args.last ∷ []) (omega arith) (ap ask_ty c.in-Sys.is) c.in_ok-letter-in-Sys.field-0 c.in_ok-letter-in-Sys.ensures

pub returns-in-Write : goal.returns-in-Write
returns-in-Write c = fits-some (point.Asks c.args.ask.now) answer.Nothing (fits-Nothing (point.Asks c.args.ask.now) (ap ask_ty c.in-Write.is))

pub returns-in-Remove : goal.returns-in-Remove
returns-in-Remove c = fits-some (point.Asks c.args.ask.now) answer.Nothing (fits-Nothing (point.Asks c.args.ask.now) (ap ask_ty c.in-Remove.is))

pub returns-in-Out : goal.returns-in-Out
returns-in-Out c = fits-some (point.Asks c.args.ask.now) answer.Nothing (fits-Nothing (point.Asks c.args.ask.now) (ap ask_ty c.in-Out.is))
