use Rattle.std.proofs.Common.{[], ◌∷◌, true, ap, arith}
use Rattle.bds_machine.specs.declared.point.Answer.TheVariants as answer
use Rattle.bds_machine.specs.Answers.{point_ty}
use Rattle.bds_machine.proofs.AnswerFits.{fits-Bool, fits-Nothing, fits-some, made-Text, made-Texts}
use Rattle.bds_rows_code.proofs.machine.every.answer_at.Goals as goal

pub returns-in-Old : goal.returns-in-Old
returns-in-Old c = fits-some c.args.point.now (answer.Bool true) (fits-Bool c.args.point.now true (ap point_ty c.in-Old.is))

pub returns-in_ok-letter-in-Task : goal.returns-in_ok-letter-in-Task
returns-in_ok-letter-in-Task c = made-Text c.args.point.now (116 ∷ []) (omega arith) (ap point_ty c.in-Task.is) c.in_ok-letter-in-Task.field-0 c.in_ok-letter-in-Task.ensures

pub returns-in_ok-letter-in-Spawn : goal.returns-in_ok-letter-in-Spawn
returns-in_ok-letter-in-Spawn c = made-Text c.args.point.now (50 ∷ []) (omega arith) (ap point_ty c.in-Spawn.is) c.in_ok-letter-in-Spawn.field-0 c.in_ok-letter-in-Spawn.ensures

pub returns-in_ok-letters-in-Goal : goal.returns-in_ok-letters-in-Goal
returns-in_ok-letters-in-Goal c = made-Texts c.args.point.now ((103 ∷ []) ∷ []) (omega arith) (omega arith, tt) (ap point_ty c.in-Goal.is) c.in_ok-letters-in-Goal.field-0 c.in_ok-letters-in-Goal.ensures

pub returns-in-Declare : goal.returns-in-Declare
returns-in-Declare c = fits-some c.args.point.now answer.Nothing (fits-Nothing c.args.point.now (ap point_ty c.in-Declare.is))

pub returns-in-Wait : goal.returns-in-Wait
returns-in-Wait c = fits-some c.args.point.now answer.Nothing (fits-Nothing c.args.point.now (ap point_ty c.in-Wait.is))

pub returns-in-WaitAll : goal.returns-in-WaitAll
returns-in-WaitAll c = fits-some c.args.point.now answer.Nothing (fits-Nothing c.args.point.now (ap point_ty c.in-WaitAll.is))

pub returns-in-Save : goal.returns-in-Save
returns-in-Save c = fits-some c.args.point.now answer.Nothing (fits-Nothing c.args.point.now (ap point_ty c.in-Save.is))
