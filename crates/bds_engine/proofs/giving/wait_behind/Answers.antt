use Rattle.std.proofs.Common.{subst, sym}
use Rattle.bds_value.specs.declared.value.Ty.{Ty}
use Rattle.bds_machine.specs.Answers.{AwaitsAnswer, IsAnswer, value_of}
use Rattle.bds_machine.specs.declared.point.Answer.TheVariants as answer
use Rattle.bds_state.specs.Parts.{Parts}
use Rattle.bds_machine.proofs.AnswerFits.{fits-Nothing}
use Rattle.bds_engine.proofs.Fitting.{awaits_so}
use Rattle.bds_engine.proofs.giving.wait_behind.Goals as goal

pub give-requires : goal.give-requires
give-requires c =
    let w = c.requires.awaits in
    subst (λ (p : Parts). (t : Ty) × AwaitsAnswer p.unit c.args.thread t × IsAnswer (value_of answer.Nothing) t) (sym c.state.view_is)
    (awaits_so c.args.state.now c.args.k c.args.thread w.point answer.Nothing w.out (fits-Nothing w.point w.told))
