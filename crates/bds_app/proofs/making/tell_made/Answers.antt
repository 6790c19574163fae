use Rattle.std.proofs.Common.{inl, inr, refl, subst}
use Rattle.bds_app.specs.Answers.{MakesRun, RunsMade, made_call}
use Rattle.bds_app.proofs.MadeWell.{made_well}
use Rattle.bds_app.proofs.Refused.{refused_last}
use Rattle.bds_app.proofs.making.tell_made.Goals as goal

pub returns-in-Ended : goal.returns-in-Ended
returns-in-Ended g c = MakesRun.done c.args.inner.now c.in-Ended.status c.tell_summary.result
    (rw c.in-Ended.is at c.requires) c.tell_summary.ensures

pub tell_refusal-requires : goal.tell_refusal-requires
tell_refusal-requires g c = refused_last _ _ _ _ c.in-Refused.is c.requires.1

pub returns-in-Refused : goal.returns-in-Refused
returns-in-Refused g c =
    let last = refused_last _ _ _ _ c.in-Refused.is c.requires.1 in
    MakesRun.refused last.log last.text c.tell_refusal.result
    (subst (λ l. RunsMade c.args.number l _) last.is (rw c.in-Refused.is at c.requires))
    (c.tell_refusal.ensures last.log last.text last.is)

pub returns-in-Ticks : goal.returns-in-Ticks
returns-in-Ticks g c = MakesRun.spent c.args.inner.now (rw c.in-Ticks.is at c.requires) refl

pub returns-in-NoMemory : goal.returns-in-NoMemory
returns-in-NoMemory g c = MakesRun.no_memory refl

pub unreachable-requires : goal.unreachable-requires
unreachable-requires g c =
    made_well _ made_call c.args.inner.now c.requires.0 c.args.outcome c.requires.1 (inr (inl c.in-BadFile.is))

pub unreachable-requires-in-Device : goal.unreachable-requires-in-Device
unreachable-requires-in-Device g c =
    made_well _ made_call c.args.inner.now c.requires.0 c.args.outcome c.requires.1 (inl c.in-Device.is)

pub unreachable-requires-in-Words : goal.unreachable-requires-in-Words
unreachable-requires-in-Words g c =
    made_well _ made_call c.args.inner.now c.requires.0 c.args.outcome c.requires.1 (inr (inr c.in-Words.is))
