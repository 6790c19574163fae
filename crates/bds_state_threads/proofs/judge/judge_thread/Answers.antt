use Rattle.std.proofs.Common.{subst}
use Rattle.bds_code.specs.declared.unit.Unit.{Unit as CodeUnit}
use Rattle.bds_state_threads.specs.Judged.{IsOwn}
use Rattle.bds_state_threads.proofs.Unique.{frames-judge}
use Rattle.bds_state_threads.proofs.judge.judge_thread.Goals as goal

pub returns : goal.returns
returns c =
    let own = subst (λ (u : CodeUnit). IsOwn u c.args.thread.now) c.unit-code.ensures.same (c.in-Ok.ensures.0 c.if-not-own.false) in
    frames-judge c.args.unit.now c.unit-code.ensures.verified c.args.thread.now c.judge_frames.result own c.judge_frames.ensures
