use Rattle.bds_state.specs.Judged.{AreThreadsBelow}
use Rattle.bds_state.proofs.judge.judge_threads.Given as goal

abbrev pub invariant-loop-n : goal.invariant-loop-n
invariant-loop-n l = AreThreadsBelow l.unit l.tasks l.threads l.n
