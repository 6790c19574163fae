use Rattle.std.proofs.Common.{take}
use Rattle.std.specs.List.{All}
use Rattle.bds_state_threads.specs.Numbers.{ThreadFits}
use Rattle.bds_state.proofs.laws.threads_fit.Given as goal

abbrev pub invariant-loop-thread : goal.invariant-loop-thread
invariant-loop-thread l = All ThreadFits (take l.thread-index l.threads)
