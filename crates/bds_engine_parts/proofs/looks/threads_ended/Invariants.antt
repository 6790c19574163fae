use Rattle.std.proofs.Common.{◌≡◌, drop}
use Rattle.std.specs.List.{list_all}
use Rattle.bds_state.specs.Ready.{thread_ended}
use Rattle.bds_state.specs.Waited.{threads_in}
use Rattle.bds_engine_parts.proofs.looks.threads_ended.Given as goal

abbrev pub invariant-loop-i : goal.invariant-loop-i
invariant-loop-i l = list_all (thread_ended l.threads) (threads_in (drop l.i l.ids)) ≡ list_all (thread_ended l.threads) (threads_in l.ids)
