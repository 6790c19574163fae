use Rattle.std.proofs.Common.{◌≡◌, ◌++◌, take}
use Rattle.std.specs.List.{flat_map}
use Rattle.bds_state.specs.StateSpelling.{thread_field}
use Rattle.bds_ckpt.proofs.writing.threads.put_each_thread.Given as goal

abbrev pub invariant-loop-thread : goal.invariant-loop-thread
invariant-loop-thread l = l.out.items ≡ l.fn.out.items ++ flat_map thread_field (take l.thread-index l.threads)
