use Rattle.std.proofs.Common.{◌≡◌, ◌++◌, drop, map, nat_eq}
use Rattle.bds_value.specs.declared.ids.Id.TheVariants as id
use Rattle.bds_code_frames.specs.declared.thread.Thread.{Thread}
use Rattle.bds_state.specs.MadeBy.{threads_made_by}
use Rattle.bds_state.specs.Ready.{numbers_from}
use Rattle.bds_state.proofs.made.put_threads.Given as goal

abbrev pub invariant-loop-n : goal.invariant-loop-n
invariant-loop-n l = l.ids
    ++ map id.Thread (numbers_from l.n (λ (t : Thread). nat_eq t.parent l.thread) (drop l.n l.threads)) ≡ l.fn.ids
    ++ map id.Thread (threads_made_by l.thread l.threads)
