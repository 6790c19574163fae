use Rattle.std.proofs.Common.{◌≡◌, ◌-◌, drop, length}
use Rattle.bds_code_frames.specs.declared.thread.Thread.{Thread}
use Rattle.bds_tasks.specs.Starts.{first}
use Rattle.bds_state.specs.Ready.{is_ready, numbers_from}
use Rattle.bds_state.proofs.ready.ready_from.Given as goal

abbrev pub invariant-loop-n : goal.invariant-loop-n
invariant-loop-n l =
    first (numbers_from l.n (λ (t : Thread). is_ready l.threads l.tasks t.status) (drop l.n l.threads))
    ≡ first (numbers_from l.start (λ (t : Thread). is_ready l.threads l.tasks t.status) (drop l.start l.threads))

abbrev pub decreases-loop-n : goal.decreases-loop-n
decreases-loop-n l = length l.threads - l.n
