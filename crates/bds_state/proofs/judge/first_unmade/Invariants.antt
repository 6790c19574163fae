use Rattle.std.proofs.Common.{◌≡◌, ◌<◌, ℕ, slice_get, Some}
use Rattle.bds_tasks.specs.declared.task.Task.{Task}
use Rattle.bds_state.specs.Valid.{IsMade}
use Rattle.bds_state.proofs.judge.first_unmade.Given as goal

abbrev pub invariant-loop-i : goal.invariant-loop-i
invariant-loop-i l = (k : ℕ) → k < l.i → (t : Task) → slice_get l.tasks k ≡ Some t → IsMade l.threads t
