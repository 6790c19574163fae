use Rattle.std.proofs.Common.{◌≡◌, ◌+◌, ◌≤◌, drop}
use Rattle.bds_tasks.specs.Kept.{unmet_of}
use Rattle.bds_tasks.proofs.schedule.unmet_of.Given as goal

abbrev pub invariant-loop-n : goal.invariant-loop-n
invariant-loop-n l =
    (l.count + unmet_of l.tasks (drop l.n-index l.needs) ≡ unmet_of l.tasks l.needs) × (l.count ≤ l.n-index)
