use Rattle.std.proofs.Common.{◌≡◌, ◌≤◌, drop, length}
use Rattle.bds_tasks.specs.Kept.{position}
use Rattle.bds_tasks.proofs.keeping.position.Given as goal

abbrev pub invariant-loop-i : goal.invariant-loop-i
invariant-loop-i l = (position l.n (drop l.i l.numbers) ≡ 0) × (l.i ≤ length l.numbers)
