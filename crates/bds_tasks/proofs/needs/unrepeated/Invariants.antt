use Rattle.std.proofs.Common.{◌≡◌, ◌++◌, None, drop}
use Rattle.bds_tasks.specs.Last.{last_number}
use Rattle.bds_tasks.specs.Makers.{unrepeated}
use Rattle.bds_tasks.proofs.needs.unrepeated.Given as goal

abbrev pub invariant-loop-n : goal.invariant-loop-n
invariant-loop-n l = l.out ++ unrepeated (last_number l.out) (drop l.n-index l.numbers) ≡ unrepeated None l.numbers
