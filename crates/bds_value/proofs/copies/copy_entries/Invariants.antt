use Rattle.std.proofs.Common.{◌≡◌, ◌++◌}
use Rattle.bds_value.proofs.copies.copy_entries.Given as goal

abbrev pub invariant-loop-key : goal.invariant-loop-key
invariant-loop-key l = l.pairs ≡ l.copies ++ l.key-iterator
