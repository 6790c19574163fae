use Rattle.std.proofs.Common.{◌≤◌, ℕ, List, length}
use Rattle.std.specs.List.{All}
use Rattle.bds_rows_state.proofs.many.files_from.Given as goal

abbrev pub invariant-loop-i : goal.invariant-loop-i
invariant-loop-i l = (length l.files ≤ l.i) × All (λ (t : List ℕ). length t ≤ 4) l.files
