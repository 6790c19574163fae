use Rattle.std.proofs.Common.{◌≤◌, length, ◌+◌}
use Rattle.bds_state.proofs.holders.lengthen_places.Given as goal

abbrev pub invariant-loop : goal.invariant-loop
invariant-loop l = (l.k + 1 ≤ l.end) × (l.counter ≤ length l.places)
