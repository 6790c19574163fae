use Rattle.std.proofs.Common.{◌≡◌, length}
use Rattle.bds_state.specs.Holding.{ListsMore}
use Rattle.bds_state.proofs.holders.lengthen_lists.Given as goal

abbrev pub invariant-loop : goal.invariant-loop
invariant-loop l = ListsMore l.fn.lists l.lists × (l.counter ≡ length l.lists)
