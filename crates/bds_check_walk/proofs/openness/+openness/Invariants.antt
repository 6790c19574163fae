use Rattle.std.proofs.Common.{◌≡◌, drop}
use Rattle.bds_tree.specs.View.{trees_of, pairs_of}
use Rattle.bds_check_typing.specs.Walk.{are_open, are_values_open}
use Rattle.bds_check_walk.proofs.openness.+openness.Given as goal

abbrev pub invariant-are_open-loop-item : goal.invariant-are_open-loop-item
invariant-are_open-loop-item l = are_open (trees_of (drop l.item-index l.items)) ≡ are_open (trees_of l.items)

abbrev pub invariant-are_values_open-loop-pair : goal.invariant-are_values_open-loop-pair
invariant-are_values_open-loop-pair l = are_values_open (pairs_of (drop l.pair-index l.pairs)) ≡ are_values_open (pairs_of l.pairs)
