use Rattle.std.proofs.Common.{◌≡◌, ◌+◌, drop}
use Rattle.bds_tree.specs.View.{pairs_of}
use Rattle.bds_check_typing.specs.Walk.{open_value_count}
use Rattle.bds_check_walk.proofs.map_literals.open_pairs.Given as goal

abbrev pub invariant-loop-i : goal.invariant-loop-i
invariant-loop-i l = l.i + open_value_count (pairs_of (drop l.i l.pairs)) ≡ open_value_count (pairs_of l.pairs)
