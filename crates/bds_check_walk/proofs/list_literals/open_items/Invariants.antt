use Rattle.std.proofs.Common.{◌≡◌, ◌+◌, drop}
use Rattle.bds_tree.specs.View.{trees_of}
use Rattle.bds_check_typing.specs.Walk.{open_count}
use Rattle.bds_check_walk.proofs.list_literals.open_items.Given as goal

abbrev pub invariant-loop-i : goal.invariant-loop-i
invariant-loop-i l = l.i + open_count (trees_of (drop l.i l.items)) ≡ open_count (trees_of l.items)
