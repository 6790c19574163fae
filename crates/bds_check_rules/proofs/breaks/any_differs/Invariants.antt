use Rattle.std.proofs.Common.{◌≡◌, drop}
use Rattle.bds_tree.specs.View.{trees_of}
use Rattle.bds_check_rules.specs.Breaks.{any_differs}
use Rattle.bds_check_rules.proofs.breaks.any_differs.Given as goal

abbrev pub invariant-loop-item : goal.invariant-loop-item
invariant-loop-item l = any_differs l.ty (trees_of (drop l.item-index l.items)) ≡ any_differs l.ty (trees_of l.items)
