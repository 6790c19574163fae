use Rattle.std.proofs.Common.{◌≡◌, drop}
use Rattle.bds_tree.specs.View.{trees_of}
use Rattle.bds_check_rules.specs.Breaks.{any_argument_differs}
use Rattle.bds_check_rules.proofs.breaks.any_argument_differs.Given as goal

abbrev pub invariant-loop-i : goal.invariant-loop-i
invariant-loop-i l = any_argument_differs (drop l.i l.types) (trees_of (drop l.i l.arguments)) ≡ any_argument_differs l.types (trees_of l.arguments)
