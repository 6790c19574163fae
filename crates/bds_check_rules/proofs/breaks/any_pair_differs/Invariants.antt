use Rattle.std.proofs.Common.{◌≡◌, drop}
use Rattle.bds_tree.specs.View.{pairs_of}
use Rattle.bds_check_rules.specs.Breaks.{any_pair_differs}
use Rattle.bds_check_rules.proofs.breaks.any_pair_differs.Given as goal

abbrev pub invariant-loop-pair : goal.invariant-loop-pair
invariant-loop-pair l = any_pair_differs l.ty (pairs_of (drop l.pair-index l.pairs)) ≡ any_pair_differs l.ty (pairs_of l.pairs)
