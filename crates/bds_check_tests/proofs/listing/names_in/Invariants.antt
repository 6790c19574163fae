use Rattle.std.proofs.Common.{◌≡◌, ◌++◌, drop, map}
use Rattle.bds_tree.specs.StmtView.{part_of}
use Rattle.bds_check_tests.proofs.ListedTests.{names_of}
use Rattle.bds_check_tests.proofs.listing.names_in.Given as goal

abbrev pub invariant-loop-part : goal.invariant-loop-part
invariant-loop-part l = l.names ++ names_of (map part_of (drop l.part-index l.parts)) ≡ names_of (map part_of l.parts)
