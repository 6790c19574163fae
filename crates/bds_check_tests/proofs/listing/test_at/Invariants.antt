use Rattle.std.proofs.Common.{◌≡◌, drop, map}
use Rattle.std.specs.List.{slice_get}
use Rattle.bds_tree.specs.StmtView.{part_of}
use Rattle.bds_check_tests.specs.Tests.{tests_in}
use Rattle.bds_check_tests.proofs.listing.test_at.Given as goal

abbrev pub invariant-loop-part : goal.invariant-loop-part
invariant-loop-part l =
    slice_get (tests_in (map part_of (drop l.part-index l.parts))) l.left ≡ slice_get (tests_in (map part_of l.parts))
    l.index
