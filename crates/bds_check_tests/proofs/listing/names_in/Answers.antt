use Rattle.std.proofs.Common.{◌<◌, length, arith}
use Rattle.bds_check_tests.proofs.ListedTests.{names_on}
use Rattle.bds_check_tests.proofs.listing.names_in.Goals as goal

pub loop-part-preserved : goal.loop-part-preserved
loop-part-preserved c =
    let below : c.loop-part.part-index < length c.args.parts.now = omega arith in
    names_on c.args.parts.now c.loop-part.part-index c.part-item.result below c.part-item.is c.loop-part.names _ _
    c.in_ok-push_name.ensures c.loop-part.invariant
