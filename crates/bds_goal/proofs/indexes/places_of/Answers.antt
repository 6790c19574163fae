use Rattle.std.proofs.Common.{arith}
use Rattle.bds_goal.specs.Goals.{place_from}
use Rattle.bds_rules.specs.Indexes.{number_in}
use Rattle.bds_goal.proofs.IndexLaws.{places_on}
use Rattle.bds_goal.proofs.indexes.places_of.Goals as goal

pub loop-i-preserved : goal.loop-i-preserved
loop-i-preserved c x =
    places_on c.args.files.now c.loop-i.i c.index-files-i.result c.as_slice.result.now x (number_in c.loop-i.index.entries x) (number_in c.put_first.new.index.entries x) (place_from 0 c.args.files.now x)
    (omega arith) c.index-files-i.is c.as_slice.ensures (c.in_ok-put_first.ensures x) (c.loop-i.invariant x)
