use Rattle.std.proofs.Common.{length}
use Rattle.bds_lib.proofs.SearchLaws.{Cut}
use Rattle.bds_lib.proofs.searching.split.Given as goal

abbrev pub invariant-loop-at : goal.invariant-loop-at
invariant-loop-at l = Cut l.part l.text l.items l.rest

abbrev pub decreases-loop-at : goal.decreases-loop-at
decreases-loop-at l = length l.rest
