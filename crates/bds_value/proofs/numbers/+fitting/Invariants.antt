use Rattle.std.proofs.Common.{◌+◌, ◌*◌, take, All}
use denote.Param.Weighed.{most}
use Rattle.bds_value.specs.Fields.{NumbersFit, PairNumbersFit}
use Rattle.bds_value.proofs.value.Value.TheLaws.{the_size}
use Rattle.bds_value.proofs.Passed.{Passed, pairs_size}
use Rattle.bds_value.proofs.numbers.+fitting.Given as goal

abbrev pub decreases-numbers_fit : goal.decreases-numbers_fit
decreases-numbers_fit l = 2 * the_size l.value.now + 0

abbrev pub decreases-items_fit : goal.decreases-items_fit
decreases-items_fit l = 2 * most the_size l.items.now + 1

abbrev pub decreases-pairs_fit : goal.decreases-pairs_fit
decreases-pairs_fit l = 2 * pairs_size l.pairs.now + 1

abbrev pub invariant-items_fit-loop-item : goal.invariant-items_fit-loop-item
invariant-items_fit-loop-item l = All NumbersFit (take l.item-index l.items)

abbrev pub invariant-pairs_fit-loop-value : goal.invariant-pairs_fit-loop-value
invariant-pairs_fit-loop-value l = Passed (All PairNumbersFit) l.pairs l.value-iterator
