use Rattle.std.proofs.Common.{◌+◌, ◌*◌, length}
use Rattle.bds_machine_values.proofs.updates.+change.Given as goal

-- each step is taken by five calls at most

abbrev pub decreases-change_at : goal.decreases-change_at
decreases-change_at l = 5 * length l.path.now

abbrev pub decreases-change_at_index : goal.decreases-change_at_index
decreases-change_at_index l = 5 * length l.rest.now + 4

abbrev pub decreases-change_item : goal.decreases-change_item
decreases-change_item l = 5 * length l.rest.now + 3

abbrev pub decreases-change_own_item : goal.decreases-change_own_item
decreases-change_own_item l = 5 * length l.rest.now + 2

abbrev pub decreases-change_at_key : goal.decreases-change_at_key
decreases-change_at_key l = 5 * length l.rest.now + 4

abbrev pub decreases-change_entry : goal.decreases-change_entry
decreases-change_entry l = 5 * length l.rest.now + 3

abbrev pub decreases-change_own_entry : goal.decreases-change_own_entry
decreases-change_own_entry l = 5 * length l.rest.now + 2

abbrev pub decreases-change_held : goal.decreases-change_held
decreases-change_held l = 5 * length l.rest.now + 1
