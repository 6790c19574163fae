use Rattle.std.proofs.Common.{◌+◌, ◌*◌, length}
use Rattle.bds_value.proofs.storing.+put.Given as goal

-- a path gets shorter at each step

abbrev pub decreases-put_at : goal.decreases-put_at
decreases-put_at l = 6 * length l.path.now

abbrev pub decreases-put_at_index : goal.decreases-put_at_index
decreases-put_at_index l = 6 * length l.rest.now + 4

abbrev pub decreases-put_at_key : goal.decreases-put_at_key
decreases-put_at_key l = 6 * length l.rest.now + 5

abbrev pub decreases-put_item : goal.decreases-put_item
decreases-put_item l = 6 * length l.rest.now + 3

abbrev pub decreases-put_own_item : goal.decreases-put_own_item
decreases-put_own_item l = 6 * length l.rest.now + 2

abbrev pub decreases-put_pair : goal.decreases-put_pair
decreases-put_pair l = 6 * length l.rest.now + 4

abbrev pub decreases-put_own_pair : goal.decreases-put_own_pair
decreases-put_own_pair l = 6 * length l.rest.now + 3

abbrev pub decreases-put_further : goal.decreases-put_further
decreases-put_further l = 6 * length l.rest.now + 2

abbrev pub decreases-put_held : goal.decreases-put_held
decreases-put_held l = 6 * length l.rest.now + 1
