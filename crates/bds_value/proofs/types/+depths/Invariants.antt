use Rattle.std.proofs.Common.{◌+◌, ◌*◌}
use Rattle.bds_value.proofs.types.+depths.Given as goal

abbrev pub decreases-is_deeper : goal.decreases-is_deeper
decreases-is_deeper l = 2 * l.most + 1

abbrev pub decreases-nests_deeper : goal.decreases-nests_deeper
decreases-nests_deeper l = 2 * l.most + 2
