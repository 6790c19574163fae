use Rattle.std.proofs.Common.{length}
use Rattle.bds_levels.proofs.changing.+raise.Given as goal

abbrev pub decreases-raise : goal.decreases-raise
decreases-raise l = length l.above.now
