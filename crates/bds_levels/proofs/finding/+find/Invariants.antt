use Rattle.std.proofs.Common.{length}
use Rattle.bds_levels.proofs.finding.+find.Given as goal

abbrev pub decreases-find : goal.decreases-find
decreases-find l = length l.above.now
