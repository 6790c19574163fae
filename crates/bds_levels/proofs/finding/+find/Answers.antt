use Rattle.std.proofs.Common.{◌≡◌, Some, rules}
use Rattle.bds_levels.specs.Least.{place, halved}
use Rattle.bds_levels.proofs.PlaceLaws.{below_there}
use Rattle.bds_levels.proofs.finding.+find.Goals as goal

pub below-requires-clause-there : goal.below-requires-clause-there
below-requires-clause-there t c =
    let found : place c.args.most (halved c.args.lower.now) ≡ Some c.in-Some.at = search rules in
    below_there c.args.most c.args.lower.now c.in-Some.at found
