use Rattle.std.proofs.Common.{◌≡◌, ◌+◌, ◌/◌, Some, rules}
use Rattle.bds_levels.specs.Least.{IsLarge, halved, place_from}
use Rattle.bds_levels.proofs.FromLaws.{from_there}
use Rattle.bds_levels.proofs.finding.+find_from.Goals as goal

pub below_from-requires-clause-there : goal.below_from-requires-clause-there
below_from-requires-clause-there t c =
    let found : place_from ((c.args.at + 1) / 2) c.args.most (halved c.args.lower.now) ≡ Some c.in-Some.over = search rules in
    let large : IsLarge c.args.at c.args.most c.args.lower.now = search rules in
    from_there c.args.at c.args.most c.args.lower.now c.in-Some.over large found
