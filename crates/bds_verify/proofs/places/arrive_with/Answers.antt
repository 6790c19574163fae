use Rattle.std.specs.Option.{option_copied}
use Rattle.bds_verify.proofs.ArriveLaws.{same_came}
use Rattle.bds_verify.proofs.places.arrive_with.Goals as goal

pub returns-clause-same : goal.returns-clause-same
returns-clause-same c = same_came (option_copied c.args.declared) c.args.came c.arrive.result c.arrive.ensures
