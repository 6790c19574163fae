use Rattle.std.specs.Option.{option_copied}
use Rattle.bds_verify.proofs.ArriveLaws.{begun_known}
use Rattle.bds_verify.proofs.places.arrive_without.Goals as goal

pub returns-clause-knows : goal.returns-clause-knows
returns-clause-knows c = begun_known (option_copied c.args.declared) c.args.place c.args.numbers.now c.begin.new.numbers
    c.arrive.result c.arrive.ensures c.begin.ensures
