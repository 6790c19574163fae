use Rattle.bds_check.proofs.Parameters.{twice_where_fewer}
use Rattle.bds_check.proofs.functions.any_twice.Goals as goal

pub returns : goal.returns
returns c = rw (c.len.ensures, c.requires) (twice_where_fewer c.args.parameters.now)
