use Rattle.bds_verify.proofs.places.check_row.Goals as goal

pub check_behind-requires-clause-knows : goal.check_behind-requires-clause-knows
check_behind-requires-clause-knows c = c.in-Ok.ensures.knows c.args.function.now.labels c.requires.knows
