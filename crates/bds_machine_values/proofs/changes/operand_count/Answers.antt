use Rattle.std.proofs.lemmas.Option.{slice_get-get_or}
use Rattle.bds_machine_values.proofs.Taking.{within}
use Rattle.bds_machine_values.specs.Updates.{operand_counts}
use Rattle.bds_machine_values.proofs.changes.operand_count.Goals as goal

pub bounds-what : goal.bounds-what
bounds-what c = within operand_counts c.args.what c.requires

pub returns : goal.returns
returns c = slice_get-get_or operand_counts c.args.what _ (within operand_counts c.args.what c.requires)
