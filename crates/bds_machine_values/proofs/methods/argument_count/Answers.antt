use Rattle.std.proofs.lemmas.Option.{slice_get-get_or}
use Rattle.bds_machine_values.proofs.Taking.{within}
use Rattle.bds_machine_values.specs.Values.{argument_counts}
use Rattle.bds_machine_values.proofs.methods.argument_count.Goals as goal

pub bounds-method : goal.bounds-method
bounds-method c = within argument_counts c.args.method c.requires

pub returns : goal.returns
returns c = slice_get-get_or argument_counts c.args.method _ (within argument_counts c.args.method c.requires)
