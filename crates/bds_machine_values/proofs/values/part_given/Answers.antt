use Rattle.bds_machine_values.specs.Results.{part_of}
use Rattle.bds_machine_values.proofs.Updating.{some_first}
use Rattle.bds_machine_values.proofs.values.part_given.Goals as goal

pub part-requires : goal.part-requires
part-requires c = some_first (part_of c.args.place c.take_operand-value.result) _ (rw c.take_operand-value.ensures at c.requires)
