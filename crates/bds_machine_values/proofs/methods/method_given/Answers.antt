use Rattle.bds_machine_values.specs.Results.{called}
use Rattle.bds_machine_values.proofs.Updating.{some_first}
use Rattle.bds_machine_values.proofs.methods.method_given.Goals as goal

pub result_of-requires : goal.result_of-requires
result_of-requires c =
    some_first (called c.args.method c.take_operand-receiver.result c.in_ok-args.args) _
    (rw (c.argument_count.ensures, c.in_ok-args.ensures, c.take_operand-receiver.ensures) at c.requires)
