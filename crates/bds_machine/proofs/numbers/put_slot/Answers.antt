use Rattle.bds_value.specs.declared.value.Value.TheVariants as value
use Rattle.bds_code_frames.specs.Stack.{stack}
use Rattle.bds_machine.proofs.Resting.{slot_there}
use Rattle.bds_machine.proofs.numbers.put_slot.Goals as goal

pub set_number-requires : goal.set_number-requires
set_number-requires c = slot_there c.args.slot (value.Int c.args.n) (stack c.args.frames.now) c.requires
