use Rattle.bds_code_frames.specs.Stack.{stack}
use Rattle.bds_machine_values.proofs.Pairing.{pairs_there}
use Rattle.bds_machine_values.proofs.literals.map_made.Goals as goal

pub take_pairs-requires : goal.take_pairs-requires
take_pairs-requires c = pairs_there c.args.ty.now c.args.count (stack c.args.frames.now) c.requires
