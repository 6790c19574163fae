use Rattle.bds_code_frames.specs.Stack.{stack}
use Rattle.bds_machine.proofs.Anywhere.{behind_there}
use Rattle.bds_machine.proofs.table.row.Goals as goal

pub behind-requires : goal.behind-requires
behind-requires c =
    let other = c.in_default in
    behind_there c.args.unit.now c.args.function.now c.args.at c.args.globals.now c.args.ticks.now c.args.instr.now (stack c.args.frames.now) (stack c.set_place-in_default.new.self)
    other.not-Jump other.not-Tick other.not-Call other.not-Return c.set_place-in_default.ensures c.requires.fine
