use Rattle.std.proofs.Common.{◌+◌, []}
use Rattle.bds_code_frames.specs.Stack.{stack}
use Rattle.bds_machine.proofs.Stretching.{runs_moved, jump_leads, tick_leads}
use Rattle.bds_machine.proofs.running.quick.Goals as goal

pub count-requires : goal.count-requires
count-requires c = runs_moved c.args.function.now c.args.at [] c.args.globals.now (stack c.args.frames.now) (c.args.at + 1) c.requires.runs

pub returns-in-Tick-clause-done : goal.returns-in-Tick-clause-done
returns-in-Tick-clause-done c is =
    let g = c.args.globals.now in
    tick_leads c.args.function.now c.args.at c.args.instr.now g c.args.ticks.now c.requires.here (stack c.args.frames.now) (stack c.count.new.frames) c.count.new.ticks c.in-Tick.is (c.count.ensures.done is g)

pub set_place-requires : goal.set_place-requires
set_place-requires c = runs_moved c.args.function.now c.args.at [] c.args.globals.now (stack c.args.frames.now) c.in-Jump.to c.requires.runs

pub returns-in-Jump-clause-done : goal.returns-in-Jump-clause-done
returns-in-Jump-clause-done c is =
    jump_leads c.args.function.now c.args.at c.args.instr.now c.args.globals.now c.args.ticks.now c.requires.here c.in-Jump.to (stack c.args.frames.now) (stack c.set_place.new.self) c.in-Jump.is c.set_place.ensures
