use Rattle.std.proofs.lemmas.Result.{IfOk-weaker}
use Rattle.bds_code_frames.specs.Stack.{stack}
use Rattle.bds_machine.proofs.Branches.{row_taken, step_there, small_place, value_there, look_there, look_taken}
use Rattle.bds_machine.proofs.running.plain.Goals as goal

pub look_ahead-requires-clause-small : goal.look_ahead-requires-clause-small
look_ahead-requires-clause-small c =
    small_place c.args.unit.now c.args.number c.args.at c.args.function.now c.args.globals.now (stack c.args.frames.now) c.args.ticks.now c.requires.place c.requires.function c.args.instr.now c.requires.here c.requires.verified

pub look_ahead-requires-clause-there : goal.look_ahead-requires-clause-there
look_ahead-requires-clause-there c =
    value_there c.args.unit.now c.args.number c.args.at c.args.function.now c.args.globals.now (stack c.args.frames.now) c.args.ticks.now c.requires.place c.requires.function c.args.instr.now c.requires.here c.requires.fine

pub step-requires-clause-fine : goal.step-requires-clause-fine
step-requires-clause-fine c =
    step_there c.args.unit.now c.args.number c.args.at c.args.function.now c.args.globals.now (stack c.args.frames.now) c.args.ticks.now c.requires.place c.requires.function c.requires.fine

pub look_at-requires-clause-small : goal.look_at-requires-clause-small
look_at-requires-clause-small c =
    small_place c.args.unit.now c.args.number c.args.at c.args.function.now c.args.globals.now (stack c.args.frames.now) c.args.ticks.now c.requires.place c.requires.function c.args.instr.now c.requires.here c.requires.verified

pub look_at-requires-clause-fine : goal.look_at-requires-clause-fine
look_at-requires-clause-fine c =
    look_there c.args.unit.now c.args.number c.args.at c.args.function.now c.args.globals.now (stack c.args.frames.now) c.args.ticks.now c.requires.place c.requires.function c.args.instr.now c.requires.here c.in-Some.ahead c.in-Some.ensures c.requires.fine

pub returns-in-None : goal.returns-in-None
returns-in-None c =
    IfOk-weaker c.step.result _ _
    (λ p h. row_taken c.args.unit.now c.args.number c.args.at c.args.function.now c.args.globals.now (stack c.args.frames.now) c.args.ticks.now c.requires.place c.requires.function c.step.new.globals (stack c.step.new.frames) c.step.new.ticks p h)
    c.step.ensures

pub returns-in-Some : goal.returns-in-Some
returns-in-Some c =
    IfOk-weaker c.look_at.result _ _
    (λ p h. look_taken c.args.unit.now c.args.number c.args.at c.args.function.now c.args.globals.now (stack c.args.frames.now) c.args.ticks.now c.requires.place c.requires.function c.args.instr.now c.requires.here c.in-Some.ahead c.in-Some.ensures (stack c.look_at.new.frames) p h)
    c.look_at.ensures
