use Rattle.std.proofs.lemmas.Result.{IfOk-weaker}
use Rattle.bds_code_frames.specs.Stack.{stack}
use Rattle.bds_machine.proofs.Branches.{small_place}
use Rattle.bds_machine.proofs.Turning.{call_there, call_taken, return_there, return_taken}
use Rattle.bds_machine.proofs.running.turn.Goals as goal

pub call-requires-clause-small : goal.call-requires-clause-small
call-requires-clause-small c =
    small_place c.args.unit.now c.args.number c.args.at c.args.function.now c.args.globals.now (stack c.args.frames.now) c.args.ticks.now c.requires.place c.requires.function c.args.instr.now c.requires.here c.requires.verified

pub call-requires-clause-fine : goal.call-requires-clause-fine
call-requires-clause-fine c =
    call_there c.args.unit.now c.args.number c.args.at c.args.function.now c.args.globals.now (stack c.args.frames.now) c.args.ticks.now c.requires.place c.requires.function c.args.instr.now c.requires.here c.in-Call.callee c.in-Call.is c.requires.fine

pub leave-requires : goal.leave-requires
leave-requires c =
    return_there c.args.unit.now c.args.number c.args.at c.args.function.now c.args.globals.now (stack c.args.frames.now) c.args.ticks.now c.requires.place c.requires.function c.args.instr.now c.requires.here c.in-Return.is c.requires.fine

pub returns-in-Call : goal.returns-in-Call
returns-in-Call c =
    IfOk-weaker c.call.result _ _
    (λ p h. call_taken c.args.unit.now c.args.number c.args.at c.args.function.now c.args.globals.now (stack c.args.frames.now) c.args.ticks.now c.requires.place c.requires.function c.args.instr.now c.requires.here c.in-Call.callee c.in-Call.is (stack c.call.new.frames) c.call.new.ticks p h)
    c.call.ensures

pub returns-in-Return : goal.returns-in-Return
returns-in-Return c =
    IfOk-weaker c.leave.result _ _
    (λ p h. return_taken c.args.unit.now c.args.number c.args.at c.args.function.now c.args.globals.now (stack c.args.frames.now) c.args.ticks.now c.requires.place c.requires.function c.args.instr.now c.requires.here c.in-Return.is (stack c.leave.new.frames) p h)
    c.leave.ensures
