use Rattle.std.proofs.Common.{◌<◌, length, arith}
use Rattle.bds_value.specs.declared.TheConstants.{MAX_CALLS}
use Rattle.bds_code_frames.specs.Stack.{stack}
use Rattle.bds_machine.proofs.Entering.{heading, length-stack, function_there, enters_there}
use Rattle.bds_machine.proofs.calls.call.Goals as goal

pub function_at-called-requires : goal.function_at-called-requires
function_at-called-requires c =
    let few : length (stack c.args.frames.now) < MAX_CALLS = omega (arith, length-stack c.args.frames.now) in
    function_there c.args.unit.now c.args.function.now c.args.callee c.args.place (stack c.args.frames.now) c.args.ticks.now few c.if-ticks-eq0.false c.requires.fine

pub enter-requires-clause-whole : goal.enter-requires-clause-whole
enter-requires-clause-whole c = heading c.args.unit.now c.args.callee c.function_at-called.result.now c.requires.verified c.function_at-called.ensures

pub enter-requires-clause-fine : goal.enter-requires-clause-fine
enter-requires-clause-fine c =
    let few : length (stack c.args.frames.now) < MAX_CALLS = omega (arith, length-stack c.args.frames.now) in
    enters_there c.args.unit.now c.args.function.now c.args.callee c.args.place (stack c.args.frames.now) c.args.ticks.now few c.if-ticks-eq0.false c.function_at-called.result.now c.function_at-called.ensures c.requires.fine
