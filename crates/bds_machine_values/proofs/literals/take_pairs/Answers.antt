use Rattle.bds_code_frames.specs.Stack.{stack}
use Rattle.bds_machine_values.proofs.Pairing.{value_held, text_held, text_taken, filled_on}
use Rattle.bds_machine_values.proofs.literals.take_pairs.Goals as goal

pub take_operand-value-requires : goal.take_operand-value-requires
take_operand-value-requires c = value_held c.args.count c.loop.counter (stack c.args.frames.now) (stack c.loop.frames) c.loop.made c.requires c.loop.invariant c.loop-test.true

pub take_text-key-requires : goal.take_text-key-requires
take_text-key-requires c =
    text_held c.args.count c.loop.counter (stack c.args.frames.now) (stack c.loop.frames) (stack c.take_operand-value.new.self) c.loop.made c.take_operand-value.result c.requires c.loop.invariant c.loop-test.true c.take_operand-value.ensures

pub loop-preserved : goal.loop-preserved
loop-preserved c =
    let mid = stack c.take_operand-value.new.self in
    let next = stack c.take_text-key.new.frames in
    let key = text_taken mid next c.take_text-key.result c.take_text-key.ensures in
    filled_on c.loop.counter (stack c.args.frames.now) (stack c.loop.frames) mid next c.loop.made c.put_missing.new.made key.0 c.take_operand-value.result c.take_text-key.result c.loop.invariant c.take_operand-value.ensures key.1 key.2
    c.in_ok-put_missing.ensures.pair c.in_ok-put_missing.ensures.rise
