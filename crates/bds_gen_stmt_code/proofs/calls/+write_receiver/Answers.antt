use Rattle.std.proofs.Common.{true, false}
use Rattle.std.proofs.lemmas.Result.{on_ok_weaker}
use Rattle.bds_gen_stmt_code.proofs.Writing.{item_steps, key_steps, receiver_shape, receiver_kinds}
use Rattle.bds_gen_stmt_code.proofs.calls.+write_receiver.Goals as goal

pub returns-in_ok-write_receiver-in-Item-clause-shape : goal.returns-in_ok-write_receiver-in-Item-clause-shape
returns-in_ok-write_receiver-in-Item-clause-shape t c =
    on_ok_weaker c.write_step.result
    (λ e. receiver_shape c.args.receiver.now c.in-Item.list c.get.result.now false c.args.shape.now c.write_receiver.new.shape c.write_step.new.shape (item_steps c.args.receiver.now c.in-Item.list c.in-Item.index c.in-Item.is) c.get.ensures c.in_ok-write_receiver-in-Item.ensures.shape e)
    c.write_step.ensures.shape

pub returns-in_ok-write_receiver-in-Item-clause-kinds : goal.returns-in_ok-write_receiver-in-Item-clause-kinds
returns-in_ok-write_receiver-in-Item-clause-kinds t c =
    on_ok_weaker c.write_step.result
    (λ e. receiver_kinds c.args.receiver.now c.in-Item.list c.get.result.now false c.args.kinds.now c.write_receiver.new.kinds c.write_step.new.kinds (item_steps c.args.receiver.now c.in-Item.list c.in-Item.index c.in-Item.is) c.get.ensures c.in_ok-write_receiver-in-Item.ensures.kinds e)
    c.write_step.ensures.kinds

pub returns-in_ok-write_receiver-in-Key-clause-shape : goal.returns-in_ok-write_receiver-in-Key-clause-shape
returns-in_ok-write_receiver-in-Key-clause-shape t c =
    on_ok_weaker c.write_step-in-Key.result
    (λ e. receiver_shape c.args.receiver.now c.in-Key.map c.get-in-Key.result.now true c.args.shape.now c.write_receiver-in-Key.new.shape c.write_step-in-Key.new.shape (key_steps c.args.receiver.now c.in-Key.map c.in-Key.key c.in-Key.is) c.get-in-Key.ensures c.in_ok-write_receiver-in-Key.ensures.shape e)
    c.write_step-in-Key.ensures.shape

pub returns-in_ok-write_receiver-in-Key-clause-kinds : goal.returns-in_ok-write_receiver-in-Key-clause-kinds
returns-in_ok-write_receiver-in-Key-clause-kinds t c =
    on_ok_weaker c.write_step-in-Key.result
    (λ e. receiver_kinds c.args.receiver.now c.in-Key.map c.get-in-Key.result.now true c.args.kinds.now c.write_receiver-in-Key.new.kinds c.write_step-in-Key.new.kinds (key_steps c.args.receiver.now c.in-Key.map c.in-Key.key c.in-Key.is) c.get-in-Key.ensures c.in_ok-write_receiver-in-Key.ensures.kinds e)
    c.write_step-in-Key.ensures.kinds
