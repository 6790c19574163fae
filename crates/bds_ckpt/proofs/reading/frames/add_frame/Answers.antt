use Rattle.std.proofs.lemmas.Result.{on_ok_weaker}
use Rattle.bds_code_frames.specs.Stack.{stack}
use Rattle.bds_ckpt.specs.Adding.{begun}
use Rattle.bds_ckpt.proofs.FrameLists.{added, newest_there}
use Rattle.bds_ckpt.proofs.reading.frames.add_frame.Goals as goal

pub add_operands-requires : goal.add_operands-requires
add_operands-requires c = newest_there (stack c.open_frame.new.frames) (stack c.args.frames.now) (begun c.args.frame.function c.args.frame.place c.args.frame.slots) c.in_ok-open_frame.ensures

pub returns : goal.returns
returns c = on_ok_weaker c.add_operands.result (λ e. added c.args.frames.now c.open_frame.new.frames c.add_operands.new.frames c.args.frame c.in_ok-open_frame.ensures e) c.add_operands.ensures
