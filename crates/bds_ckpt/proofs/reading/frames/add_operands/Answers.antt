use Rattle.std.proofs.Common.{◌++◌, ◌∷◌, [], rules}
use Rattle.bds_code_frames.specs.Stack.{stack}
use Rattle.bds_ckpt.proofs.FrameLists.{operand_more, one_done}
use Rattle.bds_ckpt.proofs.reading.frames.add_operands.Goals as goal

pub loop-value-preserved : goal.loop-value-preserved
loop-value-preserved c =
    let done = c.loop-value.invariant.0 in (
      done ++ c.in-Some.value ∷ [],
      operand_more done (stack c.args.frames.now) (stack c.loop-value.frames) (stack c.add_operand.new.self) c.in-Some.value c.loop-value.invariant.1 c.requires c.in_ok-add_operand.ensures.ok,
      search (rules, one_done),
    )
