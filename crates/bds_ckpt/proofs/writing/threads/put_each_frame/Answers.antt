use Rattle.std.proofs.Common.{arith}
use Rattle.bds_ckpt.proofs.Writes.{one_frame}
use Rattle.bds_ckpt.proofs.writing.threads.put_each_frame.Goals as goal

pub loop-i-preserved : goal.loop-i-preserved
loop-i-preserved c = one_frame c.args.out.now.items c.loop-i.out.items c.put_frame.new.out.items c.args.frames.now c.loop-i.i (omega (arith, c.loop-i-test.true, c.count-i-end.ensures)) c.loop-i.invariant c.in_ok-put_frame.ensures
