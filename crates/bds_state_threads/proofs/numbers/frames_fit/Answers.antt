use Rattle.std.proofs.Common.{arith}
use Rattle.std.proofs.lemmas.Option.{slice_get_within}
use Rattle.bds_state_threads.specs.Numbers.{FrameFits}
use Rattle.bds_state_threads.proofs.Wide.{one-more}
use Rattle.bds_state_threads.proofs.Written.{all-at}
use Rattle.bds_state_threads.proofs.numbers.frames_fit.Goals as goal

pub loop-i-preserved : goal.loop-i-preserved
loop-i-preserved c = one-more FrameFits c.args.frames.now c.loop-i.i c.loop-i.invariant c.frame_fits.ensures

pub returns : goal.returns
returns c = all-at FrameFits c.args.frames.now (λ n x e. c.loop-i.invariant n (omega (arith, slice_get_within c.args.frames.now n x e, c.loop-i-test.false, c.count-i-end.ensures)) x e)
