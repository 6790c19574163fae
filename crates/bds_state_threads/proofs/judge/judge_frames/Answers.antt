use Rattle.std.proofs.Common.{arith}
use Rattle.std.proofs.lemmas.Option.{slice_get_within}
use Rattle.bds_state_threads.proofs.Unique.{first-bad, more-frames}
use Rattle.bds_state_threads.proofs.judge.judge_frames.Goals as goal

pub returns-then-not-fits : goal.returns-then-not-fits
returns-then-not-fits c =
    first-bad c.args.unit.now c.args.frames.now c.loop-i.i c.in-Ok.fits (omega (arith, c.loop-i-test.true, c.count-i-end.ensures)) c.in-Ok.ensures c.if-not-fits.true c.loop-i.invariant

pub loop-i-preserved : goal.loop-i-preserved
loop-i-preserved c = more-frames c.args.unit.now c.args.frames.now c.loop-i.i c.in-Ok.fits c.in-Ok.ensures c.if-not-fits.false c.loop-i.invariant

pub returns : goal.returns
returns c = λ n x e. c.loop-i.invariant n x (omega (arith, slice_get_within c.args.frames.now n x e, c.loop-i-test.false, c.count-i-end.ensures)) e
