use Rattle.std.proofs.Common.{◌≡◌, ◌++◌, ◌∷◌, [], Err, arith, length-append, rules}
use Rattle.bds_value.specs.Reading.{many}
use Rattle.bds_value.proofs.ReadLaws.{goes_on, ends, Reads-stop}
use Rattle.bds_ckpt.specs.ThreadReading.{frame_at}
use Rattle.bds_ckpt.proofs.reading.frames.read_counted_frames.Goals as goal

pub returns-in_err-frame-clause-read : goal.returns-in_err-frame-clause-read
returns-in_err-frame-clause-read c =
    let fault = c.in_err-frame.field-0.0 in
    let total = many frame_at c.args.count c.args.input.now in
    let is : c.from_residual.result ≡ Err fault = search rules in
    Reads-stop (frame_at c.loop.input) total c.read_frame.new.input fault c.from_residual.result is
    (λ e. ends frame_at fault c.loop.frames c.args.count c.loop.counter c.loop.input total c.loop-test.true e c.loop.invariant.read) c.in_err-frame.ensures.read

pub add_frame-requires : goal.add_frame-requires
add_frame-requires c = omega (arith, c.loop.invariant.size, c.loop-test.true, c.ranges.count)

pub loop-preserved : goal.loop-preserved
loop-preserved c =
    let pushed : c.add_frame.new.frames ≡ c.loop.frames ++ c.in_ok-frame.frame ∷ [] = search rules in
    let size = length-append c.loop.frames (c.in_ok-frame.frame ∷ []) in
    record {
      read = rw pushed (goes_on frame_at c.loop.frames c.args.count c.loop.counter c.loop.input c.in_ok-frame.frame c.read_frame.new.input (many frame_at c.args.count c.args.input.now) c.loop-test.true c.in_ok-frame.ensures.read c.loop.invariant.read);
      kept = search rules;
      size = rw pushed (omega (arith, size, c.loop.invariant.size));
    }
