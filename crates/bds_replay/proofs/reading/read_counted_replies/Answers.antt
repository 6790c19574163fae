use Rattle.std.proofs.Common.{◌≡◌, ◌++◌, ◌∷◌, [], Err, rules}
use Rattle.bds_value.specs.Reading.{many}
use Rattle.bds_value.proofs.ReadLaws.{goes_on, ends, Reads-stop}
use Rattle.bds_replay.specs.Log.{reply_at}
use Rattle.bds_replay.proofs.reading.read_counted_replies.Goals as goal

pub returns-in_err-read_reply-clause-read : goal.returns-in_err-read_reply-clause-read
returns-in_err-read_reply-clause-read c =
    let fault = c.in_err-read_reply.field-0.0 in
    let total = many reply_at c.args.count c.args.input.now in
    let is : c.from_residual.result ≡ Err fault = search rules in
    Reads-stop (reply_at c.loop.input) total c.read_reply.new.input fault c.from_residual.result is
    (λ e. ends reply_at fault c.loop.replies c.args.count c.loop.counter c.loop.input total c.loop-test.true e
    c.loop.invariant.read) c.in_err-read_reply.ensures.read

pub loop-preserved : goal.loop-preserved
loop-preserved c =
    let pushed : c.push.new.self ≡ c.loop.replies ++ c.in_ok-read_reply.field-0 ∷ [] = search rules in
    record {
      read = rw pushed
          (goes_on reply_at c.loop.replies c.args.count c.loop.counter c.loop.input c.in_ok-read_reply.field-0
          c.read_reply.new.input
          (many reply_at c.args.count c.args.input.now) c.loop-test.true c.in_ok-read_reply.ensures.read
          c.loop.invariant.read);
      kept = search rules;
    }
