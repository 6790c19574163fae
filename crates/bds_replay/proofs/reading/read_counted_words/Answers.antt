use Rattle.std.proofs.Common.{◌≡◌, ◌++◌, ◌∷◌, [], Err, rules}
use Rattle.bds_value.specs.Reading.{many}
use Rattle.bds_value.proofs.ReadLaws.{goes_on, ends, Reads-stop}
use Rattle.bds_value.specs.declared.TheConstants.{MAX_TEXT}
use Rattle.bds_replay.specs.Longs.{long_at}
use Rattle.bds_replay.proofs.reading.read_counted_words.Goals as goal

pub returns-in_err-read_long-clause-read : goal.returns-in_err-read_long-clause-read
returns-in_err-read_long-clause-read c =
    let fault = c.in_err-read_long.field-0.0 in
    let total = many (long_at MAX_TEXT) c.args.count c.args.input.now in
    let is : c.from_residual.result ≡ Err fault = search rules in
    Reads-stop ((long_at MAX_TEXT) c.loop.input) total c.read_long.new.input fault c.from_residual.result is
    (λ e. ends
    (long_at MAX_TEXT) fault c.loop.words c.args.count c.loop.counter c.loop.input total c.loop-test.true e
    c.loop.invariant.read) c.in_err-read_long.ensures.read

pub loop-preserved : goal.loop-preserved
loop-preserved c =
    let pushed : c.push.new.self ≡ c.loop.words ++ c.in_ok-read_long.field-0 ∷ [] = search rules in
    record {
      read = rw pushed
          (goes_on
          (long_at MAX_TEXT) c.loop.words c.args.count c.loop.counter c.loop.input c.in_ok-read_long.field-0
          c.read_long.new.input
          (many (long_at MAX_TEXT) c.args.count c.args.input.now) c.loop-test.true c.in_ok-read_long.ensures.read
          c.loop.invariant.read);
      kept = search rules;
    }
