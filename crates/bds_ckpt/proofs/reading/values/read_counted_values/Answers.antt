use Rattle.std.proofs.Common.{◌≡◌, ◌++◌, ◌∷◌, [], Err, rules}
use Rattle.bds_value.specs.Reading.{many, value_at}
use Rattle.bds_value.proofs.ReadLaws.{goes_on, ends, Reads-stop}
use Rattle.bds_ckpt.proofs.reading.values.read_counted_values.Goals as goal

pub returns-in_err-read_value-clause-read : goal.returns-in_err-read_value-clause-read
returns-in_err-read_value-clause-read c =
    let fault = c.in_err-read_value.field-0.0 in
    let total = many value_at c.args.count c.args.input.now in
    let is : c.from_residual.result ≡ Err fault = search rules in
    Reads-stop (value_at c.loop.input) total c.read_value.new.input fault c.from_residual.result is
    (λ e. ends value_at fault c.loop.values c.args.count c.loop.counter c.loop.input total c.loop-test.true e c.loop.invariant.read) c.in_err-read_value.ensures.read

pub loop-preserved : goal.loop-preserved
loop-preserved c =
    let pushed : c.push.new.self ≡ c.loop.values ++ c.in_ok-read_value.field-0 ∷ [] = search rules in
    record {
      read = rw pushed (goes_on value_at c.loop.values c.args.count c.loop.counter c.loop.input c.in_ok-read_value.field-0 c.read_value.new.input (many value_at c.args.count c.args.input.now) c.loop-test.true c.in_ok-read_value.ensures.read c.loop.invariant.read);
      kept = search rules;
    }
