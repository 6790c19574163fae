use Rattle.std.proofs.Common.{◌≡◌, ◌++◌, ◌∷◌, [], Err, rules}
use Rattle.bds_value.specs.Reading.{many, bool_at}
use Rattle.bds_value.proofs.ReadLaws.{goes_on, ends, stopped}
use Rattle.bds_code.proofs.fields.reading.read_counted_kinds.Goals as goal

pub returns-in_err-read_bool-clause-read : goal.returns-in_err-read_bool-clause-read
returns-in_err-read_bool-clause-read c =
    let fault = c.in_err-read_bool.field-0.0 in
    let total = many bool_at c.args.count c.args.input.now in
    let is : c.from_residual.result ≡ Err fault = search rules in
    stopped total c.read_bool.new.input fault c.from_residual.result is
    (ends bool_at fault c.loop.kinds c.args.count c.loop.counter c.loop.input total c.loop-test.true c.in_err-read_bool.ensures.read c.loop.invariant.read)

pub loop-preserved : goal.loop-preserved
loop-preserved c =
    let pushed : c.push.new.self ≡ c.loop.kinds ++ c.in_ok-read_bool.field-0 ∷ [] = search rules in
    record {
      read = rw pushed (goes_on bool_at c.loop.kinds c.args.count c.loop.counter c.loop.input c.in_ok-read_bool.field-0 c.read_bool.new.input (many bool_at c.args.count c.args.input.now) c.loop-test.true c.in_ok-read_bool.ensures.read c.loop.invariant.read);
      kept = search rules;
    }
