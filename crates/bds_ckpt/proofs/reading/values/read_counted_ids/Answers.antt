use Rattle.std.proofs.Common.{◌≡◌, ◌++◌, ◌∷◌, [], Err, rules}
use Rattle.bds_value.specs.Reading.{many}
use Rattle.bds_ckpt.specs.ThreadReading.{id_at}
use Rattle.bds_value.proofs.ReadLaws.{goes_on, ends, stopped}
use Rattle.bds_ckpt.proofs.reading.values.read_counted_ids.Goals as goal

pub returns-in_err-read_id-clause-read : goal.returns-in_err-read_id-clause-read
returns-in_err-read_id-clause-read c =
    let fault = c.in_err-read_id.field-0.0 in
    let total = many id_at c.args.count c.args.input.now in
    let is : c.from_residual.result ≡ Err fault = search rules in
    stopped total c.read_id.new.input fault c.from_residual.result is
    (ends id_at fault c.loop.ids c.args.count c.loop.counter c.loop.input total c.loop-test.true c.in_err-read_id.ensures.read c.loop.invariant.read)

pub loop-preserved : goal.loop-preserved
loop-preserved c =
    let pushed : c.push.new.self ≡ c.loop.ids ++ c.in_ok-read_id.field-0 ∷ [] = search rules in
    record {
      read = rw pushed (goes_on id_at c.loop.ids c.args.count c.loop.counter c.loop.input c.in_ok-read_id.field-0 c.read_id.new.input (many id_at c.args.count c.args.input.now) c.loop-test.true c.in_ok-read_id.ensures.read c.loop.invariant.read);
      kept = search rules;
    }
