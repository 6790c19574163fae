use Rattle.std.proofs.Common.{◌≡◌, ◌++◌, ◌∷◌, [], Err, rules}
use Rattle.bds_value.specs.Reading.{many}
use Rattle.bds_code.specs.UnitReading.{line_at}
use Rattle.bds_value.proofs.ReadLaws.{goes_on, ends, stopped}
use Rattle.bds_code.proofs.fields.reading.read_lines.Goals as goal

pub returns-in_err-read_line-clause-read : goal.returns-in_err-read_line-clause-read
returns-in_err-read_line-clause-read c =
    let fault = c.in_err-read_line.field-0.0 in
    let total = many line_at c.args.count c.args.input.now in
    let is : c.from_residual.result ≡ Err fault = search rules in
    stopped total c.read_line.new.input fault c.from_residual.result is
    (ends line_at fault c.loop.lines c.args.count c.loop.counter c.loop.input total c.loop-test.true c.in_err-read_line.ensures.read c.loop.invariant.read)

pub loop-preserved : goal.loop-preserved
loop-preserved c =
    let pushed : c.push.new.self ≡ c.loop.lines ++ c.in_ok-read_line.field-0 ∷ [] = search rules in
    record {
      read = rw pushed (goes_on line_at c.loop.lines c.args.count c.loop.counter c.loop.input c.in_ok-read_line.field-0 c.read_line.new.input (many line_at c.args.count c.args.input.now) c.loop-test.true c.in_ok-read_line.ensures.read c.loop.invariant.read);
      kept = search rules;
    }
