use Rattle.std.proofs.Common.{◌≡◌, ◌++◌, ◌∷◌, [], Err, rules}
use Rattle.bds_value.specs.Reading.{many}
use Rattle.bds_code.specs.UnitReading.{function_at}
use Rattle.bds_value.proofs.ReadLaws.{goes_on, ends, Reads-stop}
use Rattle.bds_code.proofs.fields.units.read_counted_functions.Goals as goal

pub returns-in_err-read_function-clause-read : goal.returns-in_err-read_function-clause-read
returns-in_err-read_function-clause-read c =
    let fault = c.in_err-read_function.field-0.0 in
    let total = many function_at c.args.count c.args.input.now in
    let is : c.from_residual.result ≡ Err fault = search rules in
    Reads-stop (function_at c.loop.input) total c.read_function.new.input fault c.from_residual.result is
    (λ e. ends function_at fault c.loop.functions c.args.count c.loop.counter c.loop.input total c.loop-test.true e c.loop.invariant.read) c.in_err-read_function.ensures.read

pub loop-preserved : goal.loop-preserved
loop-preserved c =
    let pushed : c.push.new.self ≡ c.loop.functions ++ c.in_ok-read_function.field-0 ∷ [] = search rules in
    record {
      read = rw pushed (goes_on function_at c.loop.functions c.args.count c.loop.counter c.loop.input c.in_ok-read_function.field-0 c.read_function.new.input (many function_at c.args.count c.args.input.now) c.loop-test.true c.in_ok-read_function.ensures.read c.loop.invariant.read);
      kept = search rules;
    }
