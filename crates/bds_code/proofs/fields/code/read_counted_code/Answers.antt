use Rattle.std.proofs.Common.{◌≡◌, ◌++◌, ◌∷◌, [], Err, rules}
use Rattle.bds_value.specs.Reading.{many}
use Rattle.bds_code.specs.UnitReading.{instr_at}
use Rattle.bds_value.proofs.ReadLaws.{goes_on, ends, Reads-stop}
use Rattle.bds_code.proofs.fields.code.read_counted_code.Goals as goal

pub returns-in_err-read_instr-clause-read : goal.returns-in_err-read_instr-clause-read
returns-in_err-read_instr-clause-read c =
    let fault = c.in_err-read_instr.field-0.0 in
    let total = many instr_at c.args.count c.args.input.now in
    let is : c.from_residual.result ≡ Err fault = search rules in
    Reads-stop (instr_at c.loop.input) total c.read_instr.new.input fault c.from_residual.result is
    (λ e. ends instr_at fault c.loop.code c.args.count c.loop.counter c.loop.input total c.loop-test.true e c.loop.invariant.read) c.in_err-read_instr.ensures.read

pub loop-preserved : goal.loop-preserved
loop-preserved c =
    let pushed : c.push.new.self ≡ c.loop.code ++ c.in_ok-read_instr.field-0 ∷ [] = search rules in
    record {
      read = rw pushed (goes_on instr_at c.loop.code c.args.count c.loop.counter c.loop.input c.in_ok-read_instr.field-0 c.read_instr.new.input (many instr_at c.args.count c.args.input.now) c.loop-test.true c.in_ok-read_instr.ensures.read c.loop.invariant.read);
      kept = search rules;
    }
