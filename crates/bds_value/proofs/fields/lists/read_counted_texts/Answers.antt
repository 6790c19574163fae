use Rattle.std.proofs.Common.{◌≡◌, ◌++◌, ◌∷◌, [], Err, rules}
use Rattle.bds_value.specs.Reading.{many, text_at}
use Rattle.bds_value.proofs.ReadLaws.{goes_on, ends, Reads-stop}
use Rattle.bds_value.proofs.fields.lists.read_counted_texts.Goals as goal

pub returns-in_err-read_text-clause-read : goal.returns-in_err-read_text-clause-read
returns-in_err-read_text-clause-read c =
    let fault = c.in_err-read_text.field-0.0 in
    let total = many text_at c.args.count c.args.input.now in
    let is : c.from_residual.result ≡ Err fault = search rules in
    Reads-stop (text_at c.loop.input) total c.read_text.new.input fault c.from_residual.result is
    (λ e. ends text_at fault c.loop.texts c.args.count c.loop.counter c.loop.input total c.loop-test.true e c.loop.invariant.read) c.in_err-read_text.ensures.read

pub loop-preserved : goal.loop-preserved
loop-preserved c =
    let pushed : c.push.new.self ≡ c.loop.texts ++ c.in_ok-read_text.field-0 ∷ [] = search rules in
    record {
      read = rw pushed (goes_on text_at c.loop.texts c.args.count c.loop.counter c.loop.input c.in_ok-read_text.field-0 c.read_text.new.input (many text_at c.args.count c.args.input.now) c.loop-test.true c.in_ok-read_text.ensures.read c.loop.invariant.read);
      kept = search rules;
    }
