use Rattle.std.proofs.Common.{◌≡◌, ◌++◌, ◌∷◌, [], Err, None, nat_lt, refl, rules}
use Rattle.bds_value.specs.Reading.{rising, u32_at}
use Rattle.bds_value.proofs.ReadLaws.{rising_goes_on, rising_key_ends}
use Rattle.bds_tasks.specs.Last.{last_number}
use Rattle.bds_tasks.specs.TaskFields.{number_of}
use Rattle.bds_value.proofs.ReadLaws.{stopped}
use Rattle.bds_tasks.proofs.LastLaws.{last_number-push}
use Rattle.bds_tasks.proofs.fields.read_counted_needs.Goals as goal

pub returns-in_err-need-clause-read : goal.returns-in_err-need-clause-read
returns-in_err-need-clause-read c =
    let fault = c.in_err-need.field-0.0 in
    let total = rising nat_lt u32_at number_of None c.args.count c.args.input.now in
    let is : c.from_residual.result ≡ Err fault = search rules in
    stopped total c.read_need.new.input fault c.from_residual.result is
    (rising_key_ends nat_lt u32_at number_of fault c.loop.needs (last_number c.loop.needs) c.args.count c.loop.counter c.loop.input total c.loop-test.true c.in_err-need.ensures.read c.loop.invariant.read)

pub loop-preserved : goal.loop-preserved
loop-preserved c =
    let pushed : c.push.new.self ≡ c.loop.needs ++ c.in_ok-need.need ∷ [] = search rules in
    record {
      read = rw (pushed, last_number-push c.loop.needs c.in_ok-need.need) (rising_goes_on nat_lt u32_at number_of c.loop.needs (last_number c.loop.needs) c.args.count c.loop.counter c.loop.input c.in_ok-need.need c.read_need.new.input c.in_ok-need.need c.read_need.new.input
          (rising nat_lt u32_at number_of None c.args.count c.args.input.now) c.loop-test.true c.in_ok-need.ensures.read refl c.loop.invariant.read);
      kept = search rules;
    }
