use Rattle.std.proofs.Common.{◌≡◌, ◌++◌, ◌∷◌, [], Err, None, nat_lt, refl, rules}
use Rattle.bds_value.specs.Reading.{rising, last_key, u32_at, types_at}
use Rattle.bds_value.proofs.ReadLaws.{rising_goes_on, rising_key_ends, rising_item_ends, last_key-push, Reads-stop, stopped}
use Rattle.bds_code.specs.UnitReading.{label_of}
use Rattle.bds_code.proofs.fields.reading.read_counted_labels.Goals as goal

pub returns-in_err-place-clause-read : goal.returns-in_err-place-clause-read
returns-in_err-place-clause-read c =
    let fault = c.in_err-place.field-0.0 in
    let total = rising nat_lt u32_at label_of None c.args.count c.args.input.now in
    let is : c.from_residual.result ≡ Err fault = search rules in
    stopped total c.read_place.new.input fault c.from_residual.result is
    (rising_key_ends nat_lt u32_at label_of fault c.loop.labels (last_key c.loop.labels) c.args.count c.loop.counter c.loop.input total c.loop-test.true c.in_err-place.ensures.read c.loop.invariant.read)

pub returns-in_err-shape-clause-read : goal.returns-in_err-shape-clause-read
returns-in_err-shape-clause-read c =
    let fault = c.in_err-shape.field-0.0 in
    let total = rising nat_lt u32_at label_of None c.args.count c.args.input.now in
    let is : c.from_residual-in_err-shape.result ≡ Err fault = search rules in
    Reads-stop (types_at c.read_place.new.input) total c.read_shape.new.input fault c.from_residual-in_err-shape.result is
    (λ e. rising_item_ends nat_lt u32_at label_of fault c.loop.labels (last_key c.loop.labels) c.args.count c.loop.counter c.loop.input c.in_ok-place.place c.read_place.new.input total c.loop-test.true c.in_ok-place.ensures.read (rw e refl) c.loop.invariant.read) c.in_err-shape.ensures.read

pub loop-preserved : goal.loop-preserved
loop-preserved c =
    let pushed : c.push.new.self ≡ c.loop.labels ++ (c.in_ok-place.place, c.in_ok-shape.shape) ∷ [] = search rules in
    let found = c.in_ok-shape.ensures.read in
    record {
      read = rw (pushed, last_key-push c.loop.labels (c.in_ok-place.place, c.in_ok-shape.shape)) (rising_goes_on nat_lt u32_at label_of c.loop.labels (last_key c.loop.labels) c.args.count c.loop.counter c.loop.input c.in_ok-place.place c.read_place.new.input (c.in_ok-place.place, c.in_ok-shape.shape) c.read_shape.new.input
          (rising nat_lt u32_at label_of None c.args.count c.args.input.now) c.loop-test.true c.in_ok-place.ensures.read (rw found refl) c.loop.invariant.read);
      kept = search rules;
    }
