use Rattle.std.proofs.Common.{◌≡◌, ◌++◌, ◌∷◌, [], Err, None, refl, sym, subst, rules}
use Rattle.bds_value.specs.Order.{is_before, KeysRise}
use Rattle.bds_value.specs.Reading.{many, rising, body_at, pair_at, text_at, key_behind, last_key}
use Rattle.bds_value.proofs.ReadLaws.{goes_on, ends, rising_goes_on, rising_key_ends, rising_item_ends, last_key-push, Reads-stop}
use Rattle.bds_value.proofs.ReadRises.{read_rises}
use Rattle.bds_value.proofs.fields.reading.+read.Goals as goal

pub read_items-returns-in_err-read_body-clause-read :
    goal.read_items-returns-in_err-read_body-clause-read
read_items-returns-in_err-read_body-clause-read t c =
    let read = body_at c.args.item.now in
    let fault = c.in_err-read_body.field-0.0 in
    let total = many read c.args.count c.args.input.now in
    let is : c.from_residual.result ≡ Err fault = search rules in
    Reads-stop (read c.loop.input) total c.read_body.new.input fault c.from_residual.result is
    (λ e. ends read fault c.loop.items c.args.count c.loop.counter c.loop.input total c.loop-test.true e c.loop.invariant.read) c.in_err-read_body.ensures.read

pub read_items-loop-preserved : goal.read_items-loop-preserved
read_items-loop-preserved t c =
    let read = body_at c.args.item.now in
    let pushed : c.push.new.self ≡ c.loop.items ++ c.in_ok-read_body.field-0 ∷ [] = search rules in
    record {
      read = rw pushed (goes_on read c.loop.items c.args.count c.loop.counter c.loop.input c.in_ok-read_body.field-0 c.read_body.new.input (many read c.args.count c.args.input.now) c.loop-test.true c.in_ok-read_body.ensures.read c.loop.invariant.read);
      kept = search rules;
    }

pub read_pairs-returns-in_err-key-clause-read : goal.read_pairs-returns-in_err-key-clause-read
read_pairs-returns-in_err-key-clause-read t c =
    let item = pair_at (body_at c.args.item.now) in
    let fault = c.in_err-key.field-0.0 in
    let total = rising is_before text_at item None c.args.count c.args.input.now in
    let is : c.from_residual.result ≡ Err fault = search rules in
    Reads-stop (key_behind is_before text_at (last_key c.loop.pairs) c.loop.input) total c.read_key.new.input fault c.from_residual.result is
    (λ e. rising_key_ends is_before text_at item fault c.loop.pairs (last_key c.loop.pairs) c.args.count c.loop.counter c.loop.input total c.loop-test.true e c.loop.invariant.read) c.in_err-key.ensures.read

pub read_pairs-returns-in_err-value-clause-read : goal.read_pairs-returns-in_err-value-clause-read
read_pairs-returns-in_err-value-clause-read t c =
    let read = body_at c.args.item.now in
    let item = pair_at read in
    let fault = c.in_err-value.field-0.0 in
    let total = rising is_before text_at item None c.args.count c.args.input.now in
    let is : c.from_residual-in_err-value.result ≡ Err fault = search rules in
    Reads-stop (read c.read_key.new.input) total c.read_body.new.input fault c.from_residual-in_err-value.result is
    (λ e. rising_item_ends is_before text_at item fault c.loop.pairs (last_key c.loop.pairs) c.args.count c.loop.counter c.loop.input c.in_ok-key.key c.read_key.new.input total c.loop-test.true c.in_ok-key.ensures.read (rw e refl) c.loop.invariant.read) c.in_err-value.ensures.read

pub read_pairs-loop-preserved : goal.read_pairs-loop-preserved
read_pairs-loop-preserved t c =
    let read = body_at c.args.item.now in
    let item = pair_at read in
    let pushed : c.push.new.self ≡ c.loop.pairs ++ (c.in_ok-key.key, c.in_ok-value.value) ∷ [] = search rules in
    let found = c.in_ok-value.ensures.read in
    record {
      read = rw (pushed, last_key-push c.loop.pairs (c.in_ok-key.key, c.in_ok-value.value)) (rising_goes_on is_before text_at item c.loop.pairs (last_key c.loop.pairs) c.args.count c.loop.counter c.loop.input c.in_ok-key.key c.read_key.new.input (c.in_ok-key.key, c.in_ok-value.value) c.read_body.new.input
          (rising is_before text_at item None c.args.count c.args.input.now) c.loop-test.true c.in_ok-key.ensures.read (rw found refl) c.loop.invariant.read);
      kept = search rules;
    }

pub read_map-from_vec-requires : goal.read_map-from_vec-requires
read_map-from_vec-requires t c =
    subst KeysRise (sym c.into_vec.ensures) (read_rises (body_at c.args.item.now) c.in_ok-count.count c.read_count.new.input c.read_pairs.new.input c.in_ok-pairs.pairs c.in_ok-pairs.ensures.read)
