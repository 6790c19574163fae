use Rattle.std.proofs.Common.{◌≡◌, ◌-◌, None}
use Rattle.bds_value.specs.Order.{is_before}
use Rattle.bds_value.specs.Reading.{many, rising, last_key, text_at, pair_at, body_at}
use Rattle.bds_value.proofs.ReadLaws.{with_front}
use Rattle.bds_value.proofs.fields.reading.+read.Given as goal

abbrev pub invariant-read_items-loop : goal.invariant-read_items-loop
invariant-read_items-loop l = record {
  read : with_front l.items (many (body_at l.item) (l.count - l.counter) l.input) ≡ many (body_at l.item) l.count l.fn.input;
  kept : l.input.bytes ≡ l.fn.input.bytes;
}

abbrev pub invariant-read_pairs-loop : goal.invariant-read_pairs-loop
invariant-read_pairs-loop l = record {
  read : with_front l.pairs (rising is_before text_at (pair_at (body_at l.item)) (last_key l.pairs) (l.count - l.counter) l.input)
      ≡ rising is_before text_at (pair_at (body_at l.item)) None l.count l.fn.input;
  kept : l.input.bytes ≡ l.fn.input.bytes;
}
