use Rattle.std.proofs.Common.{◌≡◌, ◌-◌, nat_lt, None}
use Rattle.bds_value.specs.Reading.{rising, last_key, u32_at}
use Rattle.bds_value.proofs.ReadLaws.{with_front}
use Rattle.bds_code.specs.UnitReading.{label_of}
use Rattle.bds_code.proofs.fields.reading.read_counted_labels.Given as goal

abbrev pub invariant-loop : goal.invariant-loop
invariant-loop l = record {
  read : with_front l.labels (rising nat_lt u32_at label_of (last_key l.labels) (l.count - l.counter) l.input) ≡ rising nat_lt u32_at label_of None l.count l.fn.input;
  kept : l.input.bytes ≡ l.fn.input.bytes;
}
