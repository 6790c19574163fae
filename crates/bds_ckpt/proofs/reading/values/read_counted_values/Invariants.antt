use Rattle.std.proofs.Common.{◌≡◌, ◌-◌}
use Rattle.bds_value.specs.Reading.{many, value_at}
use Rattle.bds_value.proofs.ReadLaws.{with_front}
use Rattle.bds_ckpt.proofs.reading.values.read_counted_values.Given as goal

abbrev pub invariant-loop : goal.invariant-loop
invariant-loop l = record {
  read : with_front l.values (many value_at (l.count - l.counter) l.input) ≡ many value_at l.count l.fn.input;
  kept : l.input.bytes ≡ l.fn.input.bytes;
}
