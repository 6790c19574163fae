use Rattle.std.proofs.Common.{◌≡◌, ◌-◌}
use Rattle.bds_value.specs.Reading.{many}
use Rattle.bds_code.specs.UnitReading.{line_at}
use Rattle.bds_value.proofs.ReadLaws.{with_front}
use Rattle.bds_code.proofs.fields.reading.read_lines.Given as goal

abbrev pub invariant-loop : goal.invariant-loop
invariant-loop l = record {
  read : with_front l.lines (many line_at (l.count - l.counter) l.input) ≡ many line_at l.count l.fn.input;
  kept : l.input.bytes ≡ l.fn.input.bytes;
}
