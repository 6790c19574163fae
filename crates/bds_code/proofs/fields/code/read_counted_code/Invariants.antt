use Rattle.std.proofs.Common.{◌≡◌, ◌-◌}
use Rattle.bds_value.specs.Reading.{many}
use Rattle.bds_code.specs.UnitReading.{instr_at}
use Rattle.bds_value.proofs.ReadLaws.{with_front}
use Rattle.bds_code.proofs.fields.code.read_counted_code.Given as goal

abbrev pub invariant-loop : goal.invariant-loop
invariant-loop l = record {
  read : with_front l.code (many instr_at (l.count - l.counter) l.input) ≡ many instr_at l.count l.fn.input;
  kept : l.input.bytes ≡ l.fn.input.bytes;
}
