use Rattle.std.proofs.Common.{◌≡◌, ◌-◌}
use Rattle.bds_value.specs.Reading.{many}
use Rattle.bds_code.specs.UnitReading.{function_at}
use Rattle.bds_value.proofs.ReadLaws.{with_front}
use Rattle.bds_code.proofs.fields.units.read_counted_functions.Given as goal

abbrev pub invariant-loop : goal.invariant-loop
invariant-loop l = record {
  read : with_front l.functions (many function_at (l.count - l.counter) l.input) ≡ many function_at l.count l.fn.input;
  kept : l.input.bytes ≡ l.fn.input.bytes;
}
