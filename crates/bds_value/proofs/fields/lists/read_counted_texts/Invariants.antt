use Rattle.std.proofs.Common.{◌≡◌, ◌-◌}
use Rattle.bds_value.specs.Reading.{many, text_at}
use Rattle.bds_value.proofs.ReadLaws.{with_front}
use Rattle.bds_value.proofs.fields.lists.read_counted_texts.Given as goal

abbrev pub invariant-loop : goal.invariant-loop
invariant-loop l = record {
  read : with_front l.texts (many text_at (l.count - l.counter) l.input) ≡ many text_at l.count l.fn.input;
  kept : l.input.bytes ≡ l.fn.input.bytes;
}
