use Rattle.std.proofs.Common.{◌≡◌, ◌-◌}
use Rattle.bds_value.specs.Reading.{many}
use Rattle.bds_value.proofs.ReadLaws.{with_front}
use Rattle.bds_value.specs.declared.TheConstants.{MAX_TEXT}
use Rattle.bds_replay.specs.Longs.{long_at}
use Rattle.bds_replay.proofs.reading.read_counted_words.Given as goal

abbrev pub invariant-loop : goal.invariant-loop
invariant-loop l = record {
  read : with_front l.words (many (long_at MAX_TEXT) (l.count - l.counter) l.input) ≡ many
      (long_at MAX_TEXT) l.count l.fn.input;
  kept : l.input.bytes ≡ l.fn.input.bytes;
}
