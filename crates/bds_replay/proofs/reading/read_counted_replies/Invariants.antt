use Rattle.std.proofs.Common.{◌≡◌, ◌-◌}
use Rattle.bds_value.specs.Reading.{many}
use Rattle.bds_value.proofs.ReadLaws.{with_front}
use Rattle.bds_replay.specs.Log.{reply_at}
use Rattle.bds_replay.proofs.reading.read_counted_replies.Given as goal

abbrev pub invariant-loop : goal.invariant-loop
invariant-loop l = record {
  read : with_front l.replies (many reply_at (l.count - l.counter) l.input) ≡ many reply_at l.count l.fn.input;
  kept : l.input.bytes ≡ l.fn.input.bytes;
}
