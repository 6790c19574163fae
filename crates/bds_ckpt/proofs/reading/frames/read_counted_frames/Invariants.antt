use Rattle.std.proofs.Common.{◌≡◌, ◌-◌, length}
use Rattle.bds_value.specs.Reading.{many}
use Rattle.bds_value.proofs.ReadLaws.{with_front}
use Rattle.bds_ckpt.specs.ThreadReading.{frame_at}
use Rattle.bds_ckpt.proofs.reading.frames.read_counted_frames.Given as goal

abbrev pub invariant-loop : goal.invariant-loop
invariant-loop l = record {
  read : with_front l.frames (many frame_at (l.count - l.counter) l.input) ≡ many frame_at l.count l.fn.input;
  kept : l.input.bytes ≡ l.fn.input.bytes;
  size : length l.frames ≡ l.counter;
}
