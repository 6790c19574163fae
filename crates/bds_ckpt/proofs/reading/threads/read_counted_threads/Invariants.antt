use Rattle.std.proofs.Common.{◌≡◌, ◌-◌}
use Rattle.bds_value.specs.Reading.{many}
use Rattle.bds_ckpt.specs.ThreadReading.{thread_at}
use Rattle.bds_value.proofs.ReadLaws.{with_front}
use Rattle.bds_ckpt.proofs.reading.threads.read_counted_threads.Given as goal

abbrev pub invariant-loop : goal.invariant-loop
invariant-loop l = record {
  read : with_front l.threads (many thread_at (l.count - l.counter) l.input) ≡ many thread_at l.count l.fn.input;
  kept : l.input.bytes ≡ l.fn.input.bytes;
}
