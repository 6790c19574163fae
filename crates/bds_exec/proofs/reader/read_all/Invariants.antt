use Rattle.std.proofs.Common.{◌≡◌, ◌≤◌, length}
use Rattle.std.specs.Io.KnownBytes.{Consumes}
use Rattle.bds_exec.proofs.reader.read_all.Given as goal

abbrev pub invariant-loop : goal.invariant-loop
invariant-loop g l = let left = g.T.Read.remaining in record {
  bytes : Consumes (left l.fn.source) (left l.source) l.bytes.items;
  turns : l.counter ≤ length l.bytes.items;
  taken : l.counts.taken ≡ l.counter;
}
