use Rattle.std.proofs.Common.{◌≡◌, length}
use Rattle.std.specs.Io.KnownBytes.{Consumes}
use Rattle.bds_exec.proofs.line.read_line.Given as goal
use Rattle.bds_exec.specs.FirstLine.{EndsNoLine}

abbrev pub invariant-loop : goal.invariant-loop
invariant-loop g l = let left = g.T.Read.remaining in record {
  bytes : Consumes (left l.fn.source) (left l.source) l.line.items;
  whole : EndsNoLine l.line.items;
  many : length l.line.items ≡ l.counter;
}
