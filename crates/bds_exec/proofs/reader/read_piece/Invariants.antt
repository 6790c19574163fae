use Rattle.std.proofs.Common.{◌≡◌}
use Rattle.std.specs.Io.KnownBytes.{Keeps}
use Rattle.bds_exec.proofs.reader.read_piece.Given as goal

abbrev pub invariant-loop : goal.invariant-loop
invariant-loop g l = let left = g.T.Read.remaining in record {
  kept : Keeps (left l.fn.source) (left l.source);
  counted : l.interrupted ≡ l.counter;
}
