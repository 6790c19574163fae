-- A log that grows has no fault less.
use Rattle.std.proofs.Common.{◌≡◌, ◌+◌, ◌≤◌, [], ◌∷◌, ◌++◌, arith}
use Rattle.bds_host.specs.declared.asks.Ask.{Ask}
use Rattle.bds_host.specs.declared.asks.Reply.{Reply}
use Rattle.bds_host.specs.Host.{Log, faults}
use Rattle.bds_host.proofs.Growing.{faults-append}

pub never_falls : (old new : Log) (p : Ask × Reply) → new ≡ old ++ p ∷ [] → faults old ≤ faults new
never_falls old new p grown = rw (grown, faults-append) (omega arith)
