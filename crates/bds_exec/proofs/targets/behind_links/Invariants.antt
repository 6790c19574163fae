use Rattle.std.proofs.Common.{◌≡◌}
use Rattle.bds_exec.proofs.targets.behind_links.Given as goal

abbrev pub invariant-loop : goal.invariant-loop
invariant-loop g l = record {
  counted : l.links ≡ l.counter;
}
