use Rattle.std.proofs.Common.{◌≡◌, drop}
use Rattle.bds_engine_parts.specs.Look.{all_ended}
use Rattle.bds_engine_parts.proofs.looks.all_ended.Given as goal

abbrev pub invariant-loop-i : goal.invariant-loop-i
invariant-loop-i l = all_ended (drop l.i l.threads) ≡ all_ended l.threads
