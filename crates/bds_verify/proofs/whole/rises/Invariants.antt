use Rattle.std.proofs.Common.{◌≡◌, drop}
use Rattle.bds_verify.specs.Whole.{rises_from, rises}
use Rattle.bds_verify.proofs.whole.rises.Given as goal

abbrev pub invariant-loop-label : goal.invariant-loop-label
invariant-loop-label l = rises_from l.last (drop l.label-index l.labels) ≡ rises l.labels
