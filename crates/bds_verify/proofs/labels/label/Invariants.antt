use Rattle.std.proofs.Common.{◌≡◌, ◌≤◌, length, true}
use Rattle.bds_verify.specs.Verified.{label_at}
use Rattle.bds_verify.specs.Whole.{rises}
use Rattle.bds_verify.proofs.labels.label.Given as goal

abbrev pub invariant-loop-left : goal.invariant-loop-left
invariant-loop-left l = record {
  same : label_at l.left l.place ≡ label_at l.labels l.place;
  rising : rises l.left ≡ true;
  fewer : length l.left ≤ length l.labels;
}

abbrev pub decreases-loop-left : goal.decreases-loop-left
decreases-loop-left l = length l.left
