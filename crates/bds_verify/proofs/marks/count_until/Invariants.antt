use Rattle.std.proofs.Common.{◌≤◌, ◌-◌, length}
use Rattle.bds_verify.proofs.marks.count_until.Given as goal

abbrev pub invariant-loop-low : goal.invariant-loop-low
invariant-loop-low l = record {
  within : l.low ≤ l.high;
  inside : l.high ≤ length l.marks;
}

abbrev pub decreases-loop-low : goal.decreases-loop-low
decreases-loop-low l = l.high - l.low
