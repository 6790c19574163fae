use Rattle.std.proofs.Common.{◌≡◌, ◌+◌, ◌≤◌, length, take}
use Rattle.std.specs.List.{suffix_len}
use Rattle.bds_fmt.specs.Canonical.{is_cr}
use Rattle.bds_fmt.proofs.first_line.len_without_crs.Given as goal

abbrev pub invariant-loop-n : goal.invariant-loop-n
invariant-loop-n l = (l.n ≤ length l.bytes) × (l.n + suffix_len is_cr l.bytes ≡ length l.bytes + suffix_len is_cr (take l.n l.bytes))

abbrev pub decreases-loop-n : goal.decreases-loop-n
decreases-loop-n l = l.n
