use Rattle.std.proofs.Common.{not, ◌≡◌, ◌+◌, ◌-◌, ◌≤◌, length, drop}
use Rattle.bds_tree.specs.lexing.Bytes.{is_line_end}
use Rattle.std.specs.List.{prefix_len}
use Rattle.bds_fmt.proofs.first_line.line_len.Given as goal

abbrev pub invariant-loop-n : goal.invariant-loop-n
invariant-loop-n l = (l.n ≤ length l.bytes) × (l.n + prefix_len (λ b. not (is_line_end b)) (drop l.n l.bytes) ≡ prefix_len (λ b. not (is_line_end b)) l.bytes)

abbrev pub decreases-loop-n : goal.decreases-loop-n
decreases-loop-n l = length l.bytes - l.n
