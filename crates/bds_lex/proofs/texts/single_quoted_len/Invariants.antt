use Rattle.std.proofs.Common.{not, eqb, ◌≡◌, ◌+◌, ◌-◌, ◌≤◌, length, drop}
use Rattle.std.specs.List.{prefix_len}
use Rattle.bds_lex.proofs.texts.single_quoted_len.Given as goal

abbrev pub invariant-loop-n : goal.invariant-loop-n
invariant-loop-n l = (l.n ≤ length l.bytes) × (l.n + prefix_len (λ b. not (eqb b 39)) (drop l.n l.bytes) ≡ prefix_len (λ b. not (eqb b 39)) l.bytes)

abbrev pub decreases-loop-n : goal.decreases-loop-n
decreases-loop-n l = length l.bytes - l.n
