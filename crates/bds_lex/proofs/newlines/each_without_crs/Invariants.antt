use Rattle.std.proofs.Common.{◌≡◌, ◌+◌, ◌≤◌, ◌++◌, length}
use Rattle.bds_tree.specs.lexing.RawTokens.{without_crs}
use Rattle.bds_lex.proofs.newlines.each_without_crs.Given as goal

abbrev pub invariant-loop-rest : goal.invariant-loop-rest
invariant-loop-rest l = (l.out ++ without_crs l.rest ≡ without_crs l.bytes) × (length l.out + length l.rest ≤ length l.bytes)

abbrev pub decreases-loop-rest : goal.decreases-loop-rest
decreases-loop-rest l = length l.rest
