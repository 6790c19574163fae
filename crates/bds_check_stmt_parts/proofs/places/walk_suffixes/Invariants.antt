use Rattle.bds_check_stmt_parts.proofs.Walked.{SuffixesWalking}
use Rattle.bds_check_stmt_parts.proofs.places.walk_suffixes.Given as goal

abbrev pub invariant-loop-i : goal.invariant-loop-i
invariant-loop-i l = SuffixesWalking l.names l.fn.suffixes l.i l.suffixes
