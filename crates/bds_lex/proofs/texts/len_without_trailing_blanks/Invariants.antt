use Rattle.std.proofs.Common.{◌≡◌, ◌+◌, ◌≤◌, length, take}
use Rattle.std.specs.List.{suffix_len}
use Rattle.bds_tree.specs.lexing.Bytes.{is_blank}
use Rattle.bds_lex.proofs.texts.len_without_trailing_blanks.Given as goal

abbrev pub invariant-loop-n : goal.invariant-loop-n
invariant-loop-n l = (l.n ≤ length l.bytes) × (l.n + suffix_len is_blank l.bytes ≡ length l.bytes + suffix_len is_blank (take l.n l.bytes))

abbrev pub decreases-loop-n : goal.decreases-loop-n
decreases-loop-n l = l.n
