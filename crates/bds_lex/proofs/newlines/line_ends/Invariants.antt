use Rattle.std.proofs.Common.{◌≡◌, ◌≤◌, take}
use Rattle.std.specs.List.{count_by}
use Rattle.bds_tree.specs.lexing.Bytes.{is_line_end}
use Rattle.bds_lex.proofs.newlines.line_ends.Given as goal

abbrev pub invariant-loop-b : goal.invariant-loop-b
invariant-loop-b l = (l.n ≡ count_by is_line_end (take l.b-index l.bytes)) × (l.n ≤ l.b-index)
