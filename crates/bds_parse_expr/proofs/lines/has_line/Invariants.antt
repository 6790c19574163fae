use Rattle.std.proofs.Common.{◌≡◌, drop}
use Rattle.bds_tree.specs.ScriptTexts.{has_line}
use Rattle.bds_parse_expr.proofs.lines.has_line.Given as goal

abbrev pub invariant-loop-t : goal.invariant-loop-t
invariant-loop-t l = has_line l.line (drop l.t-index l.tokens) ≡ has_line l.line l.tokens
