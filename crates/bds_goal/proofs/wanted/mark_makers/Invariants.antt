use Rattle.std.proofs.Common.{◌≡◌, drop}
use Rattle.bds_goal.specs.Edges.{with_makers}
use Rattle.bds_goal.proofs.wanted.mark_makers.Given as goal

abbrev pub invariant-loop-file : goal.invariant-loop-file
invariant-loop-file l = with_makers l.rules (drop l.file-index l.files) l.marks.items ≡ with_makers l.rules l.files l.fn.marks.items
