use Rattle.std.proofs.Common.{◌≡◌, drop, map}
use Rattle.bds_tree.specs.StmtView.{part_of}
use Rattle.bds_spell.specs.StmtFits.{parts_fit}
use Rattle.bds_spell.proofs.fit_stmt.parts_fit.Given as goal

abbrev pub invariant-loop-part : goal.invariant-loop-part
invariant-loop-part l = parts_fit (map part_of l.parts) l.most ≡ parts_fit (map part_of (drop l.part-index l.parts)) l.most
