use Rattle.std.proofs.Common.{◌≡◌, ◌++◌, drop, map}
use Rattle.bds_tree.specs.StmtView.{part_of}
use Rattle.bds_tree.specs.Words.{words}
use Rattle.bds_spell.specs.StmtWords.{parts_words}
use Rattle.bds_spell.proofs.spell_stmt.put_parts.Given as goal

abbrev pub invariant-loop-part : goal.invariant-loop-part
invariant-loop-part l = words l.out ++ parts_words (map part_of (drop l.part-index l.parts)) ≡ words l.fn.out ++ parts_words (map part_of l.parts)
