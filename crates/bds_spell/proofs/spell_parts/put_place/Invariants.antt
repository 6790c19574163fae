use Rattle.std.proofs.Common.{◌≡◌, ◌++◌, drop, map}
use Rattle.bds_tree.specs.StmtView.{suffix_of, place_of}
use Rattle.bds_tree.specs.Words.{words}
use Rattle.bds_spell.specs.StmtWords.{suffixes_words, place_words}
use Rattle.bds_spell.proofs.spell_parts.put_place.Given as goal

abbrev pub invariant-loop-suffix : goal.invariant-loop-suffix
invariant-loop-suffix l = words l.out ++ suffixes_words (map suffix_of (drop l.suffix-index l.place.suffixes)) ≡ words l.fn.out ++ place_words (place_of l.place)
