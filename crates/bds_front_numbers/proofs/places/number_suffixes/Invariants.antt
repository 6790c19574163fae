use Rattle.bds_tree.specs.StmtView.{suffix_of}
use Rattle.bds_front_numbers.specs.InFile.{suffix_in}
use Rattle.bds_front_numbers.proofs.InPlace.{Halfway, changed}
use Rattle.bds_front_numbers.proofs.places.number_suffixes.Given as goal

abbrev pub invariant-loop-i : goal.invariant-loop-i
invariant-loop-i l = Halfway suffix_of (changed suffix_of (suffix_in l.file)) l.fn.suffixes l.i l.suffixes
