use Rattle.bds_tree.specs.StmtView.{setting_of}
use Rattle.bds_front_numbers.specs.InFile.{setting_in}
use Rattle.bds_front_numbers.proofs.InPlace.{Halfway, changed}
use Rattle.bds_front_numbers.proofs.places.number_settings.Given as goal

abbrev pub invariant-loop-i : goal.invariant-loop-i
invariant-loop-i l = Halfway setting_of (changed setting_of (setting_in l.file)) l.fn.settings l.i l.settings
