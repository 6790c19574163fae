use Rattle.std.proofs.Common.{◌≡◌, drop, map}
use Rattle.bds_tree.specs.StmtView.{suffix_of}
use Rattle.bds_check_rules.specs.StmtBreaks.{part_ty}
use Rattle.bds_check_rules.proofs.place_rules.part_ty.Given as goal

abbrev pub invariant-loop-suffix : goal.invariant-loop-suffix
invariant-loop-suffix l = part_ty l.part (map suffix_of (drop l.suffix-index l.suffixes)) ≡ part_ty l.initial.part (map suffix_of l.suffixes)
