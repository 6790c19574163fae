use Rattle.std.proofs.Common.{◌≡◌, drop, map}
use Rattle.bds_tree.specs.StmtView.{suffix_of}
use Rattle.bds_check_rules.specs.StmtBreaks.{any_bad_suffix}
use Rattle.bds_check_rules.proofs.place_rules.any_bad_suffix.Given as goal

abbrev pub invariant-loop-suffix : goal.invariant-loop-suffix
invariant-loop-suffix l = any_bad_suffix l.part (map suffix_of (drop l.suffix-index l.suffixes)) ≡ any_bad_suffix l.initial.part (map suffix_of l.suffixes)
