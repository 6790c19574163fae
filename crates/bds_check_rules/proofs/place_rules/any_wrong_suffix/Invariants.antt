use Rattle.std.proofs.Common.{◌≡◌, drop, map}
use Rattle.std.specs.List.{list_any}
use Rattle.bds_tree.specs.StmtView.{suffix_of}
use Rattle.bds_check_rules.specs.StmtBreaks.{is_wrong_suffix}
use Rattle.bds_check_rules.proofs.place_rules.any_wrong_suffix.Given as goal

abbrev pub invariant-loop-suffix : goal.invariant-loop-suffix
invariant-loop-suffix l = list_any is_wrong_suffix (map suffix_of (drop l.suffix-index l.suffixes)) ≡ list_any is_wrong_suffix (map suffix_of l.suffixes)
