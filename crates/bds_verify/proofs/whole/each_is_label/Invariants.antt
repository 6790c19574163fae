use Rattle.std.proofs.Common.{◌≡◌, drop}
use Rattle.std.specs.List.{list_all}
use Rattle.bds_verify.specs.Whole.{is_label}
use Rattle.bds_verify.proofs.whole.each_is_label.Given as goal

abbrev pub invariant-loop-label : goal.invariant-loop-label
invariant-loop-label l = list_all (is_label l.size) (drop l.label-index l.labels) ≡ list_all (is_label l.size) l.labels
