use Rattle.std.proofs.Common.{◌≡◌, ◌+◌, drop, not}
use Rattle.std.specs.List.{prefix_len}
use Rattle.bds_check_words.specs.WordSettings.{is_dashed}
use Rattle.bds_check_words.proofs.values.count_before_dash.Given as goal

abbrev pub invariant-loop-i : goal.invariant-loop-i
invariant-loop-i l = l.i + prefix_len (λ w. not (is_dashed w)) (drop l.i l.words) ≡ prefix_len (λ w. not (is_dashed w)) l.words
