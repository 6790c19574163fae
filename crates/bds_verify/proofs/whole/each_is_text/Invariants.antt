use Rattle.std.proofs.Common.{◌≡◌, drop}
use Rattle.std.specs.List.{list_all}
use Rattle.bds_verify.specs.Whole.{is_text}
use Rattle.bds_verify.proofs.whole.each_is_text.Given as goal

abbrev pub invariant-loop-text : goal.invariant-loop-text
invariant-loop-text l = list_all is_text (drop l.text-index l.texts) ≡ list_all is_text l.texts
