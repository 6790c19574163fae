use Rattle.std.proofs.Common.{◌≡◌, ◌++◌, drop}
use Rattle.bds_gen_unit.proofs.names.copy_texts.Given as goal

abbrev pub invariant-loop-text : goal.invariant-loop-text
invariant-loop-text l = l.copies ++ drop l.text-index l.texts ≡ l.texts
