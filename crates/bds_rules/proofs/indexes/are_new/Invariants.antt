use Rattle.std.proofs.Common.{◌≡◌, drop}
use Rattle.bds_rules.specs.Indexes.{are_new}
use Rattle.bds_rules.proofs.indexes.are_new.Given as goal

abbrev pub invariant-loop-file : goal.invariant-loop-file
invariant-loop-file l = are_new l.index.entries (drop l.file-index l.files) ≡ are_new l.index.entries l.files
