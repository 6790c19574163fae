use Rattle.std.proofs.Common.{◌≡◌, ℕ, List, drop, length, take}
use Rattle.std.specs.Option.{option_or}
use Rattle.bds_rules.specs.Indexes.{number_if, number_in}
use Rattle.bds_rules.proofs.indexes.put_each.Given as goal

abbrev pub invariant-loop-file : goal.invariant-loop-file
invariant-loop-file l =
    ((x : List ℕ) → option_or (number_in l.index.entries x) (number_if (drop l.file-index l.files) l.n x) ≡ option_or (number_in l.fn.index.entries x) (number_if l.files l.n x))
    × (take (length l.fn.index.entries) l.index.entries ≡ l.fn.index.entries)
