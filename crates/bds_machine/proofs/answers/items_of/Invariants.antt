use Rattle.std.proofs.Common.{◌≡◌, ◌≤◌, ◌+◌, ◌++◌, ℕ, List, map, reverse, length}
use Rattle.bds_value.specs.declared.value.Value.TheVariants as value
use Rattle.bds_machine.proofs.answers.items_of.Given as goal

abbrev pub invariant-loop : goal.invariant-loop
invariant-loop l =
    ((rest : List (List ℕ)) × (l.fn.texts ≡ l.texts ++ rest) × (reverse l.items.items ≡ map value.Text rest))
    × (length l.items.items ≡ l.counter) × (l.count ≤ l.items.cap) × (l.count ≡ length l.texts + l.counter)
