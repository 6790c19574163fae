use Rattle.std.proofs.Common.{◌≡◌, ◌≤◌, ◌+◌, ◌++◌, List, reverse, length, Some}
use Rattle.bds_value.specs.declared.value.Value.{Value}
use Rattle.bds_value.specs.Readers.{all_texts}
use Rattle.bds_machine_values.proofs.operands.texts_of.Given as goal

abbrev pub invariant-loop : goal.invariant-loop
invariant-loop l =
    ((rest : List Value) × (l.fn.items ≡ l.items ++ rest) × (all_texts rest ≡ Some (reverse l.texts.items)))
    × (length l.texts.items ≡ l.counter) × (l.count ≤ l.texts.cap) × (l.count ≡ length l.items + l.counter)
