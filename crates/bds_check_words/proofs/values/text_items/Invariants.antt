use Rattle.std.proofs.Common.{◌≡◌, map, take}
use Rattle.bds_value.specs.declared.value.Value.TheVariants as value
use Rattle.bds_check_words.proofs.values.text_items.Given as goal

abbrev pub invariant-loop-word : goal.invariant-loop-word
invariant-loop-word l = l.items ≡ map value.Text (take l.word-index l.words)
