use Rattle.std.proofs.Common.{◌≡◌, ◌++◌, take}
use Rattle.std.specs.List.{flat_map}
use Rattle.bds_value.specs.Spelling.{text_field}
use Rattle.bds_value.proofs.fields.lists.put_each_text.Given as goal

abbrev pub invariant-loop-text : goal.invariant-loop-text
invariant-loop-text l = l.out.items ≡ l.fn.out.items ++ flat_map text_field (take l.text-index l.texts)
