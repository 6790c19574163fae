use Rattle.std.proofs.Common.{◌≡◌, ◌++◌, drop, map}
use Rattle.bds_value.specs.declared.value.Value.TheVariants as value
use Rattle.bds_source.proofs.opening.items_of.Given as goal

abbrev pub invariant-loop-arg : goal.invariant-loop-arg
invariant-loop-arg l = l.items ++ map value.Text (drop l.arg-index l.args) ≡ map value.Text l.args
