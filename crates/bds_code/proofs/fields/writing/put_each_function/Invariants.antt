use Rattle.std.proofs.Common.{◌≡◌, ◌++◌, take}
use Rattle.std.specs.List.{flat_map}
use Rattle.bds_code.specs.UnitSpelling.{function_field}
use Rattle.bds_code.proofs.fields.writing.put_each_function.Given as goal

abbrev pub invariant-loop-function : goal.invariant-loop-function
invariant-loop-function l = l.out.items ≡ l.fn.out.items ++ flat_map function_field (take l.function-index l.functions)
