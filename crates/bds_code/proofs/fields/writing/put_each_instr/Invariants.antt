use Rattle.std.proofs.Common.{◌≡◌, ◌++◌, take}
use Rattle.std.specs.List.{flat_map}
use Rattle.bds_code.specs.UnitSpelling.{instr_field}
use Rattle.bds_code.proofs.fields.writing.put_each_instr.Given as goal

abbrev pub invariant-loop-instr : goal.invariant-loop-instr
invariant-loop-instr l = l.out.items ≡ l.fn.out.items ++ flat_map instr_field (take l.instr-index l.code)
