use Rattle.std.proofs.Common.{◌≡◌, ◌++◌, take}
use Rattle.std.specs.List.{flat_map}
use Rattle.bds_state.specs.StateSpelling.{id_field}
use Rattle.bds_ckpt.proofs.writing.values.put_each_id.Given as goal

abbrev pub invariant-loop-i : goal.invariant-loop-i
invariant-loop-i l = l.out.items ≡ l.fn.out.items ++ flat_map id_field (take l.i l.ids)
