use Rattle.std.proofs.Common.{◌≡◌, drop}
use Rattle.bds_code.specs.UpdateRows.{part_ty}
use Rattle.bds_code.proofs.updates.part_ty.Given as goal

abbrev pub invariant-loop-key : goal.invariant-loop-key
invariant-loop-key l = part_ty l.part (drop l.key-index l.kinds) ≡ part_ty l.fn.variable l.kinds
