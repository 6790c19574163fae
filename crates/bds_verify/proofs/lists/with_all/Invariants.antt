use Rattle.std.proofs.Common.{take}
use Rattle.bds_verify.specs.Numbered.{Leads}
use Rattle.bds_verify.proofs.lists.with_all.Given as goal

abbrev pub invariant-loop-ty : goal.invariant-loop-ty
invariant-loop-ty l = Leads l.fn.lists.nodes l.lists.nodes l.number l.last (take l.ty-index l.types)
