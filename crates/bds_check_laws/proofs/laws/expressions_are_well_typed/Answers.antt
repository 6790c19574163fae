use Rattle.std.proofs.Common.{ap}
use Rattle.bds_check_typing.specs.Walk.{Judged}
use Rattle.bds_check_typing.proofs.AcceptedValues.{judged-whole}
use Rattle.bds_check_typing.proofs.WellTypedLaws.{well-typed}
use Rattle.bds_check_laws.proofs.laws.expressions_are_well_typed.Goals as goal

pub returns : goal.returns
returns c = (well-typed, λ e names asked w. (ap (λ (j : Judged). j.tree) (judged-whole names e asked w), ap (λ (j : Judged). j.broken) (judged-whole names e asked w)))
