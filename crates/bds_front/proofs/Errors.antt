-- A result that is an error.
use Rattle.std.proofs.Common.{◌≡◌, Result, Ok, Err, IsErrAnd, sym, subst}
use Rattle.bds_front.specs.declared.front_fault.FrontFault.{FrontFault}

pub by-err : {T : Type 0} (P : Result T FrontFault → Type 0) (r : Result T FrontFault) (f : FrontFault) → IsErrAnd r (λ x. x ≡ f) → P (Err f) → P r
by-err P (Ok x) f h k = absurd h
by-err P (Err x) f h k = subst (λ (y : FrontFault). P (Err y)) (sym h) k
