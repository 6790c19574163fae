-- What a list or map is as operands.
use Rattle.std.proofs.Common.{◌≡◌, [], ◌∷◌, ap, cond}
use Rattle.bds_value.specs.Types.{is_void_at}
use Rattle.bds_value.specs.declared.value.Ty.{Ty}
use Rattle.bds_value.specs.declared.value.Ty.TheVariants as ty
use Rattle.bds_code.specs.Operands.{given}

pub given-List : (t : Ty) → given (ty.List t) ≡ ty.List t ∷ []
given-List t = ap (λ x. cond (is_void_at x) [] (ty.List t ∷ [])) (ty.outs-List t)

pub given-Map : (t : Ty) → given (ty.Map t) ≡ ty.Map t ∷ []
given-Map t = ap (λ x. cond (is_void_at x) [] (ty.Map t ∷ [])) (ty.outs-Map t)

pub ruleset given_rules = (given-List, given-Map)
