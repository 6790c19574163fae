-- For private contracts alone: the names that words set, and what stands at their places.
use Rattle.std.specs.Prelude.{ℕ, zero, suc, Option, None, List, map, slice_get}
use Rattle.bds_value.specs.declared.value.Ty.TheVariants as ty
use Rattle.bds_check_names.specs.declared.names.Variable.{Variable}
use Rattle.bds_check_names.specs.Scopes.{variable}
use Rattle.bds_check_typing.specs.declared.given.Given.{Given}

abbrev pub names_given : List Given → List Variable
names_given gs = map (λ g. variable g.name ty.Void) gs

-- counted from 1
abbrev pub given_at : List Given → ℕ → Option Given
given_at gs zero = None
given_at gs (suc n) = slice_get gs n
