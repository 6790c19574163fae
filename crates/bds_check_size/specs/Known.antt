-- The variables in force, as far as sizes depend on them.
use Rattle.std.specs.Prelude.{ℕ, Option, Some, None, List, [], ◌∷◌, ◌++◌}
use Rattle.bds_value.specs.declared.value.Ty.{Ty}
use Rattle.bds_check_names.specs.declared.names.Variable.{Variable}
use Rattle.bds_check_names.specs.Scopes.{variable, first_type, last_type, either}

-- of locals the innermost stands last
pub record Known : Type 0 where
  pub locals : List Variable
  pub globals : List Variable

-- the type of the variable that a name stands for
abbrev pub look : Known → List ℕ → Option Ty
look k x = either (last_type x k.locals None) (first_type x k.globals)

abbrev pub with_known : Known → List ℕ → Ty → Known
with_known k x t = record { locals = k.locals ++ variable x t ∷ []; globals = k.globals }

abbrev pub with_global : Known → List ℕ → Ty → Known
with_global k x t = record { locals = k.locals; globals = k.globals ++ variable x t ∷ [] }

-- behind what declares this local, or none
abbrev pub known_with : Known → Option Variable → Known
known_with k None = k
known_with k (Some v) = with_known k v.name v.ty

-- behind what declares this global, or none
abbrev pub known_with_global : Known → Option Variable → Known
known_with_global k None = k
known_with_global k (Some v) = with_global k v.name v.ty
