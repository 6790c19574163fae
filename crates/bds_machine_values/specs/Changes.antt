-- For private contracts alone: what a row changes a variable by: a change together with its operands, and a path of its steps.
use Rattle.std.specs.Prelude.{ℕ, List, [], ◌∷◌, length, slice_get, Bool, Option, Some, Ok, ◌≡◌}
use Rattle.bds_value.specs.declared.value.Place.{Place}
use Rattle.bds_value.specs.declared.value.Value.{Value}
use Rattle.bds_value.specs.Options.{◌>>=◌}
use Rattle.bds_code_frames.specs.Stack.{Stack}
use Rattle.bds_machine_values.specs.declared.changes.Change.{Change}
use Rattle.bds_machine_values.specs.declared.changes.Change.TheVariants.{Replace, Add, Operate, Mutate}
use Rattle.bds_machine_values.specs.declared.route.Route.{Route}
use Rattle.bds_machine_values.specs.declared.route.Route.TheVariants as route
use Rattle.bds_machine_values.specs.Operands.{taken_all}
use Rattle.bds_machine_values.specs.Faults.{Outcome}
use Rattle.bds_machine_values.specs.Results.{applied, mutated, put_at, remade_at}
use Rattle.bds_machine_values.specs.Updates.{operand_counts, path_of, added, value_changed}

-- a part after a change
abbrev pub part_after : Change → Value → Outcome Value
part_after (Replace new) part = Some (Ok new)
part_after (Add x) part = added part x
part_after (Operate op x) part = applied op part x
part_after (Mutate method args) part = mutated method part args

-- a value whose part at a path is new, or is changed
abbrev pub value_after : Change → List Place → Value → Outcome Value
value_after (Replace new) path v = put_at path v new
value_after change path v = remade_at (part_after change) path v

-- the change of this number with these operands
abbrev pub IsChangeOf : ℕ → List Value → Change → Type 0
IsChangeOf what args change = (path : List Place) (v : Value) → value_changed what path v args ≡ value_after change path v

-- the steps of a way to a part
abbrev pub places_of : Route → List Place
places_of (route.One p) = p ∷ []
places_of (route.Path path) = path

-- the operands of a change, by its number
abbrev pub args_taken : ℕ → Stack → Option (List Value × Stack)
args_taken what s = slice_get operand_counts what >>= λ n. taken_all n s

-- a path whose steps are the last operands
abbrev pub path_taken : List Bool → Stack → Option (List Place × Stack)
path_taken kinds s = taken_all (length kinds) s >>= λ steps. path_of kinds steps.0 >>= λ path. Some (path, steps.1)
