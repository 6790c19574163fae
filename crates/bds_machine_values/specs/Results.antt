-- What operators, methods and changes give. None: they don't take values of these types.
use Rattle.std.specs.Prelude.{ℕ, List, [], ◌∷◌, map, cond, Bool, true, false, ◌&&◌, Option, Some, None}
use Rattle.bds_value.specs.declared.value.Op.{Op}
use Rattle.bds_value.specs.declared.value.Place.{Place}
use Rattle.bds_value.specs.declared.value.Place.TheVariants.{Index, Key}
use Rattle.bds_value.specs.declared.value.Value.{Value, out-Value}
use Rattle.bds_value.specs.declared.value.Value.TheOpen.{Value-F}
use Rattle.bds_value.specs.Operators.{binary_of}
use Rattle.bds_value.specs.Path.{child, item_of, put_in}
use Rattle.bds_value.specs.Value.{type_of}
use Rattle.bds_value.specs.RunFaults.{op_fault, put_fault}
use Rattle.bds_lib.specs.Call.{method_of}
use Rattle.bds_lib.specs.Change.{change_of}
use Rattle.bds_lib.specs.RunFaults.{lib_fault}
use Rattle.bds_machine_values.specs.Faults.{Outcome, outcome, and_then}
use Rattle.bds_machine_values.specs.Typing.{takes, leads, suits, is_row, is_change_row}

-- an operator between two values
abbrev pub applied : Op → Value → Value → Outcome Value
applied op left right = cond (takes op (type_of left) (type_of right)) (outcome op_fault (binary_of op left right)) None

-- the part of a value one step below
abbrev pub part_of : Place → Value → Outcome Value
part_of place v = cond (leads (place ∷ []) (type_of v)) (outcome put_fault (item_of (place ∷ []) v)) None

-- a method of a receiver
abbrev pub called : ℕ → Value → List Value → Outcome Value
called m receiver args = cond (is_row m (type_of receiver) (map type_of args)) (outcome lib_fault (method_of m receiver args)) None

-- a method that changes a part
abbrev pub mutated : ℕ → Value → List Value → Outcome Value
mutated what part args = cond (is_change_row what (type_of part) (map type_of args)) (outcome lib_fault (change_of what part args)) None

-- a value with a new part at a path
abbrev pub put_at : List Place → Value → Value → Outcome Value
put_at path v new = cond (suits path (type_of v) (type_of new)) (outcome put_fault (put_in path v new)) None

-- a list has items, and a map has entries
abbrev pub has_parts : Place → Value-F Value → Bool
has_parts (Index i) (Value-F.List t items) = true
has_parts (Key k) (Value-F.Map t pairs) = true
has_parts _ _ = false

abbrev pub if_there : Option Value → (Value → Bool) → Bool
if_there None holds = true
if_there (Some v) holds = holds v

-- whether each index of a path meets a list and each key a map, as far as there are parts
abbrev pub walks : List Place → Value → Bool
walks [] v = true
walks (p ∷ ps) v = has_parts p (out-Value v) && if_there (child p (out-Value v)) (walks ps)

abbrev pub remade : (Value → Outcome Value) → List Place → Value → Outcome Value
remade make path v = and_then (outcome put_fault (item_of path v)) (λ part. and_then (make part) (λ new. outcome put_fault (put_in path v new)))

-- a value whose part at a path becomes what is made of it
abbrev pub with_part : (Value → Outcome Value) → List Place → Value → Outcome Value
with_part make path v = cond (walks path v) (remade make path v) None

-- and so where the path fits the value's type
abbrev pub remade_at : (Value → Outcome Value) → List Place → Value → Outcome Value
remade_at make path v = cond (leads path (type_of v)) (with_part make path v) None
