-- The row that changes a part of a variable.
use Rattle.std.specs.Prelude.{ℕ, List, [], ◌∷◌, length, slice_get, slice_set, ◌==◌, if◌then◌else◌, Bool, true, false, Option, Some, None, Ok}
use Rattle.bds_value.specs.declared.change_numbers.TheConstants.{ASSIGN, ADD, SUBTRACT, MULTIPLY, DIVIDE, REMAINDER}
use Rattle.bds_value.specs.declared.value.Op.{Op}
use Rattle.bds_value.specs.declared.value.Op.TheVariants.{Add, Sub, Mul, Div, Rem, Concat, ListAdd, ListCat}
use Rattle.bds_value.specs.declared.value.Place.{Place}
use Rattle.bds_value.specs.declared.value.Place.TheVariants.{Index, Key}
use Rattle.bds_value.specs.declared.value.Value.{Value, out-Value}
use Rattle.bds_value.specs.declared.value.Value.TheOpen.{Value-F}
use Rattle.bds_value.specs.Operators.{short_text}
use Rattle.bds_value.specs.Text.{text_of}
use Rattle.bds_value.specs.Value.{type_of}
use Rattle.bds_value.specs.Types.{same_ty}
use Rattle.bds_value.specs.Options.{◌>>=◌}
use Rattle.bds_value.specs.Readers.{as_int, as_text}
use Rattle.bds_value.specs.RunFaults.{op_fault}
use Rattle.bds_code_frames.specs.Stack.{Stack, slot_at, swapped}
use Rattle.bds_machine_values.specs.Operands.{taken_all}
use Rattle.bds_machine_values.specs.Faults.{Outcome, outcome, and_then}
use Rattle.bds_machine_values.specs.Results.{applied, mutated, put_at, remade_at}

-- a step of a path, by its operand: false for an index, true for a key
abbrev pub step_of : Bool → Value → Option Place
step_of false v = as_int v >>= λ i. Some (Index i)
step_of true v = as_text v >>= λ k. Some (Key k)

abbrev pub path_of : List Bool → List Value → Option (List Place)
path_of [] [] = Some []
path_of (k ∷ ks) (v ∷ vs) = step_of k v >>= λ p. path_of ks vs >>= λ ps. Some (p ∷ ps)
path_of _ _ = None

-- how many operands a change takes besides the steps, by its number
abbrev pub operand_counts : List ℕ
operand_counts =
    1  -- =
    ∷ 1  -- +=
    ∷ 1  -- -=
    ∷ 1  -- *=
    ∷ 1  -- /=
    ∷ 1  -- %=
    ∷ 1  -- add and push
    ∷ 2  -- add at an index
    ∷ 1  -- removeIdx
    ∷ 1  -- remove from a list
    ∷ 1  -- remove from a map
    ∷ []

-- a list of the same type is joined, and another value is an item
abbrev pub more_items : Value → Value → Outcome Value
more_items part x = if same_ty (type_of part) (type_of x) then applied ListCat part x else applied ListAdd part x

abbrev pub added_at : Value-F Value → Value → Value → Outcome Value
added_at (Value-F.Int n) part x = applied Add part x
added_at (Value-F.Text t) part x = and_then (outcome op_fault (short_text (text_of x))) (applied Concat part)
added_at (Value-F.List t items) part x = more_items part x
added_at _ part x = None

-- what is added to a part: a number, the text of a value to a text, an item or a list of them to a list
abbrev pub added : Value → Value → Outcome Value
added part x = added_at (out-Value part) part x

-- an operator between a part and one operand
abbrev pub counted : Op → Value → List Value → Outcome Value
counted op part (x ∷ []) = applied op part x
counted op part _ = None

abbrev pub increased : Value → List Value → Outcome Value
increased part (x ∷ []) = added part x
increased part _ = None

-- a part after a change, by the change's number
abbrev pub part_changed : ℕ → Value → List Value → Outcome Value
part_changed what part args =
    if what == ADD then increased part args else
    if what == SUBTRACT then counted Sub part args else
    if what == MULTIPLY then counted Mul part args else
    if what == DIVIDE then counted Div part args else
    if what == REMAINDER then counted Rem part args else
    mutated what part args

abbrev pub replaced : List Place → Value → List Value → Outcome Value
replaced path v (new ∷ []) = put_at path v new
replaced path v _ = None

-- a value whose part at a path is changed
abbrev pub changed_at : ℕ → List Place → Value → List Value → Outcome Value
changed_at what path v args = remade_at (λ part. part_changed what part args) path v

-- a value whose part at a path is new, or is changed
abbrev pub value_changed : ℕ → List Place → Value → List Value → Outcome Value
value_changed what path v args = if what == ASSIGN then replaced path v args else changed_at what path v args

-- a variable: a slot of the newest call, or a global
abbrev pub variable : Bool → ℕ → List Value → Stack → Option Value
variable false slot globals s = slot_at slot s
variable true slot globals s = slice_get globals slot

-- globals and frames with another value of the variable
abbrev pub assigned : Bool → ℕ → Value → List Value → Stack → Outcome (List Value × Stack)
assigned false slot v globals s = swapped slot v s >>= λ old. Some (Ok (globals, old.1))
assigned true slot v globals s = slice_get globals slot >>= λ old. Some (Ok (slice_set globals slot v, s))

abbrev pub updated : Bool → ℕ → List Bool → ℕ → List Value → Stack → Outcome (List Value × Stack)
updated scope slot kinds what globals s =
    slice_get operand_counts what >>= λ n.
    taken_all n s >>= λ args.
    taken_all (length kinds) args.1 >>= λ steps.
    path_of kinds steps.0 >>= λ path.
    variable scope slot globals steps.1 >>= λ v.
    and_then (value_changed what path v args.0) (λ new. assigned scope slot new globals steps.1)
