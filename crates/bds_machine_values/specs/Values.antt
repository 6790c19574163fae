-- The rows that push a value, move one between operands and slots, drop one, or give one for those that they take.
use Rattle.std.specs.Prelude.{ℕ, neg_ℤ, List, [], ◌∷◌, slice_get, nat_eq, cond, not, Bool, false, Option, Some, None, Ok}
use Rattle.std.specs.Int.{int_wrap, w64}
use Rattle.bds_value.specs.declared.value.Op.{Op}
use Rattle.bds_value.specs.declared.value.Place.{Place}
use Rattle.bds_value.specs.declared.value.Place.TheVariants.{Index, Key}
use Rattle.bds_value.specs.declared.value.Ty.{Ty}
use Rattle.bds_value.specs.declared.value.Value.{Value}
use Rattle.bds_value.specs.declared.value.Value.TheVariants as value
use Rattle.bds_value.specs.Operators.{short_text}
use Rattle.bds_value.specs.Value.{default_of}
use Rattle.bds_value.specs.Types.{is_void}
use Rattle.bds_value.specs.Options.{◌>>=◌}
use Rattle.bds_value.specs.Readers.{as_bool, as_int, as_text}
use Rattle.bds_value.specs.RunFaults.{op_fault}
use Rattle.bds_code_frames.specs.Stack.{Stack, popped, swapped}
use Rattle.bds_machine_values.specs.Operands.{taken_as, taken_all}
use Rattle.bds_machine_values.specs.Faults.{Outcome, outcome, gives, finishes}
use Rattle.bds_machine_values.specs.Results.{applied, part_of, called}

-- the value of a type before anything is stored
abbrev pub defaulted : Ty → Stack → Outcome Stack
defaulted t s = cond (is_void t) None (gives (default_of t) s)

-- the value of a variable
abbrev pub loaded : Option Value → Stack → Outcome Stack
loaded variable s = variable >>= λ v. gives v s

abbrev pub stored : ℕ → Stack → Outcome Stack
stored slot s = popped s >>= λ r. swapped slot r.0 r.1 >>= λ old. Some (Ok old.1)

abbrev pub dropped : Stack → Outcome Stack
dropped s = popped s >>= λ r. Some (Ok r.1)

-- an operator between the last two operands
abbrev pub operated : Op → Stack → Outcome Stack
operated op s = popped s >>= λ right. popped right.1 >>= λ left. finishes (applied op left.0 right.0) left.1

abbrev pub negated : Stack → Outcome Stack
negated s = taken_as as_int s >>= λ n. gives (value.Int (int_wrap w64 (neg_ℤ n.0))) n.1

abbrev pub inverted : Stack → Outcome Stack
inverted s = taken_as as_bool s >>= λ b. gives (value.Bool (not b.0)) b.1

-- a text of the last operand, where it is within the limit
abbrev pub shown : (Value → List ℕ) → Stack → Outcome Stack
shown text s = popped s >>= λ r. finishes (outcome op_fault (short_text (text r.0))) r.1

-- the part of the last operand one step below
abbrev pub part_given : Place → Stack → Outcome Stack
part_given place s = popped s >>= λ r. finishes (part_of place r.0) r.1

-- a list, and an index in it
abbrev pub item_given : Stack → Outcome Stack
item_given s = taken_as as_int s >>= λ i. part_given (Index i.0) i.1

-- a map, and a key of it
abbrev pub entry_given : Stack → Outcome Stack
entry_given s = taken_as as_text s >>= λ k. part_given (Key k.0) k.1

-- how many arguments a method takes, by its number
abbrev pub argument_counts : List ℕ
argument_counts =
    0  -- length
    ∷ 0  -- toUpper
    ∷ 0  -- toLower
    ∷ 0  -- trim
    ∷ 2  -- substr
    ∷ 1  -- startsWith
    ∷ 1  -- endsWith
    ∷ 1  -- indexOf
    ∷ 1  -- lastIndexOf
    ∷ 2  -- replace
    ∷ 1  -- split
    ∷ 0  -- parseInt
    ∷ 0  -- baseName
    ∷ 0  -- dirName
    ∷ 0  -- extName
    ∷ 0  -- removeExt
    ∷ 1  -- swapExt
    ∷ 0  -- size
    ∷ 0  -- isEmpty
    ∷ 1  -- has
    ∷ 1  -- join
    ∷ 0  -- head
    ∷ 0  -- tail
    ∷ 0  -- reverse
    ∷ 0  -- sort
    ∷ 0  -- size
    ∷ 1  -- hasKey
    ∷ 0  -- keys
    ∷ 0  -- values
    ∷ 0  -- readLines
    ∷ []

-- whether there is a number, and it is this one
abbrev pub counts : ℕ → Option ℕ → Bool
counts n None = false
counts n (Some k) = nat_eq k n

-- a method of a receiver, and its arguments behind it
abbrev pub method_given : ℕ → Stack → Outcome Stack
method_given m s =
    slice_get argument_counts m >>= λ n.
    taken_all n s >>= λ args.
    popped args.1 >>= λ receiver.
    finishes (called m receiver.0 args.0) receiver.1
