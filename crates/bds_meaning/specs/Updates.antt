-- What becomes of a variable of which a part changes. The values of the steps to the part come first, then those that the change takes.
use Rattle.std.specs.Prelude.{List, [], ◌∷◌, reverse, length, drop, if◌then◌else◌, Ok}
use Rattle.bds_value.specs.declared.value.Op.{Op}
use Rattle.bds_value.specs.declared.value.Op.TheVariants.{Add, Concat, ListAdd, ListCat}
use Rattle.bds_value.specs.declared.value.Place.{Place}
use Rattle.bds_value.specs.declared.value.Place.TheVariants.{Index, Key}
use Rattle.bds_value.specs.declared.value.Value.{Value, out-Value}
use Rattle.bds_value.specs.declared.value.Value.TheOpen.{Value-F}
use Rattle.bds_value.specs.Operators.{binary_of}
use Rattle.bds_value.specs.Path.{item_of, put_in}
use Rattle.bds_value.specs.Text.{text_of}
use Rattle.bds_value.specs.Value.{type_of}
use Rattle.bds_value.specs.Types.{same_ty}
use Rattle.bds_value.specs.Readers.{number_in, text_in}
use Rattle.bds_value.specs.RunFaults.{op_fault, put_fault}
use Rattle.bds_lib.specs.Change.{change_of}
use Rattle.bds_lib.specs.RunFaults.{lib_fault}
use Rattle.bds_schedule.specs.Values.{first}
use Rattle.bds_schedule.specs.Faults.{Outcome, outcome, and_then}
use Rattle.bds_meaning.specs.Computed.{text_made}
use Rattle.bds_meaning.specs.Term.{Change, Replaced, Increased, Reckoned, Mutated, Into, by_index, by_key}

abbrev pub place_of : Into → Value → Place
place_of by_index v = Index (number_in v)
place_of by_key v = Key (text_in v)

abbrev pub path_of : List Into → List Value → List Place
path_of (i ∷ is) (v ∷ vs) = place_of i v ∷ path_of is vs
path_of _ _ = []

abbrev pub operated : Op → Value → Value → Outcome Value
operated op part v = outcome op_fault (binary_of op part v)

-- what is added to a part: a number, the text of a value to a text, a list of the same type to a list, and else an item
abbrev pub added_at : Value-F Value → Value → Value → Outcome Value
added_at (Value-F.Text t) part v = and_then (text_made (text_of v)) (operated Concat part)
added_at (Value-F.List t items) part v = operated (if same_ty (type_of part) (type_of v) then ListCat else ListAdd) part v
added_at _ part v = operated Add part v

abbrev pub added : Value → Value → Outcome Value
added part v = added_at (out-Value part) part v

-- a part behind a change that reads it
abbrev pub part_after : Change → List Value → Value → Outcome Value
part_after Replaced args part = Ok (first args)
part_after Increased args part = added part (first args)
part_after (Reckoned op) args part = operated op part (first args)
part_after (Mutated what) args part = outcome lib_fault (change_of what part args)

-- a value with another part at a path
abbrev pub put : List Place → Value → Value → Outcome Value
put path v new = outcome put_fault (put_in path v new)

-- a value whose part at a path changes: it is read behind the arguments. A plain `=` reads nothing, so that it can add a key
abbrev pub value_after : Change → List Value → List Place → Value → Outcome Value
value_after Replaced args path v = put path v (first args)
value_after change args path v = and_then (outcome put_fault (item_of path v)) (λ part. and_then (part_after change args part) (put path v))

-- the steps and the arguments, in their order
abbrev pub changed_by : Change → List Into → List Value → Value → Outcome Value
changed_by change into vs v = value_after change (drop (length into) vs) (path_of into vs) v

-- a variable's value behind a change; the values come with the last first
abbrev pub changed : Change → List Into → List Value → Value → Outcome Value
changed change into vs v = changed_by change into (reverse vs) v
