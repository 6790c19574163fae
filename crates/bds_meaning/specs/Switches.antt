-- What a `switch` does once its value is there: which label comes next, and which statements run.
use Rattle.std.specs.Prelude.{ℕ, Bool, true, false, Ok, Err, Result}
use Rattle.bds_value.specs.declared.faults.OpFault.{OpFault}
use Rattle.bds_value.specs.declared.value.Op.TheVariants as op
use Rattle.bds_value.specs.declared.value.Value.{Value}
use Rattle.bds_value.specs.Operators.{binary_of}
use Rattle.bds_value.specs.Readers.{is_true}
use Rattle.bds_meaning.specs.Term.{Term, Nothing, Then, Case, Default, Tries, Within}

abbrev pub is_true_result : Result Value OpFault → Bool
is_true_result (Ok v) = is_true v
is_true_result (Err fault) = false

-- whether a label is equal to the value
abbrev pub is_equal : Value → Value → Bool
is_equal label v = is_true_result (binary_of op.Equal label v)

-- the statements of these cases, one behind another
abbrev pub statements_of : Term → Term
statements_of (Case label a cases) = Then a (statements_of cases)
statements_of (Default a cases) = Then a (statements_of cases)
statements_of _ = Nothing

-- the cases from `default` on, or none
abbrev pub from_default : Term → Term
from_default (Case label a cases) = from_default cases
from_default (Default a cases) = Default a cases
from_default _ = Nothing

-- The next label among these cases is evaluated; where there is none, the other cases run. Around the `switch` k locals are in force.
abbrev pub tried : ℕ → Value → Term → Term → Term
tried k v (Case label a cases) others = Tries v label a cases others
tried k v (Default a cases) others = tried k v cases others
tried k v _ others = Within k (statements_of others)

-- behind a label: where it is equal, its statements run and those of all cases behind it
abbrev pub compared : Bool → ℕ → Value → Term → Term → Term → Term
compared true k v a cases others = Within k (Then a (statements_of cases))
compared false k v a cases others = tried k v cases others
