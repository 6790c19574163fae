-- What an operator makes, and a call on a file by its place.
use Rattle.std.specs.Prelude.{ℕ, true, false, slice_get}
use Rattle.bds_value.specs.declared.value.At.{At}
use Rattle.bds_value.specs.declared.value.Value.TheVariants as value
use Rattle.bds_meaning.specs.OpeningExpressions.{operated, shown, or_else, file_calls}
use Rattle.bds_meaning.specs.OpeningTexts.{joined}
use Rattle.bds_meaning.specs.Term.{Term, Constant, Choose, Nothing}
use Rattle.bds_source_terms.specs.declared.operators.Manner.{Manner}
use Rattle.bds_source_terms.specs.declared.operators.Manner.TheVariants as manner

abbrev pub made_by : Manner → At → Term → Term → Term
made_by manner.Either at a b = Choose a (Constant (value.Bool true)) b
made_by manner.Both at a b = Choose a b (Constant (value.Bool false))
made_by (manner.Operated o) at a b = operated o at a b
made_by manner.Joined at a b = joined at (shown at a) (shown at b)

abbrev pub file_call : At → Term → ℕ → Term
file_call at a n = or_else (slice_get (file_calls at a) n) Nothing
