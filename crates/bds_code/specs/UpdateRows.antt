-- What a change of a part of a variable takes: the steps to the part, and behind them what the change needs.
use Rattle.std.specs.Prelude.{ℕ, List, [], ◌∷◌, slice_get, reverse, map, cond, Bool, true, false, ◌||◌, Option, Result, Ok, Err}
use Rattle.std.specs.Option.{ok_or}
use Rattle.bds_value.specs.declared.value.Ty.{Ty, out-Ty}
use Rattle.bds_value.specs.declared.value.Ty.TheVariants as ty
use Rattle.bds_value.specs.declared.value.Ty.TheOpen.{Ty-F}
use Rattle.bds_value.specs.declared.methods.Method.TheVariants.{Change}
use Rattle.bds_value.specs.Methods.{inner_of, row_at}
use Rattle.bds_value.specs.Types.{same_ty}
use Rattle.bds_value.specs.Results.{◌>>=◌}
use Rattle.bds_code.specs.declared.effects.EffectFault.{EffectFault}
use Rattle.bds_code.specs.declared.effects.EffectFault.TheVariants.{Needs}
use Rattle.bds_code.specs.Operands.{there, provided, any_taken, taken, all_taken, item_of, entry_of}
use Rattle.bds_code.specs.MethodRows.{Operands, arguments_taken}

-- the type of a step's operand: an index or a key
abbrev pub step_ty : Bool → Ty
step_ty false = ty.Int
step_ty true = ty.Text

abbrev pub step_into : Bool → Ty → Result Ty EffectFault
step_into false t = item_of t
step_into true t = entry_of t

-- the type of the part to which steps lead
abbrev pub part_ty : Ty → List Bool → Result Ty EffectFault
part_ty t [] = Ok t
part_ty t (k ∷ ks) = step_into k t >>= λ u. part_ty u ks

-- an item or a whole list behind a list
abbrev pub one_or_all : Ty → Ty → Operands
one_or_all p t s = any_taken s >>= λ r. provided (same_ty t r.0 || same_ty p r.0) r.1

abbrev pub added_at : Ty-F Ty → Ty → Operands
added_at Ty-F.Int p s = taken ty.Int s
added_at Ty-F.Text p s = any_taken s >>= λ r. Ok r.1
added_at (Ty-F.List t) p s = item_of p >>= λ t. one_or_all p t s
added_at _ p s = Err Needs

-- what is added to a part: a number, any value to a text, an item or a list of them to a list
abbrev pub added : Ty → Operands
added p s = added_at (out-Ty p) p s

-- a number for a number
abbrev pub counted : Ty → Operands
counted p s = provided (same_ty ty.Int p) s >>= taken ty.Int

-- the arguments of a method that changes a part
abbrev pub mutated : ℕ → Ty → Operands
mutated what p s = ok_or (row_at p (Change what)) Needs >>= λ r. arguments_taken (inner_of p) r.takes s

-- the changes by their numbers, which count the rows from 0
abbrev pub change_rows : List (Ty → Operands)
change_rows =
    taken  -- =
    ∷ added  -- +=
    ∷ counted  -- -=
    ∷ counted  -- *=
    ∷ counted  -- /=
    ∷ counted  -- %=
    ∷ mutated 6  -- add and push
    ∷ mutated 7  -- add at an index
    ∷ mutated 8  -- removeIdx
    ∷ mutated 9  -- remove from a list
    ∷ mutated 10  -- remove from a map
    ∷ []

-- a change by its number
abbrev pub changed : ℕ → Ty → Operands
changed what p s = there (slice_get change_rows what) what >>= λ change. change p s

-- a change of a part of a variable; the variable and the change have to be there first of all
abbrev pub updated : Option Ty → ℕ → List Bool → ℕ → Operands
updated variable slot kinds what s =
    there variable slot >>= λ v.
    there (slice_get change_rows what) what >>= λ change.
    part_ty v kinds >>= λ p.
    change p s >>= all_taken (reverse (map step_ty kinds))
