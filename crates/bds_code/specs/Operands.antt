-- The types of the operands, the last operand first, and what takes and gives them.
use Rattle.std.specs.Prelude.{ℕ, zero, suc, List, [], ◌∷◌, ◌++◌, cond, Bool, true, false, Option, Some, None, Result, Ok, Err}
use Rattle.bds_value.specs.declared.value.Ty.{Ty, out-Ty}
use Rattle.bds_value.specs.declared.value.Ty.TheVariants as ty
use Rattle.bds_value.specs.declared.value.Ty.TheOpen.{Ty-F}
use Rattle.bds_value.specs.Types.{same_ty, is_void, list_item_at, map_item_at}
use Rattle.bds_value.specs.Results.{◌>>=◌}
use Rattle.bds_code.specs.declared.effects.EffectFault.{EffectFault}
use Rattle.bds_code.specs.declared.effects.EffectFault.TheVariants.{Needs, Number}

-- the thing of a number, which has to be there
abbrev pub there : {X : Type 0} → Option X → ℕ → Result X EffectFault
there None n = Err (Number n)
there (Some x) n = Ok x

-- what the operands have to be
abbrev pub provided : {X : Type 0} → Bool → X → Result X EffectFault
provided b x = cond b (Ok x) (Err Needs)

-- a type that values have
abbrev pub value_ty : Ty → Result Ty EffectFault
value_ty t = cond (is_void t) (Err Needs) (Ok t)

-- the last operand's type, whichever it is, and the others
abbrev pub any_taken : List Ty → Result (Ty × List Ty) EffectFault
any_taken [] = Err Needs
any_taken (t ∷ ts) = cond (is_void t) (Err Needs) (Ok (t, ts))

-- the list without a last operand of this type
abbrev pub taken : Ty → List Ty → Result (List Ty) EffectFault
taken t s = any_taken s >>= λ r. provided (same_ty t r.0) r.1

-- without operands of these types, the last of them first
abbrev pub all_taken : List Ty → List Ty → Result (List Ty) EffectFault
all_taken [] s = Ok s
all_taken (t ∷ ts) s = taken t s >>= all_taken ts

-- the type inside, which has to be one that values have
abbrev pub inside : Option Ty → Result Ty EffectFault
inside None = Err Needs
inside (Some t) = value_ty t

abbrev pub item_at : Ty-F Ty → Result Ty EffectFault
item_at y = inside (list_item_at y)

-- the type of the items of a list
abbrev pub item_of : Ty → Result Ty EffectFault
item_of t = item_at (out-Ty t)

abbrev pub entry_at : Ty-F Ty → Result Ty EffectFault
entry_at y = inside (map_item_at y)

-- the type of the values of a map
abbrev pub entry_of : Ty → Result Ty EffectFault
entry_of t = entry_at (out-Ty t)

-- what a value of a type is as operands: Void has none
abbrev pub given : Ty → List Ty
given t = cond (is_void t) [] (t ∷ [])

abbrev pub giving : Ty → List Ty → Result (List Ty) EffectFault
giving t s = Ok (given t ++ s)

-- takes operands of these types, the last of them first, and gives one of that type
abbrev pub swapped : List Ty → Ty → List Ty → Result (List Ty) EffectFault
swapped takes t s = all_taken takes s >>= giving t

-- without a key, and a value of this type behind it
abbrev pub pair_taken : Ty → List Ty → Result (List Ty) EffectFault
pair_taken t s = taken t s >>= taken ty.Text

-- without so many pairs
abbrev pub pairs_taken : ℕ → Ty → List Ty → Result (List Ty) EffectFault
pairs_taken zero t s = Ok s
pairs_taken (suc n) t s = pair_taken t s >>= pairs_taken n t
