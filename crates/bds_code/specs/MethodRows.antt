-- What each method does to the types of the operands, by the table of methods: the receiver, and behind it the arguments.
use Rattle.std.specs.Prelude.{ℕ, List, map, reverse, slice_get, Option, Result}
use Rattle.std.specs.Option.{ok_or}
use Rattle.bds_value.specs.declared.methods.MethodRow.{MethodRow}
use Rattle.bds_value.specs.declared.methods.Takes.{Takes}
use Rattle.bds_value.specs.declared.value.Ty.{Ty}
use Rattle.bds_value.specs.declared.methods.Method.TheVariants.{Plain}
use Rattle.bds_value.specs.Methods.{part_ty, parts_of, gives_ty, inner_of, row_at, arguments_of}
use Rattle.bds_value.specs.Results.{◌>>=◌}
use Rattle.bds_code.specs.declared.effects.EffectFault.{EffectFault}
use Rattle.bds_code.specs.declared.effects.EffectFault.TheVariants.{Needs}
use Rattle.bds_code.specs.Operands.{there, taken, all_taken, giving}

abbrev pub Operands : Type 0
Operands = List Ty → Result (List Ty) EffectFault

-- takes the arguments of a method, where the items or values of its receiver have a type
abbrev pub arguments_taken : Ty → Takes → Operands
arguments_taken item takes = all_taken (reverse (map (part_ty item) (parts_of takes)))

-- takes the receiver below the arguments too, and gives the result
abbrev pub exchanged : Ty → Ty → MethodRow → Operands
exchanged receiver item r s = arguments_taken item r.takes s >>= taken receiver >>= giving (gives_ty item r.gives)

abbrev pub applied : Ty → MethodRow → Operands
applied receiver r = exchanged receiver (inner_of receiver) r

-- a method by its number: the receiver lies below as many operands as the method has arguments
abbrev pub method : ℕ → Operands
method m s = there (arguments_of (Plain m)) m >>= λ n. ok_or (slice_get s n) Needs >>= λ receiver. ok_or (row_at receiver (Plain m)) Needs >>= λ r. applied receiver r s
