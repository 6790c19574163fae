-- The result of a method, by its number.
use Rattle.std.specs.Prelude.{ℕ, List, [], ◌∷◌, Result}
use Rattle.bds_value.specs.declared.value.Ty.{Ty}
use Rattle.bds_value.specs.declared.value.Value.{Value, out-Value}
use Rattle.bds_value.specs.declared.value.Value.TheOpen.{Value-F}
use Rattle.bds_lib.specs.declared.faults.LibFault.{LibFault}
use Rattle.bds_lib.specs.Lists.{list_alone, list_with}
use Rattle.bds_lib.specs.Maps.{map_alone, map_with}
use Rattle.bds_lib.specs.Results.{no_row}
use Rattle.bds_lib.specs.Texts.{text_alone, text_with, text_with_two}

abbrev pub text_method : ℕ → List ℕ → List Value → Result Value LibFault
text_method m s [] = text_alone m s
text_method m s (x ∷ []) = text_with m s (out-Value x)
text_method m s (x ∷ y ∷ []) = text_with_two m s (out-Value x) (out-Value y)
text_method m s _ = no_row

abbrev pub list_method : ℕ → Ty → List Value → List Value → Result Value LibFault
list_method m t items [] = list_alone m t items
list_method m t items (x ∷ []) = list_with m items x
list_method m t items _ = no_row

abbrev pub map_method : ℕ → Ty → List (List ℕ × Value) → List Value → Result Value LibFault
map_method m t ps [] = map_alone m t ps
map_method m t ps (x ∷ []) = map_with m ps (out-Value x)
map_method m t ps _ = no_row

abbrev pub method_at : ℕ → Value-F Value → List Value → Result Value LibFault
method_at m (Value-F.Text s) args = text_method m s args
method_at m (Value-F.List t items) args = list_method m t items args
method_at m (Value-F.Map t ps) args = map_method m t ps args
method_at m _ args = no_row

-- what a method gives of a receiver and arguments, or its fault; where they are of no row, some value
abbrev pub method_of : ℕ → Value → List Value → Result Value LibFault
method_of m receiver args = method_at m (out-Value receiver) args
