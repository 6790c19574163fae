-- What a unit has to be apart from the types of its operands. A count is a number of 32 bits.
use Rattle.std.specs.Prelude.{ℕ, ◌&&◌, ◌||◌, nat_eq, nat_lt, nat_le, List, [], ◌∷◌, length, slice_get, Bool, true, false, Option, Some, None, ◌-◌}
use Rattle.std.specs.List.{list_all}
use Rattle.bds_value.specs.declared.TheConstants.{MAX_COUNT, MAX_TEXT, MAX_NESTING, MAX_CODE}
use Rattle.bds_value.specs.declared.value.At.{At}
use Rattle.bds_value.specs.declared.value.Ty.{Ty}
use Rattle.bds_value.specs.Reading.{follows}
use Rattle.bds_value.specs.Types.{is_void, fits_within}
use Rattle.bds_code.specs.declared.instr.Instr.{Instr}
use Rattle.bds_code.specs.declared.instr.Instr.TheVariants.{PushText, PushDefault, MakeList, MakeMap, Update}
use Rattle.bds_code.specs.declared.unit.Function.{Function}
use Rattle.bds_code.specs.declared.unit.Unit.{Unit as CodeUnit}

-- a type of values
abbrev pub is_value_ty : Ty → Bool
is_value_ty t = fits_within t MAX_NESTING

abbrev pub are_value_tys : List Ty → Bool
are_value_tys ts = nat_le (length ts) MAX_COUNT && list_all is_value_ty ts

-- the type of items of which a list or map is made
abbrev pub is_item_ty : Ty → Bool
is_item_ty t = fits_within t (MAX_NESTING - 1)

abbrev pub is_text : List ℕ → Bool
is_text t = nat_le (length t) MAX_TEXT

abbrev pub is_whole_instr : Instr → Bool
is_whole_instr (PushText t) = is_text t
is_whole_instr (PushDefault t) = is_value_ty t
is_whole_instr (MakeList t n) = is_item_ty t
is_whole_instr (MakeMap t n) = is_item_ty t
is_whole_instr (Update scope slot kinds what) = nat_le (length kinds) MAX_COUNT
is_whole_instr _ = true

-- the places of labels rise, the first behind a last one
abbrev pub rises_from : Option ℕ → List (ℕ × List Ty) → Bool
rises_from last [] = true
rises_from last (l ∷ ls) = follows nat_lt last l.0 && rises_from (Some l.0) ls

abbrev pub rises : List (ℕ × List Ty) → Bool
rises = rises_from None

abbrev pub is_label : ℕ → ℕ × List Ty → Bool
is_label size l = nat_lt l.0 size && are_value_tys l.1

abbrev pub are_labels : ℕ → List (ℕ × List Ty) → Bool
are_labels size ls = nat_le (length ls) MAX_COUNT && (rises ls && list_all (is_label size) ls)

abbrev pub is_code : List Instr → Bool
is_code c = nat_lt 0 (length c) && (nat_le (length c) MAX_CODE && list_all is_whole_instr c)

-- one line for each instruction, in one of the files
abbrev pub are_lines : ℕ → ℕ → List At → Bool
are_lines files size ls = nat_eq (length ls) size && list_all (λ a. nat_lt a.file files) ls

abbrev pub is_heading : Function → Bool
is_heading f = is_text f.name && (are_value_tys f.params && (are_value_tys f.locals && (is_void f.ret || is_value_ty f.ret)))

-- a function with its types, texts, code, labels and lines
abbrev pub is_whole : CodeUnit → Function → Bool
is_whole u f = is_heading f && (is_code f.code && (are_labels (length f.code) f.labels && are_lines (length u.files) (length f.code) f.lines))

-- a function that takes nothing and gives nothing
abbrev pub begins : Option Function → Bool
begins None = false
begins (Some f) = nat_eq (length f.params) 0 && is_void f.ret

-- what a unit is besides its functions, and its first function
abbrev pub is_whole_unit : CodeUnit → Bool
is_whole_unit u =
    (nat_le (length u.files) MAX_COUNT && list_all is_text u.files)
    && (are_value_tys u.globals && (nat_le (length u.functions) MAX_COUNT && begins (slice_get u.functions 0)))
