-- What the checker asks of types. `Void` stands for a type that isn't known.
use Rattle.std.specs.Prelude.{Bool, true, false, ◌||◌, ◌&&◌, not, Option, Some, None, if◌then◌else◌}
use Rattle.bds_value.specs.Types.{same_ty, list_item}
use Rattle.bds_value.specs.declared.value.Ty.{Ty, out-Ty}
use Rattle.bds_value.specs.declared.value.Ty.TheVariants as ty
use Rattle.bds_value.specs.declared.value.Ty.TheOpen.{Ty-F}

abbrev pub known_at : Ty-F Ty → Bool
known_at Ty-F.Void = false
known_at _ = true

abbrev pub is_known : Ty → Bool
is_known t = known_at (out-Ty t)

-- known, and not such a type
abbrev pub lacks : Ty → Bool → Bool
lacks t holds = is_known t && not holds

-- both are known, and they are two types
abbrev pub differ : Ty → Ty → Bool
differ a b = is_known a && is_known b && not (same_ty a b)

abbrev pub or_void : Option Ty → Ty
or_void None = ty.Void
or_void (Some t) = t

abbrev pub list_of_at : Ty-F Ty → Ty → Ty
list_of_at Ty-F.Void item = ty.Void
list_of_at _ item = ty.List item

-- the lists of such items
abbrev pub list_of : Ty → Ty
list_of item = list_of_at (out-Ty item) item

abbrev pub map_of_at : Ty-F Ty → Ty → Ty
map_of_at Ty-F.Void item = ty.Void
map_of_at _ item = ty.Map item

abbrev pub map_of : Ty → Ty
map_of item = map_of_at (out-Ty item) item

-- a file, or a list of files
abbrev pub is_files : Ty → Bool
is_files t = same_ty t ty.Text || same_ty t (ty.List ty.Text)

-- the left operand is a list, and the right one an item of it or such a list
abbrev pub joins : Ty → Ty → Option Ty → Bool
joins a b None = false
joins a b (Some item) = same_ty item b || same_ty a b

-- the type of a sum, `Void` where there is none or a type that it needs isn't known; with a text on the left it is a text, whatever stands on the right
abbrev pub sum_ty : Ty → Ty → Ty
sum_ty a b =
    if same_ty a ty.Text then ty.Text else
    (if not (is_known a && is_known b) then ty.Void else
    (if joins a b (list_item a) then a else
    (if same_ty a ty.Int && same_ty b ty.Int then ty.Int else
    (if same_ty b ty.Text then ty.Text else ty.Void))))

-- the type of one of two values of one type
abbrev pub common_ty : Ty → Ty → Ty
common_ty a b = if is_known a && is_known b then a else ty.Void
