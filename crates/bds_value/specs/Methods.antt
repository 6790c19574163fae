-- The table of methods: their names, what they are, and the types that they take and give.
use Rattle.std.specs.Prelude.{ℕ, List, [], ◌∷◌, ◌++◌, length, ◌==◌, ◌&&◌, Bool, false, Option, Some, None, codes, if◌then◌else◌}
use Rattle.std.specs.Option.{option_map}
use Rattle.std.specs.Str.{bytes_eq}
use Rattle.bds_value.specs.declared.change_numbers.TheConstants.{PUSH, INSERT, REMOVE_INDEX, REMOVE_ITEM, REMOVE_KEY}
use Rattle.bds_value.specs.declared.method_numbers.TheConstants.{LENGTH, TO_UPPER, TO_LOWER, TRIM, SUBSTR, STARTS_WITH, ENDS_WITH, INDEX_OF, LAST_INDEX_OF, REPLACE, SPLIT, PARSE_INT, BASE_NAME, DIR_NAME, EXT_NAME, REMOVE_EXT, SWAP_EXT, LIST_SIZE, IS_EMPTY, HAS, JOIN, HEAD, TAIL, REVERSE, SORT, MAP_SIZE, HAS_KEY, KEYS, VALUES, LINES}
use Rattle.bds_value.specs.declared.methods.Method.{Method}
use Rattle.bds_value.specs.declared.methods.Method.TheVariants.{Plain, File, Change}
use Rattle.bds_value.specs.declared.methods.MethodRow.{MethodRow}
use Rattle.bds_value.specs.declared.methods.Part.{Part}
use Rattle.bds_value.specs.declared.methods.Part.TheVariants as part
use Rattle.bds_value.specs.declared.methods.Takes.{Takes}
use Rattle.bds_value.specs.declared.methods.Takes.TheVariants.{Nothing, One, Two}
use Rattle.bds_value.specs.Types.{is_void}
use Rattle.bds_value.specs.declared.value.Ty.{Ty, out-Ty}
use Rattle.bds_value.specs.declared.value.Ty.TheVariants as ty
use Rattle.bds_value.specs.declared.value.Ty.TheOpen.{Ty-F}

-- the type that a part of a row stands for, where the receiver's items or values have a type
abbrev pub part_ty : Ty → Part → Ty
part_ty item part.Bool = ty.Bool
part_ty item part.Int = ty.Int
part_ty item part.Text = ty.Text
part_ty item part.Texts = ty.List ty.Text
part_ty item part.Item = item
part_ty item part.Items = ty.List item

-- Void where nothing is given
abbrev pub gives_ty : Ty → Option Part → Ty
gives_ty item None = ty.Void
gives_ty item (Some p) = part_ty item p

abbrev pub parts_of : Takes → List Part
parts_of Nothing = []
parts_of (One p) = p ∷ []
parts_of (Two p q) = p ∷ q ∷ []

-- a name and a number of arguments, the method that has them, and the types that it takes and gives
pub record Row : Type 0 where
  pub name : List ℕ
  pub count : ℕ
  pub method : Method
  pub takes : Takes
  pub gives : Option Part

-- the number of arguments is that of their types
abbrev pub row : List ℕ → Takes → Method → Option Part → Row
row name takes method gives = record { name = name; count = length (parts_of takes); method = method; takes = takes; gives = gives }

-- what a row says of a method, without its name
abbrev pub row_of : Row → MethodRow
row_of r = record { method = r.method; takes = r.takes; gives = r.gives }

-- what is asked of the row with a name and so many arguments
abbrev pub find_in : {X : Type 0} → (Row → X) → List Row → List ℕ → ℕ → Option X
find_in what [] name count = None
find_in what (r ∷ rows) name count = if bytes_eq r.name name && (r.count == count) then Some (what r) else find_in what rows name count

abbrev pub find_row : List Row → List ℕ → ℕ → Option Method
find_row = find_in (λ (r : Row). r.method)

-- the methods of a text
abbrev pub text_rows : List Row
text_rows =
    row (codes "length") Nothing (Plain LENGTH) (Some part.Int)
    ∷ row (codes "toUpper") Nothing (Plain TO_UPPER) (Some part.Text)
    ∷ row (codes "toLower") Nothing (Plain TO_LOWER) (Some part.Text)
    ∷ row (codes "trim") Nothing (Plain TRIM) (Some part.Text)
    ∷ row (codes "substr") (Two part.Int part.Int) (Plain SUBSTR) (Some part.Text)
    ∷ row (codes "startsWith") (One part.Text) (Plain STARTS_WITH) (Some part.Bool)
    ∷ row (codes "endsWith") (One part.Text) (Plain ENDS_WITH) (Some part.Bool)
    ∷ row (codes "indexOf") (One part.Text) (Plain INDEX_OF) (Some part.Int)
    ∷ row (codes "lastIndexOf") (One part.Text) (Plain LAST_INDEX_OF) (Some part.Int)
    ∷ row (codes "replace") (Two part.Text part.Text) (Plain REPLACE) (Some part.Text)
    ∷ row (codes "split") (One part.Text) (Plain SPLIT) (Some part.Texts)
    ∷ row (codes "parseInt") Nothing (Plain PARSE_INT) (Some part.Int)
    ∷ row (codes "baseName") Nothing (Plain BASE_NAME) (Some part.Text)
    ∷ row (codes "dirName") Nothing (Plain DIR_NAME) (Some part.Text)
    ∷ row (codes "extName") Nothing (Plain EXT_NAME) (Some part.Text)
    ∷ row (codes "removeExt") Nothing (Plain REMOVE_EXT) (Some part.Text)
    ∷ row (codes "swapExt") (One part.Text) (Plain SWAP_EXT) (Some part.Text)
    ∷ row (codes "read") Nothing (File 0) (Some part.Text)
    ∷ row (codes "readLines") Nothing (File 1) (Some part.Texts)
    ∷ row (codes "write") (One part.Text) (File 2) None
    ∷ row (codes "rm") Nothing (File 3) None
    ∷ row (codes "exists") Nothing (File 4) (Some part.Bool)
    ∷ row (codes "isEmpty") Nothing (File 5) (Some part.Bool)
    ∷ row (codes "size") Nothing (File 6) (Some part.Int)
    ∷ []

-- the methods of a text that have no name: the lines of a text that was read
abbrev pub inner_rows : List Row
inner_rows = row [] Nothing (Plain LINES) (Some part.Texts) ∷ []

-- the methods of every list
abbrev pub list_rows : List Row
list_rows =
    row (codes "size") Nothing (Plain LIST_SIZE) (Some part.Int)
    ∷ row (codes "isEmpty") Nothing (Plain IS_EMPTY) (Some part.Bool)
    ∷ row (codes "head") Nothing (Plain HEAD) (Some part.Item)
    ∷ row (codes "tail") Nothing (Plain TAIL) (Some part.Items)
    ∷ row (codes "reverse") Nothing (Plain REVERSE) (Some part.Items)
    ∷ row (codes "add") (One part.Item) (Change PUSH) None
    ∷ row (codes "push") (One part.Item) (Change PUSH) None
    ∷ row (codes "add") (Two part.Int part.Item) (Change INSERT) None
    ∷ row (codes "removeIdx") (One part.Int) (Change REMOVE_INDEX) None
    ∷ []

abbrev pub plain_rows : List Row
plain_rows = row (codes "has") (One part.Item) (Plain HAS) (Some part.Bool) ∷ row (codes "remove") (One part.Item) (Change REMOVE_ITEM) None ∷ []

abbrev pub sort_row : Row
sort_row = row (codes "sort") Nothing (Plain SORT) (Some part.Items)

abbrev pub join_row : Row
join_row = row (codes "join") (One part.Text) (Plain JOIN) (Some part.Text)

-- further methods of a list, by the type of its items
abbrev pub item_rows : Ty-F Ty → List Row
item_rows Ty-F.Bool = plain_rows
item_rows Ty-F.Int = plain_rows ++ sort_row ∷ []
item_rows Ty-F.Text = plain_rows ++ sort_row ∷ join_row ∷ []
item_rows _ = []

-- the methods of a map
abbrev pub map_rows : List Row
map_rows =
    row (codes "size") Nothing (Plain MAP_SIZE) (Some part.Int)
    ∷ row (codes "hasKey") (One part.Text) (Plain HAS_KEY) (Some part.Bool)
    ∷ row (codes "keys") Nothing (Plain KEYS) (Some part.Texts)
    ∷ row (codes "values") Nothing (Plain VALUES) (Some part.Items)
    ∷ row (codes "remove") (One part.Text) (Change REMOVE_KEY) None
    ∷ []

abbrev pub rows_of : Ty-F Ty → List Row
rows_of Ty-F.Text = text_rows
rows_of (Ty-F.List t) = list_rows ++ item_rows (out-Ty t)
rows_of (Ty-F.Map t) = map_rows
rows_of _ = []

-- the method of a receiver's type that has the name and the number of arguments, if there is one
abbrev pub signature_of : Ty → List ℕ → ℕ → Option Method
signature_of receiver name count = find_row (rows_of (out-Ty receiver)) name count

-- and what its row says
abbrev pub row_named : Ty → List ℕ → ℕ → Option MethodRow
row_named receiver name count = find_in row_of (rows_of (out-Ty receiver)) name count

-- By the method

-- the type of the items of a list or of the values of a map
abbrev pub inner_at : Ty-F Ty → Ty
inner_at (Ty-F.List t) = t
inner_at (Ty-F.Map t) = t
inner_at _ = ty.Void

abbrev pub inner_of : Ty → Ty
inner_of t = inner_at (out-Ty t)

-- all methods of a receiver's type, also those without a name; a list or map that can hold nothing has none
abbrev pub rows_at : Ty-F Ty → List Row
rows_at Ty-F.Text = text_rows ++ inner_rows
rows_at (Ty-F.List t) = if is_void t then [] else list_rows ++ item_rows (out-Ty t)
rows_at (Ty-F.Map t) = if is_void t then [] else map_rows
rows_at _ = []

abbrev pub same_method : Method → Method → Bool
same_method (Plain m) (Plain n) = m == n
same_method (File m) (File n) = m == n
same_method (Change m) (Change n) = m == n
same_method _ _ = false

abbrev pub row_in : List Row → Method → Option MethodRow
row_in [] wanted = None
row_in (r ∷ rows) wanted = if same_method r.method wanted then Some (row_of r) else row_in rows wanted

-- the row of a method at a receiver's type, if there is one
abbrev pub row_at : Ty → Method → Option MethodRow
row_at receiver wanted = row_in (rows_at (out-Ty receiver)) wanted

-- the methods of all types
abbrev pub all_rows : List Row
all_rows = (text_rows ++ inner_rows) ++ ((list_rows ++ item_rows Ty-F.Text) ++ map_rows)

-- how many arguments a method takes
abbrev pub arguments_of : Method → Option ℕ
arguments_of wanted = option_map (λ (r : MethodRow). length (parts_of r.takes)) (row_in all_rows wanted)
