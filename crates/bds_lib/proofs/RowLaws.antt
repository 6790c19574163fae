-- The names of methods and changes, and the rows of the tables.
use Rattle.std.proofs.Common.{◌≡◌, ℕ, List, [], ◌∷◌, ◌++◌, length, Bool, true, false, Option, Some, refl, subst, inl, inr}
use Rattle.std.proofs.lemmas.Bool.{eqb-true}
use Rattle.std.specs.Bool.{◌==◌}
use Rattle.std.specs.List.{AllByRecursion}
use Rattle.std.specs.Prelude.{codes, ◌⊎◌}
use Rattle.std.specs.Str.{bytes_eq}
use Rattle.bds_value.specs.declared.methods.Method.{Method}
use Rattle.bds_value.specs.declared.methods.Method.TheVariants.{Plain, File, Change}
use Rattle.bds_value.specs.declared.value.Ty.{Ty, out-Ty}
use Rattle.bds_value.specs.declared.value.Ty.TheVariants as ty
use Rattle.bds_value.specs.declared.value.Ty.TheOpen.{Ty-F}
use Rattle.bds_value.specs.Methods.{Row, find_row, text_rows, list_rows, item_rows, map_rows, rows_of, signature_of}
use Rattle.bds_lib.specs.Rows.{Signature, signature, find, signatures_of, text_signatures, list_signatures, item_signatures, map_signatures, IsRow, list_changes, item_changes, changes_of, IsChangeRow}
use Rattle.bds_lib.proofs.FormedLaws.{all_append}
use Rattle.bds_lib.proofs.TypedLaws.{found, ◌&◌}

-- what holds of each row holds of the one with a name and a number of arguments
named : (P : ℕ → Method → Type 0) (rows : List Row) (name : List ℕ) (count : ℕ) (m : Method) → AllByRecursion {X = Row} (λ r. P r.count r.method) rows → find_row rows name count ≡ Some m → P count m
named P [] name count m h e = absurd (cc)
named P (r ∷ rows) name count m h e = by_test (named P rows name count m h.1) (bytes_eq r.name name) (r.count == count) refl refl
  where
    by_test : (find_row rows name count ≡ Some m → P count m) → (a b : Bool) → bytes_eq r.name name ≡ a → (r.count == count) ≡ b → P count m
    by_test again true true is it =
        let g : ◌≡◌ {A = Option Method} (Some r.method) (Some m) = rw (is, it) at e in
        let same : r.method ≡ m = cc in
        subst (λ n. P n m) (eqb-true r.count count it) (subst (P r.count) same h.0)
    by_test again true false is it = let g : find_row rows name count ≡ Some m = rw (is, it) at e in again g
    by_test again false b is it = let g : find_row rows name count ≡ Some m = rw is at e in again g

-- a method that is named has a row
Known : List (ℕ × Signature) → ℕ → Method → Type 0
Known kinds count m = (n : ℕ) → m ≡ Plain n → (args : List Ty) × (t : Ty) × (find n kinds ≡ Some (signature args t)) × (length args ≡ count)

is_plain : (kinds : List (ℕ × Signature)) (i : ℕ) (k : Signature) → find i kinds ≡ Some k → Known kinds (length k.arguments) (Plain i)
unfolding Known
is_plain kinds i k e n same = let it : i ≡ n = cc in (k.arguments, k.gives, subst (λ j. find j kinds ≡ Some k) it e, refl)

is_file : (kinds : List (ℕ × Signature)) (count : ℕ) (i : ℕ) → Known kinds count (File i)
unfolding Known
is_file kinds count i n same = absurd (cc)

is_other : (kinds : List (ℕ × Signature)) (count : ℕ) (i : ℕ) → Known kinds count (Change i)
unfolding Known
is_other kinds count i n same = absurd (cc)

text_known : AllByRecursion {X = Row} (λ r. Known text_signatures r.count r.method) text_rows
text_known =
    is_plain _ 0 (signature [] ty.Int) refl
    & is_plain _ 1 (signature [] ty.Text) refl
    & is_plain _ 2 (signature [] ty.Text) refl
    & is_plain _ 3 (signature [] ty.Text) refl
    & is_plain _ 4 (signature (ty.Int ∷ ty.Int ∷ []) ty.Text) refl
    & is_plain _ 5 (signature (ty.Text ∷ []) ty.Bool) refl
    & is_plain _ 6 (signature (ty.Text ∷ []) ty.Bool) refl
    & is_plain _ 7 (signature (ty.Text ∷ []) ty.Int) refl
    & is_plain _ 8 (signature (ty.Text ∷ []) ty.Int) refl
    & is_plain _ 9 (signature (ty.Text ∷ ty.Text ∷ []) ty.Text) refl
    & is_plain _ 10 (signature (ty.Text ∷ []) (ty.List ty.Text)) refl
    & is_plain _ 11 (signature [] ty.Int) refl
    & is_plain _ 12 (signature [] ty.Text) refl
    & is_plain _ 13 (signature [] ty.Text) refl
    & is_plain _ 14 (signature [] ty.Text) refl
    & is_plain _ 15 (signature [] ty.Text) refl
    & is_plain _ 16 (signature (ty.Text ∷ []) ty.Text) refl
    & is_file _ _ 0
    & is_file _ _ 1
    & is_file _ _ 2
    & is_file _ _ 3
    & is_file _ _ 4
    & is_file _ _ 5
    & is_file _ _ 6
    & tt

list_known : (t : Ty) (more : List (ℕ × Signature)) → AllByRecursion {X = Row} (λ r. Known (list_signatures t ++ more) r.count r.method) list_rows
list_known t more =
    is_plain _ 17 (signature [] ty.Int) refl
    & is_plain _ 18 (signature [] ty.Bool) refl
    & is_plain _ 21 (signature [] t) refl
    & is_plain _ 22 (signature [] (ty.List t)) refl
    & is_plain _ 23 (signature [] (ty.List t)) refl
    & is_other _ _ 6
    & is_other _ _ 6
    & is_other _ _ 7
    & is_other _ _ 8
    & tt

item_known : (t : Ty) (y : Ty-F Ty) → AllByRecursion {X = Row} (λ r. Known (list_signatures t ++ item_signatures t y) r.count r.method) (item_rows y)
item_known t Ty-F.Bool = is_plain _ 19 (signature (t ∷ []) ty.Bool) refl & is_other _ _ 9 & tt
item_known t Ty-F.Int = is_plain _ 19 (signature (t ∷ []) ty.Bool) refl & is_other _ _ 9 & is_plain _ 24 (signature [] (ty.List t)) refl & tt
item_known t Ty-F.Text = is_plain _ 19 (signature (t ∷ []) ty.Bool) refl & is_other _ _ 9 & is_plain _ 24 (signature [] (ty.List t)) refl & is_plain _ 20 (signature (ty.Text ∷ []) ty.Text) refl & tt
item_known t (Ty-F.List u) = tt
item_known t (Ty-F.Map u) = tt
item_known t Ty-F.Void = tt

map_known : (t : Ty) → AllByRecursion {X = Row} (λ r. Known (map_signatures t) r.count r.method) map_rows
map_known t =
    is_plain _ 25 (signature [] ty.Int) refl
    & is_plain _ 26 (signature (ty.Text ∷ []) ty.Bool) refl
    & is_plain _ 27 (signature [] (ty.List ty.Text)) refl
    & is_plain _ 28 (signature [] (ty.List t)) refl
    & is_other _ _ 10
    & tt

all_known : (y : Ty-F Ty) → AllByRecursion {X = Row} (λ r. Known (signatures_of y) r.count r.method) (rows_of y)
all_known Ty-F.Text = text_known
all_known (Ty-F.List t) = all_append {X = Row} (λ r. Known (list_signatures t ++ item_signatures t (out-Ty t)) r.count r.method) list_rows (item_rows (out-Ty t)) (list_known t (item_signatures t (out-Ty t))) (item_known t (out-Ty t))
all_known (Ty-F.Map t) = map_known t
all_known Ty-F.Bool = tt
all_known Ty-F.Int = tt
all_known Ty-F.Void = tt

pub method_known : (receiver : Ty) (name : List ℕ) (count n : ℕ) → signature_of receiver name count ≡ Some (Plain n) → (args : List Ty) × (t : Ty) × IsRow n receiver args t × (length args ≡ count)
unfolding Known
method_known receiver name count n e = named (Known (signatures_of (out-Ty receiver))) (rows_of (out-Ty receiver)) name count (Plain n) (all_known (out-Ty receiver)) e n refl

-- a row has a name, but for that of read lines
Named : List Row → ℕ → Signature → Type 0
Named rows n k = (n ≡ 29) ⊎ ((name : List ℕ) × (find_row rows name (length k.arguments) ≡ Some (Plain n)))

has_name : (rows : List Row) (n : ℕ) (k : Signature) (name : List ℕ) → find_row rows name (length k.arguments) ≡ Some (Plain n) → Named rows n k
unfolding Named
has_name rows n k name e = inr (name, e)

of_lines : (rows : List Row) (k : Signature) → Named rows 29 k
unfolding Named
of_lines rows k = inl refl

text_named : AllByRecursion {X = ℕ × Signature} (λ r. Named text_rows r.0 r.1) text_signatures
text_named =
    has_name _ _ _ (codes "length") refl
    & has_name _ _ _ (codes "toUpper") refl
    & has_name _ _ _ (codes "toLower") refl
    & has_name _ _ _ (codes "trim") refl
    & has_name _ _ _ (codes "substr") refl
    & has_name _ _ _ (codes "startsWith") refl
    & has_name _ _ _ (codes "endsWith") refl
    & has_name _ _ _ (codes "indexOf") refl
    & has_name _ _ _ (codes "lastIndexOf") refl
    & has_name _ _ _ (codes "replace") refl
    & has_name _ _ _ (codes "split") refl
    & has_name _ _ _ (codes "parseInt") refl
    & has_name _ _ _ (codes "baseName") refl
    & has_name _ _ _ (codes "dirName") refl
    & has_name _ _ _ (codes "extName") refl
    & has_name _ _ _ (codes "removeExt") refl
    & has_name _ _ _ (codes "swapExt") refl
    & of_lines _ _
    & tt

list_named : (t : Ty) (more : List Row) → AllByRecursion {X = ℕ × Signature} (λ r. Named (list_rows ++ more) r.0 r.1) (list_signatures t)
list_named t more = has_name _ _ _ (codes "size") refl & has_name _ _ _ (codes "isEmpty") refl & has_name _ _ _ (codes "head") refl & has_name _ _ _ (codes "tail") refl & has_name _ _ _ (codes "reverse") refl & tt

item_named : (t : Ty) (y : Ty-F Ty) → AllByRecursion {X = ℕ × Signature} (λ r. Named (list_rows ++ item_rows y) r.0 r.1) (item_signatures t y)
item_named t Ty-F.Bool = (has_name _ _ _ (codes "has") refl, tt)
item_named t Ty-F.Int = has_name _ _ _ (codes "has") refl & has_name _ _ _ (codes "sort") refl & tt
item_named t Ty-F.Text = has_name _ _ _ (codes "has") refl & has_name _ _ _ (codes "sort") refl & has_name _ _ _ (codes "join") refl & tt
item_named t (Ty-F.List u) = tt
item_named t (Ty-F.Map u) = tt
item_named t Ty-F.Void = tt

map_named : (t : Ty) → AllByRecursion {X = ℕ × Signature} (λ r. Named map_rows r.0 r.1) (map_signatures t)
map_named t = has_name _ _ _ (codes "size") refl & has_name _ _ _ (codes "hasKey") refl & has_name _ _ _ (codes "keys") refl & has_name _ _ _ (codes "values") refl & tt

all_named : (y : Ty-F Ty) → AllByRecursion {X = ℕ × Signature} (λ r. Named (rows_of y) r.0 r.1) (signatures_of y)
all_named Ty-F.Text = text_named
all_named (Ty-F.List t) = all_append {X = ℕ × Signature} (λ r. Named (list_rows ++ item_rows (out-Ty t)) r.0 r.1) (list_signatures t) (item_signatures t (out-Ty t)) (list_named t (item_rows (out-Ty t))) (item_named t (out-Ty t))
all_named (Ty-F.Map t) = map_named t
all_named Ty-F.Bool = tt
all_named Ty-F.Int = tt
all_named Ty-F.Void = tt

pub row_named : (receiver : Ty) (n : ℕ) (args : List Ty) (t : Ty) → IsRow n receiver args t → (n ≡ 29) ⊎ ((name : List ℕ) × (signature_of receiver name (length args) ≡ Some (Plain n)))
unfolding Named
row_named receiver n args t e = found (Named (rows_of (out-Ty receiver))) (signatures_of (out-Ty receiver)) n (signature args t) (all_named (out-Ty receiver)) e

-- a change that is named has a row
KnownChange : List (ℕ × List Ty) → ℕ → Method → Type 0
KnownChange changes count m = (what : ℕ) → m ≡ Change what → (args : List Ty) × (find what changes ≡ Some args) × (length args ≡ count)

changes : (rows : List (ℕ × List Ty)) (i : ℕ) (args : List Ty) → find i rows ≡ Some args → KnownChange rows (length args) (Change i)
unfolding KnownChange
changes rows i args e what same = let it : i ≡ what = cc in (args, subst (λ j. find j rows ≡ Some args) it e, refl)

gives : (rows : List (ℕ × List Ty)) (count : ℕ) (i : ℕ) → KnownChange rows count (Plain i)
unfolding KnownChange
gives rows count i what same = absurd (cc)

asks : (rows : List (ℕ × List Ty)) (count : ℕ) (i : ℕ) → KnownChange rows count (File i)
unfolding KnownChange
asks rows count i what same = absurd (cc)

text_changes_known : AllByRecursion {X = Row} (λ r. KnownChange [] r.count r.method) text_rows
text_changes_known =
    gives _ _ 0
    & gives _ _ 1
    & gives _ _ 2
    & gives _ _ 3
    & gives _ _ 4
    & gives _ _ 5
    & gives _ _ 6
    & gives _ _ 7
    & gives _ _ 8
    & gives _ _ 9
    & gives _ _ 10
    & gives _ _ 11
    & gives _ _ 12
    & gives _ _ 13
    & gives _ _ 14
    & gives _ _ 15
    & gives _ _ 16
    & asks _ _ 0
    & asks _ _ 1
    & asks _ _ 2
    & asks _ _ 3
    & asks _ _ 4
    & asks _ _ 5
    & asks _ _ 6
    & tt

list_changes_known : (t : Ty) (more : List (ℕ × List Ty)) → AllByRecursion {X = Row} (λ r. KnownChange (list_changes t ++ more) r.count r.method) list_rows
list_changes_known t more =
    gives _ _ 17
    & gives _ _ 18
    & gives _ _ 21
    & gives _ _ 22
    & gives _ _ 23
    & changes _ 6 (t ∷ []) refl
    & changes _ 6 (t ∷ []) refl
    & changes _ 7 (ty.Int ∷ t ∷ []) refl
    & changes _ 8 (ty.Int ∷ []) refl
    & tt

item_changes_known : (t : Ty) (y : Ty-F Ty) → AllByRecursion {X = Row} (λ r. KnownChange (list_changes t ++ item_changes t y) r.count r.method) (item_rows y)
item_changes_known t Ty-F.Bool = gives _ _ 19 & changes _ 9 (t ∷ []) refl & tt
item_changes_known t Ty-F.Int = gives _ _ 19 & changes _ 9 (t ∷ []) refl & gives _ _ 24 & tt
item_changes_known t Ty-F.Text = gives _ _ 19 & changes _ 9 (t ∷ []) refl & gives _ _ 24 & gives _ _ 20 & tt
item_changes_known t (Ty-F.List u) = tt
item_changes_known t (Ty-F.Map u) = tt
item_changes_known t Ty-F.Void = tt

map_changes_known : (t : Ty) → AllByRecursion {X = Row} (λ r. KnownChange (changes_of (Ty-F.Map t)) r.count r.method) map_rows
map_changes_known t = gives _ _ 25 & gives _ _ 26 & gives _ _ 27 & gives _ _ 28 & changes _ 10 (ty.Text ∷ []) refl & tt

all_changes_known : (y : Ty-F Ty) → AllByRecursion {X = Row} (λ r. KnownChange (changes_of y) r.count r.method) (rows_of y)
all_changes_known Ty-F.Text = text_changes_known
all_changes_known (Ty-F.List t) =
    all_append {X = Row} (λ r. KnownChange (list_changes t ++ item_changes t (out-Ty t)) r.count r.method) list_rows (item_rows (out-Ty t)) (list_changes_known t (item_changes t (out-Ty t))) (item_changes_known t (out-Ty t))
all_changes_known (Ty-F.Map t) = map_changes_known t
all_changes_known Ty-F.Bool = tt
all_changes_known Ty-F.Int = tt
all_changes_known Ty-F.Void = tt

pub change_known : (receiver : Ty) (name : List ℕ) (count what : ℕ) → signature_of receiver name count ≡ Some (Change what) → (args : List Ty) × IsChangeRow what receiver args × (length args ≡ count)
unfolding KnownChange
change_known receiver name count what e = named (KnownChange (changes_of (out-Ty receiver))) (rows_of (out-Ty receiver)) name count (Change what) (all_changes_known (out-Ty receiver)) e what refl

-- a row of a change has a name
abbrev NamedChange : List Row → ℕ → List Ty → Type 0
NamedChange rows what args = (name : List ℕ) × (find_row rows name (length args) ≡ Some (Change what))

list_changes_named : (t : Ty) (more : List Row) → AllByRecursion {X = ℕ × List Ty} (λ r. NamedChange (list_rows ++ more) r.0 r.1) (list_changes t)
list_changes_named t more = (codes "add", refl) & (codes "push", refl) & (codes "add", refl) & (codes "removeIdx", refl) & tt

item_changes_named : (t : Ty) (y : Ty-F Ty) → AllByRecursion {X = ℕ × List Ty} (λ r. NamedChange (list_rows ++ item_rows y) r.0 r.1) (item_changes t y)
item_changes_named t Ty-F.Bool = ((codes "remove", refl), tt)
item_changes_named t Ty-F.Int = ((codes "remove", refl), tt)
item_changes_named t Ty-F.Text = ((codes "remove", refl), tt)
item_changes_named t (Ty-F.List u) = tt
item_changes_named t (Ty-F.Map u) = tt
item_changes_named t Ty-F.Void = tt

all_changes_named : (y : Ty-F Ty) → AllByRecursion {X = ℕ × List Ty} (λ r. NamedChange (rows_of y) r.0 r.1) (changes_of y)
all_changes_named Ty-F.Text = tt
all_changes_named (Ty-F.List t) =
    all_append {X = ℕ × List Ty} (λ r. NamedChange (list_rows ++ item_rows (out-Ty t)) r.0 r.1) (list_changes t) (item_changes t (out-Ty t)) (list_changes_named t (item_rows (out-Ty t))) (item_changes_named t (out-Ty t))
all_changes_named (Ty-F.Map t) = ((codes "remove", refl), tt)
all_changes_named Ty-F.Bool = tt
all_changes_named Ty-F.Int = tt
all_changes_named Ty-F.Void = tt

pub change_row_named : (receiver : Ty) (what : ℕ) (args : List Ty) → IsChangeRow what receiver args → (name : List ℕ) × (signature_of receiver name (length args) ≡ Some (Change what))
change_row_named receiver what args e = found (NamedChange (rows_of (out-Ty receiver))) (changes_of (out-Ty receiver)) what args (all_changes_named (out-Ty receiver)) e
