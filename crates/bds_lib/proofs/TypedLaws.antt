-- What a method gives of a receiver and arguments of a row has the type of the row.
use Rattle.std.proofs.Common.{◌≡◌, ℕ, ℤ, List, [], ◌∷◌, ◌++◌, length, map, drop, reverse, Bool, true, false, Option, Some, None, Result, Ok, Err, IfOk, refl, sym, subst, arith}
use Rattle.std.proofs.lemmas.Bool.{eqb-true}
use Rattle.std.specs.Bool.{if◌then◌else◌, ◌==◌}
use Rattle.std.specs.Char.{to_ascii_lowercase, to_ascii_uppercase}
use Rattle.std.specs.List.{AllByRecursion, list_any, join_by}
use Rattle.bds_value.specs.declared.value.Ty.{Ty, out-Ty}
use Rattle.bds_value.specs.declared.value.Ty.TheVariants as ty
use Rattle.bds_value.specs.declared.value.Ty.TheOpen.{Ty-F}
use Rattle.bds_value.specs.declared.value.Value.{Value}
use Rattle.bds_value.specs.declared.value.Value.TheVariants as value
use Rattle.bds_value.specs.Value.{type_of, FitsHere, IsWellFormed, IsOf}
use Rattle.bds_value.proofs.Every.{every-Bool, every-Int, every-Map}
use Rattle.bds_value.proofs.FormedLaws.{value_cases}
use Rattle.bds_value.proofs.ResultLaws.{of_int, of_text}
use Rattle.bds_value.proofs.ValueFieldLaws.{type_of-Bool, type_of-Int, type_of-Text, type_of-List, type_of-Map}
use Rattle.bds_lib.specs.declared.faults.LibFault.{LibFault}
use Rattle.bds_lib.specs.Call.{method_of, text_method, list_method, map_method}
use Rattle.bds_lib.proofs.Fits.{ListTakes, Takes}
use Rattle.bds_lib.specs.Lists.{head, is_same, sorted, is_less, is_earlier, item_text, sort_at}
use Rattle.bds_lib.specs.Maps.{has_key, keys, values}
use Rattle.bds_lib.specs.Numbers.{number_of}
use Rattle.bds_lib.specs.Paths.{base_name, dir_name, ext_name, remove_ext, swap_ext}
use Rattle.bds_lib.specs.Places.{place_within}
use Rattle.bds_lib.specs.Results.{counted, short_text, OrNoMemory}
use Rattle.bds_lib.specs.Rows.{Signature, signature, find, text_signatures, list_signatures, item_signatures, map_signatures, IsRow, list_changes, item_changes, IsChangeRow}
use Rattle.bds_lib.specs.Searching.{begins_with, closes_with, first_place, last_place, place_number, pieces, lines}
use Rattle.bds_lib.specs.Texts.{part, part_from, part_to, parsed, replaced, text_list, trim}
use Rattle.bds_lib.proofs.FormedLaws.{Fits, FitsIn, list_formed, list_fits, text_formed, texts_fit, all_append, all_drop, all_reverse, all_sorted, keys_fit, values_fit}

infixr 3 ◌&◌
-- a fact and those of the rest
pub ◌&◌ : {A B : Type 0} → A → B → A × B
a & b = (a, b)

-- a result of a type, where there is one
Good : Ty → Result Value LibFault → Type 0
Good t r = IfOk r (λ v. IsOf v t)

ok_is : (t : Ty) (v : Value) → IsOf v t → Good t (Ok v)
unfolding Good
ok_is t v h = h

err_is : (t : Ty) (e : LibFault) → Good t (Err e)
unfolding Good
err_is t e = tt

either : (t : Ty) (b : Bool) (x y : Result Value LibFault) → Good t x → Good t y → Good t (if b then x else y)
either t true x y p q = p
either t false x y p q = q

bool_is : (b : Bool) → Good ty.Bool (Ok (value.Bool b))
bool_is b = ok_is ty.Bool (value.Bool b) ((every-Bool FitsHere b).1 tt, type_of-Bool b)

int_is : (n : ℤ) → Good ty.Int (Ok (value.Int n))
int_is n = ok_is ty.Int (value.Int n) ((every-Int FitsHere n).1 tt, type_of-Int n)

text_is : (t : List ℕ) → Good ty.Text (Ok (value.Text t))
text_is t = ok_is ty.Text (value.Text t) (text_formed t, type_of-Text t)

list_is : (t : Ty) (items : List Value) → Fits t items → Good (ty.List t) (Ok (value.List t items))
list_is t items h = ok_is (ty.List t) (value.List t items) (list_formed t items h, type_of-List t items)

short_text_is : (t : List ℕ) → Good ty.Text (short_text t)
short_text_is t = either ty.Text _ _ _ (err_is ty.Text _) (text_is t)

text_list_is : (ts : List (List ℕ)) → Good (ty.List ty.Text) (text_list ts)
text_list_is ts = either (ty.List ty.Text) _ _ _ (err_is (ty.List ty.Text) _) (list_is ty.Text (map value.Text ts) (texts_fit ts))

part_to_is : (s : List ℕ) (b : ℤ) (from : ℕ) (o : Option ℕ) → Good ty.Text (part_to s b from o)
part_to_is s b from None = err_is ty.Text _
part_to_is s b from (Some to) = text_is _

part_from_is : (s : List ℕ) (a b : ℤ) (o : Option ℕ) → Good ty.Text (part_from s a b o)
part_from_is s a b None = err_is ty.Text _
part_from_is s a b (Some from) = part_to_is s b from (place_within from (length s) b)

part_is : (s : List ℕ) (a b : ℤ) → Good ty.Text (part s a b)
part_is s a b = part_from_is s a b (place_within 0 (length s) a)

parsed_is : (s : List ℕ) (o : Option ℤ) → Good ty.Int (parsed s o)
parsed_is s None = err_is ty.Int _
parsed_is s (Some n) = int_is n

-- what a method gives of arguments of a signature's types
abbrev Gives : (List Value → Result Value LibFault) → Signature → Type 0
Gives method k = (args : List Value) → map type_of args ≡ k.arguments → Good k.gives (method args)

alone : (method : List Value → Result Value LibFault) (t : Ty) → Good t (method []) → Gives method (signature [] t)
alone method t h [] e = h
alone method t h (x ∷ xs) e = absurd (cc)

with_one : (method : List Value → Result Value LibFault) (a t : Ty) → ((x : Value) → type_of x ≡ a → Good t (method (x ∷ []))) → Gives method (signature (a ∷ []) t)
with_one method a t h [] e = absurd (cc)
with_one method a t h (x ∷ []) e = let same : type_of x ≡ a = cc in h x same
with_one method a t h (x ∷ y ∷ ys) e = absurd (cc)

with_two : (method : List Value → Result Value LibFault) (a b t : Ty) → ((x y : Value) → type_of x ≡ a → type_of y ≡ b → Good t (method (x ∷ y ∷ []))) → Gives method (signature (a ∷ b ∷ []) t)
with_two method a b t h [] e = absurd (cc)
with_two method a b t h (x ∷ []) e = absurd (cc)
with_two method a b t h (x ∷ y ∷ []) e = let first : type_of x ≡ a = cc in let second : type_of y ≡ b = cc in h x y first second
with_two method a b t h (x ∷ y ∷ z ∷ zs) e = absurd (cc)

with_text : (method : List Value → Result Value LibFault) (t : Ty) → ((s : List ℕ) → Good t (method (value.Text s ∷ []))) → Gives method (signature (ty.Text ∷ []) t)
with_text method t h = with_one method ty.Text t (λ x e. let found = of_text x e in subst (λ y. Good t (method (y ∷ []))) (sym found.1) (h found.0))

with_texts : (method : List Value → Result Value LibFault) (t : Ty) → ((s u : List ℕ) → Good t (method (value.Text s ∷ value.Text u ∷ []))) → Gives method (signature (ty.Text ∷ ty.Text ∷ []) t)
with_texts method t h = with_two method ty.Text ty.Text t (λ x y e f.
    let first = of_text x e in
    let second = of_text y f in
    subst (λ z. Good t (method (z ∷ y ∷ []))) (sym first.1) (subst (λ z. Good t (method (value.Text first.0 ∷ z ∷ []))) (sym second.1) (h first.0 second.0)))

with_numbers : (method : List Value → Result Value LibFault) (t : Ty) → ((a b : ℤ) → Good t (method (value.Int a ∷ value.Int b ∷ []))) → Gives method (signature (ty.Int ∷ ty.Int ∷ []) t)
with_numbers method t h = with_two method ty.Int ty.Int t (λ x y e f.
    let first = of_int x e in
    let second = of_int y f in
    subst (λ z. Good t (method (z ∷ y ∷ []))) (sym first.1) (subst (λ z. Good t (method (value.Int first.0 ∷ z ∷ []))) (sym second.1) (h first.0 second.0)))

-- what holds of each row holds of the one that is found
pub found : {X : Type 0} (P : ℕ → X → Type 0) (rows : List (ℕ × X)) (n : ℕ) (x : X) → AllByRecursion {X = ℕ × X} (λ r. P r.0 r.1) rows → find n rows ≡ Some x → P n x
found P [] n x h e = absurd (cc)
found {X = X} P (r ∷ rows) n x h e = by_test (found P rows n x h.1) (r.0 == n) refl
  where
    by_test : (find n rows ≡ Some x → P n x) → (b : Bool) → (r.0 == n) ≡ b → P n x
    by_test again true is =
        let g : ◌≡◌ {A = Option X} (Some r.1) (Some x) = rw is at e in
        let same : r.1 ≡ x = cc in
        subst (λ m. P m x) (eqb-true r.0 n is) (subst (P r.0) same h.0)
    by_test again false is = let g : find n rows ≡ Some x = rw is at e in again g

text_typed : (s : List ℕ) → AllByRecursion {X = ℕ × Signature} (λ r. Gives (text_method r.0 s) r.1) text_signatures
text_typed s =
    alone (text_method 0 s) ty.Int (int_is (counted (length s)))
    & alone (text_method 1 s) ty.Text (text_is (map to_ascii_uppercase s))
    & alone (text_method 2 s) ty.Text (text_is (map to_ascii_lowercase s))
    & alone (text_method 3 s) ty.Text (text_is (trim s))
    & with_numbers (text_method 4 s) ty.Text (λ a b. rw (value.outs-Int a, value.outs-Int b) (part_is s a b))
    & with_text (text_method 5 s) ty.Bool (λ t. rw (value.outs-Text t) (bool_is (begins_with t s)))
    & with_text (text_method 6 s) ty.Bool (λ t. rw (value.outs-Text t) (bool_is (closes_with t s)))
    & with_text (text_method 7 s) ty.Int (λ t. rw (value.outs-Text t) (int_is (place_number (first_place t s))))
    & with_text (text_method 8 s) ty.Int (λ t. rw (value.outs-Text t) (int_is (place_number (last_place t s))))
    & with_texts (text_method 9 s) ty.Text (λ a b. rw (value.outs-Text a, value.outs-Text b) (short_text_is (replaced a b s)))
    & with_text (text_method 10 s) (ty.List ty.Text) (λ t. rw (value.outs-Text t) (text_list_is (pieces t s)))
    & alone (text_method 11 s) ty.Int (parsed_is s (number_of s))
    & alone (text_method 12 s) ty.Text (text_is (base_name s))
    & alone (text_method 13 s) ty.Text (text_is (dir_name s))
    & alone (text_method 14 s) ty.Text (text_is (ext_name s))
    & alone (text_method 15 s) ty.Text (text_is (remove_ext s))
    & with_text (text_method 16 s) ty.Text (λ t. rw (value.outs-Text t) (short_text_is (swap_ext s t)))
    & alone (text_method 29 s) (ty.List ty.Text) (text_list_is (lines s))
    & tt

head_is : (t : Ty) (items : List Value) → Fits t items → Good t (head items)
head_is t [] h = err_is t _
head_is t (v ∷ vs) h = ok_is t v (h.0.1, h.0.0)

list_typed : (t : Ty) (items : List Value) → Fits t items → AllByRecursion {X = ℕ × Signature} (λ r. Gives (list_method r.0 t items) r.1) (list_signatures t)
list_typed t items h =
    alone (list_method 17 t items) ty.Int (int_is (counted (length items)))
    & alone (list_method 18 t items) ty.Bool (bool_is (length items == 0))
    & alone (list_method 21 t items) t (head_is t items h)
    & alone (list_method 22 t items) (ty.List t) (list_is t (drop 1 items) (all_drop (FitsIn t) 1 items h))
    & alone (list_method 23 t items) (ty.List t) (list_is t (reverse items) (all_reverse (FitsIn t) items h))
    & tt

has_is : (t : Ty) (items : List Value) → Gives (list_method 19 t items) (signature (t ∷ []) ty.Bool)
has_is t items = with_one (list_method 19 t items) t ty.Bool (λ x e. bool_is (list_any (λ v. is_same v x) items))

sort_is : (t : Ty) (items : List Value) (y : Ty-F Ty) → out-Ty t ≡ y → Good (ty.List t) (sort_at y t items) → Gives (list_method 24 t items) (signature [] (ty.List t))
sort_is t items y e h = alone (list_method 24 t items) (ty.List t) (subst (λ z. Good (ty.List t) (sort_at z t items)) (sym e) h)

item_typed : (t : Ty) (items : List Value) → Fits t items → (y : Ty-F Ty) → out-Ty t ≡ y → AllByRecursion {X = ℕ × Signature} (λ r. Gives (list_method r.0 t items) r.1) (item_signatures t y)
item_typed t items h Ty-F.Bool e = (has_is t items, tt)
item_typed t items h Ty-F.Int e = has_is t items & sort_is t items Ty-F.Int e (list_is t (sorted is_less items) (all_sorted (FitsIn t) is_less items h)) & tt
item_typed t items h Ty-F.Text e =
    has_is t items
    & sort_is t items Ty-F.Text e (list_is t (sorted is_earlier items) (all_sorted (FitsIn t) is_earlier items h))
    & with_text (list_method 20 t items) ty.Text (λ u. rw (value.outs-Text u) (short_text_is (join_by item_text u items)))
    & tt
item_typed t items h (Ty-F.List u) e = tt
item_typed t items h (Ty-F.Map u) e = tt
item_typed t items h Ty-F.Void e = tt

map_typed : (t : Ty) (ps : List (List ℕ × Value)) → IsWellFormed (value.Map t ps) → AllByRecursion {X = ℕ × Signature} (λ r. Gives (map_method r.0 t ps) r.1) (map_signatures t)
map_typed t ps h = let both = (every-Map FitsHere t ps).0 h in
    alone (map_method 25 t ps) ty.Int (int_is (counted (length ps)))
    & with_text (map_method 26 t ps) ty.Bool (λ k. rw (value.outs-Text k) (bool_is (has_key k ps)))
    & alone (map_method 27 t ps) (ty.List ty.Text) (list_is ty.Text (keys ps) (keys_fit ps))
    & alone (map_method 28 t ps) (ty.List t) (list_is t (values ps) (values_fit t ps both.0.0 both.1))
    & tt

abbrev Typed : ℕ → List Value → Ty → Value → Type 0
Typed m args u v = IsRow m (type_of v) (map type_of args) u → IsWellFormed v → Good u (method_of m v args)

typed : (m : ℕ) (args : List Value) (u : Ty) (v : Value) → Typed m args u v
typed m args u = value_cases (Typed m args u)
    (λ b e h. let none : ◌≡◌ {A = Option Signature} None (Some (signature (map type_of args) u)) = rw (type_of-Bool b, ty.outs-Bool) at e in absurd (cc))
    (λ n e h. let none : ◌≡◌ {A = Option Signature} None (Some (signature (map type_of args) u)) = rw (type_of-Int n, ty.outs-Int) at e in absurd (cc))
    (λ s e h.
    let row : find m text_signatures ≡ Some (signature (map type_of args) u) = rw (type_of-Text s, ty.outs-Text) at e in
    rw (value.outs-Text s) (found (λ n k. Gives (text_method n s) k) text_signatures m (signature (map type_of args) u) (text_typed s) row args refl))
    (λ t items e h.
    let row : find m (list_signatures t ++ item_signatures t (out-Ty t)) ≡ Some (signature (map type_of args) u) = rw (type_of-List t items, ty.outs-List t) at e in
    let fits = list_fits t items h in
    let all = all_append {X = ℕ × Signature} (λ r. Gives (list_method r.0 t items) r.1) (list_signatures t) (item_signatures t (out-Ty t)) (list_typed t items fits) (item_typed t items fits (out-Ty t) refl) in
    rw (value.outs-List t items) (found (λ n k. Gives (list_method n t items) k) (list_signatures t ++ item_signatures t (out-Ty t)) m (signature (map type_of args) u) all row args refl))
    (λ t ps e h.
    let row : find m (map_signatures t) ≡ Some (signature (map type_of args) u) = rw (type_of-Map t ps, ty.outs-Map t) at e in
    rw (value.outs-Map t ps) (found (λ n k. Gives (map_method n t ps) k) (map_signatures t) m (signature (map type_of args) u) (map_typed t ps h) row args refl))

answered : (given r : Result Value LibFault) (u : Ty) → OrNoMemory given r → Good u given → Good u r
unfolding Good
answered given (Ok v) u same h = subst (λ g. IfOk g (λ w. IsOf w u)) (sym same) h
answered given (Err e) u same h = tt

-- what a method answers on a row has the type of the row
pub method_typed : (m : ℕ) (v : Value) (args : List Value) (r : Result Value LibFault) → OrNoMemory (method_of m v args) r → (u : Ty) → IsRow m (type_of v) (map type_of args) u → IsWellFormed v → IfOk r (λ w. IsOf w u)
unfolding Good
method_typed m v args r same u row h = answered (method_of m v args) r u same (typed m args u v row h)

-- a change of a row takes what its place takes
abbrev Fitting : Ty → ℕ → List Ty → Type 0
Fitting t what types = (args : List Value) → map type_of args ≡ types → ListTakes what t args

fits_one : (t a : Ty) (what : ℕ) → ((x : Value) → type_of x ≡ a → what ≡ 6 → type_of x ≡ t) → Fitting t what (a ∷ [])
fits_one t a what h [] e = absurd (cc)
fits_one t a what h (x ∷ []) e = let same : type_of x ≡ a = cc in h x same
fits_one t a what h (x ∷ y ∷ ys) e = absurd (cc)

fits_two : (t a : Ty) (what : ℕ) → Fitting t what (a ∷ t ∷ [])
fits_two t a what [] e = absurd (cc)
fits_two t a what (x ∷ []) e = absurd (cc)
fits_two t a what (x ∷ y ∷ []) e = let same : type_of y ≡ t = cc in λ it. same
fits_two t a what (x ∷ y ∷ z ∷ zs) e = absurd (cc)

list_fitting : (t : Ty) → AllByRecursion {X = ℕ × List Ty} (λ r. Fitting t r.0 r.1) (list_changes t)
list_fitting t = fits_one t t 6 (λ x e it. e) & fits_one t t 6 (λ x e it. e) & fits_two t ty.Int 7 & fits_one t ty.Int 8 (λ x e it. absurd (omega (arith, it))) & tt

item_fitting : (t : Ty) (y : Ty-F Ty) → AllByRecursion {X = ℕ × List Ty} (λ r. Fitting t r.0 r.1) (item_changes t y)
item_fitting t Ty-F.Bool = (fits_one t t 9 (λ x e it. e), tt)
item_fitting t Ty-F.Int = (fits_one t t 9 (λ x e it. e), tt)
item_fitting t Ty-F.Text = (fits_one t t 9 (λ x e it. e), tt)
item_fitting t (Ty-F.List u) = tt
item_fitting t (Ty-F.Map u) = tt
item_fitting t Ty-F.Void = tt

abbrev Taken : ℕ → List Value → Value → Type 0
Taken what args v = IsChangeRow what (type_of v) (map type_of args) → Takes what v args

pub change_takes : (what : ℕ) (args : List Value) (v : Value) → Taken what args v
change_takes what args = value_cases (Taken what args)
    (λ b e. rw (value.outs-Bool b) tt)
    (λ n e. rw (value.outs-Int n) tt)
    (λ s e. rw (value.outs-Text s) tt)
    (λ t items e.
    let row : find what (list_changes t ++ item_changes t (out-Ty t)) ≡ Some (map type_of args) = rw (type_of-List t items, ty.outs-List t) at e in
    let all = all_append {X = ℕ × List Ty} (λ r. Fitting t r.0 r.1) (list_changes t) (item_changes t (out-Ty t)) (list_fitting t) (item_fitting t (out-Ty t)) in
    rw (value.outs-List t items) (found (Fitting t) (list_changes t ++ item_changes t (out-Ty t)) what (map type_of args) all row args refl))
    (λ t ps e. rw (value.outs-Map t ps) tt)
