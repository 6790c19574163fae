-- Calls that take well-formed values give well-formed ones.
use Rattle.std.proofs.Common.{◌≡◌, ℕ, ℤ, zero, suc, List, [], ◌∷◌, ◌++◌, length, map, drop, take, reverse, Bool, true, false, cond, Option, Some, None, Result, Ok, Err, IfOk, sym, subst}
use mathlib.Core.List.{reverse_aux}
use Rattle.std.specs.Bool.{if◌then◌else◌, ◌==◌}
use Rattle.std.specs.Char.{to_ascii_lowercase, to_ascii_uppercase}
use Rattle.std.specs.List.{AllByRecursion, list_any}
use Rattle.bds_value.specs.declared.value.Ty.{Ty, out-Ty}
use Rattle.bds_value.specs.declared.value.Ty.TheVariants as ty
use Rattle.bds_value.specs.declared.value.Ty.TheOpen.{Ty-F}
use Rattle.bds_value.specs.declared.value.Value.{Value, out-Value}
use Rattle.bds_value.specs.declared.value.Value.TheVariants as value
use Rattle.bds_value.specs.declared.value.Value.TheOpen.{Value-F}
use Rattle.bds_value.specs.Value.{type_of, FitsHere, IsWellFormed}
use Rattle.bds_value.proofs.Every.{every-Bool, every-Int, every-Text, every-List, every-Map}
use Rattle.bds_value.proofs.FormedLaws.{value_cases}
use Rattle.bds_value.proofs.ValueFieldLaws.{type_of-Text}
use Rattle.bds_lib.specs.declared.faults.LibFault.{LibFault}
use Rattle.bds_lib.specs.Call.{method_of, text_method, list_method, map_method}
use Rattle.bds_lib.specs.Lists.{head, is_same, put_sorted, sorted, is_less, is_earlier, sort_at, list_alone, list_with, join_with}
use Rattle.bds_lib.specs.Maps.{has_key, keys, values, map_alone, map_with}
use Rattle.bds_lib.specs.Numbers.{number_of}
use Rattle.bds_lib.specs.Paths.{base_name, dir_name, ext_name, remove_ext, swap_ext}
use Rattle.bds_lib.specs.Places.{place_within}
use Rattle.bds_lib.specs.Results.{counted, short_text, OrNoMemory}
use Rattle.bds_lib.specs.Searching.{begins_with, closes_with, first_place, last_place, place_number, pieces, lines}
use Rattle.bds_lib.specs.Texts.{part_from, part_to, parsed, replaced, text_list, trim, text_alone, text_with_text, text_with, text_with_two}

-- a result that is well formed, where there is one
Good : Result Value LibFault → Type 0
Good r = IfOk r IsWellFormed

good_ok : (v : Value) → IsWellFormed v → Good (Ok v)
unfolding Good
good_ok v h = h

good_err : (e : LibFault) → Good (Err e)
unfolding Good
good_err e = tt

either : (b : Bool) (x y : Result Value LibFault) → Good x → Good y → Good (if b then x else y)
either true x y p q = p
either false x y p q = q

bool_good : (b : Bool) → Good (Ok (value.Bool b))
bool_good b = good_ok (value.Bool b) ((every-Bool FitsHere b).1 tt)

int_good : (n : ℤ) → Good (Ok (value.Int n))
int_good n = good_ok (value.Int n) ((every-Int FitsHere n).1 tt)

pub text_formed : (t : List ℕ) → IsWellFormed (value.Text t)
text_formed t = (every-Text FitsHere t).1 tt

text_good : (t : List ℕ) → Good (Ok (value.Text t))
text_good t = good_ok (value.Text t) (text_formed t)

-- items of a type, each well formed
abbrev pub Fits : Ty → List Value → Type 0
Fits t items = AllByRecursion (λ v. (type_of v ≡ t) × IsWellFormed v) items

joined : (t : Ty) (items : List Value) → AllByRecursion (λ v. type_of v ≡ t) items → AllByRecursion IsWellFormed items → Fits t items
joined t [] types formed = tt
joined t (v ∷ vs) types formed = ((types.0, formed.0), joined t vs types.1 formed.1)

parted : (t : Ty) (items : List Value) → Fits t items → AllByRecursion (λ v. type_of v ≡ t) items × AllByRecursion IsWellFormed items
parted t [] h = (tt, tt)
parted t (v ∷ vs) h = let rest = parted t vs h.1 in ((h.0.0, rest.0), (h.0.1, rest.1))

pub list_formed : (t : Ty) (items : List Value) → Fits t items → IsWellFormed (value.List t items)
list_formed t items h = (every-List FitsHere t items).1 (parted t items h)

pub list_fits : (t : Ty) (items : List Value) → IsWellFormed (value.List t items) → Fits t items
list_fits t items h = let both = (every-List FitsHere t items).0 h in joined t items both.0 both.1

list_good : (t : Ty) (items : List Value) → Fits t items → Good (Ok (value.List t items))
list_good t items h = good_ok (value.List t items) (list_formed t items h)

short_text_good : (t : List ℕ) → Good (short_text t)
short_text_good t = either _ _ _ (good_err _) (text_good t)

-- lists of texts
pub texts_fit : (ts : List (List ℕ)) → Fits ty.Text (map value.Text ts)
texts_fit [] = tt
texts_fit (t ∷ ts) = ((type_of-Text t, text_formed t), texts_fit ts)

text_list_good : (ts : List (List ℕ)) → Good (text_list ts)
text_list_good ts = either _ _ _ (good_err _) (list_good ty.Text (map value.Text ts) (texts_fit ts))

-- the methods of texts
part_to_good : (s : List ℕ) (b : ℤ) (from : ℕ) (o : Option ℕ) → Good (part_to s b from o)
part_to_good s b from None = good_err _
part_to_good s b from (Some to) = text_good _

part_from_good : (s : List ℕ) (a b : ℤ) (o : Option ℕ) → Good (part_from s a b o)
part_from_good s a b None = good_err _
part_from_good s a b (Some from) = part_to_good s b from (place_within from (length s) b)

parsed_good : (s : List ℕ) (o : Option ℤ) → Good (parsed s o)
parsed_good s None = good_err _
parsed_good s (Some n) = int_good n

text_alone_good : (m : ℕ) (s : List ℕ) → Good (text_alone m s)
text_alone_good m s =
    either (m == 0) _ _ (int_good (counted (length s))) (
    either (m == 1) _ _ (text_good (map to_ascii_uppercase s)) (
    either (m == 2) _ _ (text_good (map to_ascii_lowercase s)) (
    either (m == 3) _ _ (text_good (trim s)) (
    either (m == 11) _ _ (parsed_good s (number_of s)) (
    either (m == 12) _ _ (text_good (base_name s)) (
    either (m == 13) _ _ (text_good (dir_name s)) (
    either (m == 14) _ _ (text_good (ext_name s)) (
    either (m == 15) _ _ (text_good (remove_ext s)) (
    either (m == 29) _ _ (text_list_good (lines s)) (bool_good false))))))))))

text_with_text_good : (m : ℕ) (s t : List ℕ) → Good (text_with_text m s t)
text_with_text_good m s t =
    either (m == 5) _ _ (bool_good (begins_with t s)) (
    either (m == 6) _ _ (bool_good (closes_with t s)) (
    either (m == 7) _ _ (int_good (place_number (first_place t s))) (
    either (m == 8) _ _ (int_good (place_number (last_place t s))) (
    either (m == 10) _ _ (text_list_good (pieces t s)) (
    either (m == 16) _ _ (short_text_good (swap_ext s t)) (bool_good false))))))

text_with_good : (m : ℕ) (s : List ℕ) (x : Value-F Value) → Good (text_with m s x)
text_with_good m s (Value-F.Text t) = text_with_text_good m s t
text_with_good m s (Value-F.Bool b) = bool_good false
text_with_good m s (Value-F.Int n) = bool_good false
text_with_good m s (Value-F.List t items) = bool_good false
text_with_good m s (Value-F.Map t ps) = bool_good false

text_with_two_good : (m : ℕ) (s : List ℕ) (x y : Value-F Value) → Good (text_with_two m s x y)
text_with_two_good m s (Value-F.Int a) (Value-F.Int b) = either (m == 4) _ _ (part_from_good s a b (place_within 0 (length s) a)) (bool_good false)
text_with_two_good m s (Value-F.Int a) (Value-F.Bool b) = bool_good false
text_with_two_good m s (Value-F.Int a) (Value-F.Text b) = bool_good false
text_with_two_good m s (Value-F.Int a) (Value-F.List t b) = bool_good false
text_with_two_good m s (Value-F.Int a) (Value-F.Map t b) = bool_good false
text_with_two_good m s (Value-F.Text a) (Value-F.Text b) = either (m == 9) _ _ (short_text_good (replaced a b s)) (bool_good false)
text_with_two_good m s (Value-F.Text a) (Value-F.Bool b) = bool_good false
text_with_two_good m s (Value-F.Text a) (Value-F.Int b) = bool_good false
text_with_two_good m s (Value-F.Text a) (Value-F.List t b) = bool_good false
text_with_two_good m s (Value-F.Text a) (Value-F.Map t b) = bool_good false
text_with_two_good m s (Value-F.Bool a) y = bool_good false
text_with_two_good m s (Value-F.List t a) y = bool_good false
text_with_two_good m s (Value-F.Map t a) y = bool_good false

text_method_good : (m : ℕ) (s : List ℕ) (args : List Value) → Good (text_method m s args)
text_method_good m s [] = text_alone_good m s
text_method_good m s (x ∷ []) = text_with_good m s (out-Value x)
text_method_good m s (x ∷ y ∷ []) = text_with_two_good m s (out-Value x) (out-Value y)
text_method_good m s (x ∷ y ∷ z ∷ rest) = bool_good false

-- the methods of lists
module _ {X : Type 0} (P : X → Type 0) where
  pub all_append : (xs ys : List X) → AllByRecursion P xs → AllByRecursion P ys → AllByRecursion P (xs ++ ys)
  all_append [] ys h g = g
  all_append (x ∷ xs) ys h g = (h.0, all_append xs ys h.1 g)

  pub all_drop : (n : ℕ) (xs : List X) → AllByRecursion P xs → AllByRecursion P (drop n xs)
  all_drop zero xs h = h
  all_drop (suc n) [] h = tt
  all_drop (suc n) (x ∷ xs) h = all_drop n xs h.1

  pub all_take : (n : ℕ) (xs : List X) → AllByRecursion P xs → AllByRecursion P (take n xs)
  all_take zero xs h = tt
  all_take (suc n) [] h = tt
  all_take (suc n) (x ∷ xs) h = (h.0, all_take n xs h.1)

  all_turned : (xs ys : List X) → AllByRecursion P xs → AllByRecursion P ys → AllByRecursion P (reverse_aux xs ys)
  all_turned [] ys h g = g
  all_turned (x ∷ xs) ys h g = all_turned xs (x ∷ ys) h.1 (h.0, g)

  pub all_reverse : (xs : List X) → AllByRecursion P xs → AllByRecursion P (reverse xs)
  all_reverse xs h = all_turned xs [] h tt

module _ (P : Value → Type 0) (before : Value → Value → Bool) where
  all_put_sorted : (v : Value) (ws : List Value) → P v → AllByRecursion P ws → AllByRecursion P (put_sorted before v ws)
  all_put_sorted v [] h g = (h, tt)
  all_put_sorted v (w ∷ ws) h g = by_test (before w v) (all_put_sorted v ws h g.1)
    where
      by_test : (b : Bool) → AllByRecursion P (put_sorted before v ws) → AllByRecursion P (cond b (w ∷ put_sorted before v ws) (v ∷ w ∷ ws))
      by_test true again = (g.0, again)
      by_test false again = (h, g)

  pub all_sorted : (vs : List Value) → AllByRecursion P vs → AllByRecursion P (sorted before vs)
  all_sorted [] h = tt
  all_sorted (v ∷ vs) h = all_put_sorted v (sorted before vs) h.0 (all_sorted vs h.1)

abbrev pub FitsIn : Ty → Value → Type 0
FitsIn t v = (type_of v ≡ t) × IsWellFormed v

head_good : (t : Ty) (items : List Value) → Fits t items → Good (head items)
head_good t [] h = good_err _
head_good t (v ∷ vs) h = good_ok v h.0.1

sort_good : (y : Ty-F Ty) (t : Ty) (items : List Value) → Fits t items → Good (sort_at y t items)
sort_good Ty-F.Int t items h = list_good t (sorted is_less items) (all_sorted (FitsIn t) is_less items h)
sort_good Ty-F.Text t items h = list_good t (sorted is_earlier items) (all_sorted (FitsIn t) is_earlier items h)
sort_good Ty-F.Bool t items h = bool_good false
sort_good (Ty-F.List u) t items h = bool_good false
sort_good (Ty-F.Map u) t items h = bool_good false
sort_good Ty-F.Void t items h = bool_good false

list_alone_good : (m : ℕ) (t : Ty) (items : List Value) → Fits t items → Good (list_alone m t items)
list_alone_good m t items h =
    either (m == 17) _ _ (int_good (counted (length items))) (
    either (m == 18) _ _ (bool_good (length items == 0)) (
    either (m == 21) _ _ (head_good t items h) (
    either (m == 22) _ _ (list_good t (drop 1 items) (all_drop (FitsIn t) 1 items h)) (
    either (m == 23) _ _ (list_good t (reverse items) (all_reverse (FitsIn t) items h)) (
    either (m == 24) _ _ (sort_good (out-Ty t) t items h) (bool_good false))))))

join_with_good : (items : List Value) (x : Value-F Value) → Good (join_with items x)
join_with_good items (Value-F.Text t) = short_text_good _
join_with_good items (Value-F.Bool b) = bool_good false
join_with_good items (Value-F.Int n) = bool_good false
join_with_good items (Value-F.List t more) = bool_good false
join_with_good items (Value-F.Map t ps) = bool_good false

list_with_good : (m : ℕ) (items : List Value) (x : Value) → Good (list_with m items x)
list_with_good m items x = either (m == 19) _ _ (bool_good (list_any (λ v. is_same v x) items)) (either (m == 20) _ _ (join_with_good items (out-Value x)) (bool_good false))

list_method_good : (m : ℕ) (t : Ty) (items args : List Value) → Fits t items → Good (list_method m t items args)
list_method_good m t items [] h = list_alone_good m t items h
list_method_good m t items (x ∷ []) h = list_with_good m items x
list_method_good m t items (x ∷ y ∷ rest) h = bool_good false

-- the methods of maps
pub keys_fit : (ps : List (List ℕ × Value)) → Fits ty.Text (keys ps)
keys_fit [] = tt
keys_fit (p ∷ ps) = ((type_of-Text p.0, text_formed p.0), keys_fit ps)

pub values_fit : (t : Ty) (ps : List (List ℕ × Value)) → AllByRecursion {X = List ℕ × Value} (λ p. type_of p.1 ≡ t) ps → AllByRecursion {X = List ℕ × Value} (λ p. IsWellFormed p.1) ps → Fits t (values ps)
values_fit t [] types formed = tt
values_fit t (p ∷ ps) types formed = ((types.0, formed.0), values_fit t ps types.1 formed.1)

map_alone_good : (m : ℕ) (t : Ty) (ps : List (List ℕ × Value)) → IsWellFormed (value.Map t ps) → Good (map_alone m t ps)
map_alone_good m t ps h =
    let both = (every-Map FitsHere t ps).0 h in
    either (m == 25) _ _ (int_good (counted (length ps))) (
    either (m == 27) _ _ (list_good ty.Text (keys ps) (keys_fit ps)) (
    either (m == 28) _ _ (list_good t (values ps) (values_fit t ps both.0.0 both.1)) (bool_good false)))

map_with_good : (m : ℕ) (ps : List (List ℕ × Value)) (x : Value-F Value) → Good (map_with m ps x)
map_with_good m ps (Value-F.Text k) = either (m == 26) _ _ (bool_good (has_key k ps)) (bool_good false)
map_with_good m ps (Value-F.Bool b) = bool_good false
map_with_good m ps (Value-F.Int n) = bool_good false
map_with_good m ps (Value-F.List t items) = bool_good false
map_with_good m ps (Value-F.Map t more) = bool_good false

map_method_good : (m : ℕ) (t : Ty) (ps : List (List ℕ × Value)) (args : List Value) → IsWellFormed (value.Map t ps) → Good (map_method m t ps args)
map_method_good m t ps [] h = map_alone_good m t ps h
map_method_good m t ps (x ∷ []) h = map_with_good m ps (out-Value x)
map_method_good m t ps (x ∷ y ∷ rest) h = bool_good false

abbrev Gives : ℕ → List Value → Value → Type 0
Gives m args v = IsWellFormed v → Good (method_of m v args)

method_good : (m : ℕ) (args : List Value) (v : Value) → Gives m args v
method_good m args = value_cases (Gives m args)
    (λ b h. rw (value.outs-Bool b) (bool_good false))
    (λ n h. rw (value.outs-Int n) (bool_good false))
    (λ s h. rw (value.outs-Text s) (text_method_good m s args))
    (λ t items h. rw (value.outs-List t items) (list_method_good m t items args (list_fits t items h)))
    (λ t ps h. rw (value.outs-Map t ps) (map_method_good m t ps args h))

-- what a method gives of a well-formed receiver is well formed
pub method_formed : (m : ℕ) (v : Value) (args : List Value) → IsWellFormed v → IfOk (method_of m v args) IsWellFormed
unfolding Good
method_formed m v args h = method_good m args v h

pub answer_formed : (given r : Result Value LibFault) → OrNoMemory given r → IfOk given IsWellFormed → IfOk r IsWellFormed
answer_formed given (Ok v) same h = subst (λ g. IfOk g IsWellFormed) (sym same) h
answer_formed given (Err e) same h = tt
