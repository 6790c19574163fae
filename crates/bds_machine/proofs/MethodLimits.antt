-- What a method gives of a receiver within the limits is within them, or is a fault of the run.
use Rattle.std.proofs.Common.{◌≡◌, ◌≤◌, ◌-◌, ◌+◌, ℕ, ℤ, zero, suc, List, [], ◌∷◌, length, map, drop, take, reverse, Bool, true, false, cond, Option, Some, None, Result, Ok, Err, nat_lt, refl, ap, ◌∙◌, is_some, arith}
use Rattle.std.specs.Prelude.{⊤}
use Rattle.std.proofs.lemmas.Grind.{common_steps}
use Rattle.std.proofs.lemmas.List.{length-map, length-drop, length-reverse}
use Rattle.std.specs.Bool.{if◌then◌else◌, ◌==◌}
use Rattle.std.specs.Char.{to_ascii_lowercase, to_ascii_uppercase}
use Rattle.std.specs.List.{AllByRecursion, list_any, slice_range}
use Rattle.bds_value.specs.declared.TheConstants.{MAX_TEXT, MAX_ITEMS}
use Rattle.bds_value.specs.declared.value.Ty.{Ty, out-Ty}
use Rattle.bds_value.specs.declared.value.Ty.TheVariants as ty
use Rattle.bds_value.specs.declared.value.Ty.TheOpen.{Ty-F}
use Rattle.bds_value.specs.declared.value.Value.{Value, out-Value}
use Rattle.bds_value.specs.declared.value.Value.TheVariants as value
use Rattle.bds_value.specs.declared.value.Value.TheOpen.{Value-F}
use Rattle.bds_value.specs.Spelling.{IsWithinHere, IsWithinLimits}
use Rattle.bds_value.proofs.Every.{every-Bool, every-Int, every-Text, every-List, every-Map}
use Rattle.bds_value.proofs.FormedLaws.{value_cases}
use Rattle.bds_value.specs.TextResult.{held}
use Rattle.bds_lib.specs.declared.faults.LibFault.{LibFault}
use Rattle.bds_lib.specs.declared.faults.LibFault.TheVariants.{TooLong, NoMemory}
use Rattle.bds_lib.specs.Call.{method_of, text_method, list_method, map_method}
use Rattle.bds_lib.specs.Lists.{head, is_same, put_sorted, sorted, is_less, is_earlier, sort_at, list_alone, list_with, join_with}
use Rattle.bds_lib.specs.Maps.{has_key, keys, values, map_alone, map_with}
use Rattle.bds_lib.specs.Numbers.{number_of}
use Rattle.bds_lib.specs.Paths.{slash, dot, behind_place, folder_at, before_place, base_name, dir_name, ext_name, remove_ext, swap_ext}
use Rattle.bds_lib.specs.Places.{place_within}
use Rattle.bds_lib.specs.Results.{counted, short_text}
use Rattle.bds_lib.specs.Searching.{begins_with, closes_with, first_place, last_place, place_number, cut_at, cut, pieces, without_empty_end, lines}
use Rattle.bds_lib.specs.Texts.{part_from, part_to, parsed, replaced, text_list, trim_start, trim, text_alone, text_with_text, text_with, text_with_two}
use Rattle.bds_lib.proofs.FormedLaws.{all_reverse, all_sorted}

-- a result within the limits, or a fault of the run
abbrev pub IsShort : Result Value LibFault → Type 0
IsShort (Ok v) = IsWithinLimits v
IsShort (Err NoMemory) = ⊥
IsShort (Err e) = ⊤

either : (b : Bool) (x y : Result Value LibFault) → IsShort x → IsShort y → IsShort (if b then x else y)
either true x y p q = p
either false x y p q = q

bool_short : (b : Bool) → IsShort (Ok (value.Bool b))
bool_short b = (every-Bool IsWithinHere b).1 tt

int_short : (n : ℤ) → IsShort (Ok (value.Int n))
int_short n = (every-Int IsWithinHere n).1 tt

text_limits : (t : List ℕ) → length t ≤ MAX_TEXT → IsWithinLimits (value.Text t)
text_limits t h = (every-Text IsWithinHere t).1 h

text_short : (t : List ℕ) → length t ≤ MAX_TEXT → IsShort (Ok (value.Text t))
text_short t h = text_limits t h

-- items within the limits, not too many
abbrev Few : List Value → Type 0
Few items = (length items ≤ MAX_ITEMS) × AllByRecursion IsWithinLimits items

list_short : (t : Ty) (items : List Value) → Few items → IsShort (Ok (value.List t items))
list_short t items h = (every-List IsWithinHere t items).1 h

short_text_short : (t : List ℕ) → IsShort (short_text t)
short_text_short t = elim (nat_lt MAX_TEXT (length t)) as (λ b. nat_lt MAX_TEXT (length t) ≡ b → IsShort (if b then Err (TooLong (held (length t))) else Ok (value.Text t))) [
  | true ↦ (λ e. tt)
  | false ↦ (λ e. text_short t (grind (arith, common_steps)))
] refl

texts_within : (m : ℕ) (ts : List (List ℕ)) → m ≤ MAX_TEXT → AllByRecursion (λ t. length t ≤ m) ts → AllByRecursion IsWithinLimits (map value.Text ts)
texts_within m [] l h = tt
texts_within m (t ∷ ts) l h = (text_limits t (omega arith), texts_within m ts l h.1)

text_list_short : (m : ℕ) (ts : List (List ℕ)) → m ≤ MAX_TEXT → AllByRecursion (λ t. length t ≤ m) ts → IsShort (text_list ts)
text_list_short m ts l h = elim (nat_lt MAX_ITEMS (length (map value.Text ts))) as (λ b. nat_lt MAX_ITEMS (length (map value.Text ts)) ≡ b → IsShort (if b then Err (TooLong (held (length (map value.Text ts)))) else Ok (value.List ty.Text (map value.Text ts)))) [
  | true ↦ (λ e. tt)
  | false ↦ (λ e. list_short ty.Text (map value.Text ts) (grind (arith, common_steps), texts_within m ts l h))
] refl

-- texts that are parts of others

drop_short : (i : ℕ) (s : List ℕ) → length (drop i s) ≤ length s
drop_short i s = let e = length-drop i s in omega arith

take_short : (i : ℕ) (s : List ℕ) → length (take i s) ≤ length s
take_short zero s = omega arith
take_short (suc i) [] = omega arith
take_short (suc i) (x ∷ s) = let e = take_short i s in omega arith

trim_short : (s : List ℕ) → length (trim s) ≤ length s
trim_short s = let a : length (trim s) ≤ length (trim_start s) = take_short _ (trim_start s) in let b : length (trim_start s) ≤ length s = drop_short _ s in omega arith

behind_short : (s other : List ℕ) (o : Option ℕ) (m : ℕ) → length s ≤ m → length other ≤ m → length (behind_place s other o) ≤ m
behind_short s other None m a b = b
behind_short s other (Some i) m a b = let d = drop_short (i + 1) s in omega arith

base_short : (s : List ℕ) → length (base_name s) ≤ length s
base_short s = behind_short s s (last_place slash s) (length s) (omega arith) (omega arith)

folder_short : (s : List ℕ) (o : Option ℕ) → length s ≤ MAX_TEXT → length (folder_at s o) ≤ MAX_TEXT
folder_short s None h = omega arith
folder_short s (Some zero) h = omega arith
folder_short s (Some (suc i)) h = let t = take_short (suc i) s in omega arith

ext_short : (s : List ℕ) → length (ext_name s) ≤ length s
ext_short s = behind_short (base_name s) [] (last_place dot (base_name s)) (length s) (base_short s) (omega arith)

before_short : (s : List ℕ) (o : Option ℕ) → length (before_place s o) ≤ length s
before_short s None = omega arith
before_short s (Some i) = take_short i s

stem_short : (s : List ℕ) (b : Bool) → length (if b then before_place s (last_place dot s) else s) ≤ length s
stem_short s true = before_short s (last_place dot s)
stem_short s false = omega arith

remove_short : (s : List ℕ) → length (remove_ext s) ≤ length s
remove_short s = stem_short s (is_some (last_place dot (base_name s)))

cut_at_short : (t s : List ℕ) (o : Option ℕ) (go : List ℕ → List (List ℕ)) (m : ℕ) → length s ≤ m → ((r : List ℕ) → length r ≤ m → AllByRecursion (λ p. length p ≤ m) (go r)) → AllByRecursion (λ p. length p ≤ m) (cut_at t s o go)
cut_at_short t s None go m h again = (h, tt)
cut_at_short t s (Some i) go m h again =
    let a : length (take i s) ≤ length s = take_short i s in
    let b : length (drop i s) ≤ length s = drop_short i s in
    let c : length (drop (length t) (drop i s)) ≤ length (drop i s) = drop_short (length t) (drop i s) in
    (omega arith, again (drop (length t) (drop i s)) (omega arith))

cut_short : (n : ℕ) (t s : List ℕ) (m : ℕ) → length s ≤ m → AllByRecursion (λ p. length p ≤ m) (cut n t s)
cut_short zero t s m h = (h, tt)
cut_short (suc n) t s m h = cut_at_short t s (first_place t s) (cut n t) m h (λ r k. cut_short n t r m k)

pieces_short : (t s : List ℕ) → AllByRecursion (λ p. length p ≤ length s) (pieces t s)
pieces_short [] s = (omega arith, tt)
pieces_short (c ∷ t) s = cut_short (length s) (c ∷ t) s (length s) (omega arith)

ended_short : (m : ℕ) (ps : List (List ℕ)) → AllByRecursion (λ p. length p ≤ m) ps → AllByRecursion (λ p. length p ≤ m) (without_empty_end ps)
ended_short m [] h = tt
ended_short m ([] ∷ []) h = tt
ended_short m ((c ∷ p) ∷ ps) h = (h.0, ended_short m ps h.1)
ended_short m ([] ∷ q ∷ ps) h = (h.0, ended_short m (q ∷ ps) h.1)

-- the methods of texts

part_to_short : (s : List ℕ) (b : ℤ) (from : ℕ) (o : Option ℕ) → length s ≤ MAX_TEXT → IsShort (part_to s b from o)
part_to_short s b from None h = tt
part_to_short s b from (Some to) h = text_short (slice_range s from to) (let a = drop_short from (take to s) in let c = take_short to s in let d = take_short (to - from) (drop from s) in let e = drop_short from s in omega arith)

part_from_short : (s : List ℕ) (a b : ℤ) (o : Option ℕ) → length s ≤ MAX_TEXT → IsShort (part_from s a b o)
part_from_short s a b None h = tt
part_from_short s a b (Some from) h = part_to_short s b from (place_within from (length s) b) h

parsed_short : (s : List ℕ) (o : Option ℤ) → IsShort (parsed s o)
parsed_short s None = tt
parsed_short s (Some n) = int_short n

text_alone_short : (m : ℕ) (s : List ℕ) → length s ≤ MAX_TEXT → IsShort (text_alone m s)
text_alone_short m s h =
    either (m == 0) _ _ (int_short (counted (length s))) (
    either (m == 1) _ _ (text_short (map to_ascii_uppercase s) (let e = length-map s to_ascii_uppercase in omega arith)) (
    either (m == 2) _ _ (text_short (map to_ascii_lowercase s) (let e = length-map s to_ascii_lowercase in omega arith)) (
    either (m == 3) _ _ (text_short (trim s) (let e = trim_short s in omega arith)) (
    either (m == 11) _ _ (parsed_short s (number_of s)) (
    either (m == 12) _ _ (text_short (base_name s) (let e = base_short s in omega arith)) (
    either (m == 13) _ _ (text_short (dir_name s) (folder_short s (last_place slash s) h)) (
    either (m == 14) _ _ (text_short (ext_name s) (let e = ext_short s in omega arith)) (
    either (m == 15) _ _ (text_short (remove_ext s) (let e = remove_short s in omega arith)) (
    either (m == 29) _ _ (text_list_short (length s) (lines s) h (ended_short (length s) (pieces (10 ∷ []) s) (pieces_short (10 ∷ []) s))) (bool_short false))))))))))

text_with_text_short : (m : ℕ) (s t : List ℕ) → length s ≤ MAX_TEXT → IsShort (text_with_text m s t)
text_with_text_short m s t h =
    either (m == 5) _ _ (bool_short (begins_with t s)) (
    either (m == 6) _ _ (bool_short (closes_with t s)) (
    either (m == 7) _ _ (int_short (place_number (first_place t s))) (
    either (m == 8) _ _ (int_short (place_number (last_place t s))) (
    either (m == 10) _ _ (text_list_short (length s) (pieces t s) h (pieces_short t s)) (
    either (m == 16) _ _ (short_text_short (swap_ext s t)) (bool_short false))))))

text_with_short : (m : ℕ) (s : List ℕ) (x : Value-F Value) → length s ≤ MAX_TEXT → IsShort (text_with m s x)
text_with_short m s (Value-F.Text t) h = text_with_text_short m s t h
text_with_short m s (Value-F.Bool b) h = bool_short false
text_with_short m s (Value-F.Int n) h = bool_short false
text_with_short m s (Value-F.List t items) h = bool_short false
text_with_short m s (Value-F.Map t ps) h = bool_short false

text_with_two_short : (m : ℕ) (s : List ℕ) (x y : Value-F Value) → length s ≤ MAX_TEXT → IsShort (text_with_two m s x y)
text_with_two_short m s (Value-F.Int a) (Value-F.Int b) h = either (m == 4) _ _ (part_from_short s a b (place_within 0 (length s) a) h) (bool_short false)
text_with_two_short m s (Value-F.Int a) (Value-F.Bool b) h = bool_short false
text_with_two_short m s (Value-F.Int a) (Value-F.Text b) h = bool_short false
text_with_two_short m s (Value-F.Int a) (Value-F.List t b) h = bool_short false
text_with_two_short m s (Value-F.Int a) (Value-F.Map t b) h = bool_short false
text_with_two_short m s (Value-F.Text a) (Value-F.Text b) h = either (m == 9) _ _ (short_text_short (replaced a b s)) (bool_short false)
text_with_two_short m s (Value-F.Text a) (Value-F.Bool b) h = bool_short false
text_with_two_short m s (Value-F.Text a) (Value-F.Int b) h = bool_short false
text_with_two_short m s (Value-F.Text a) (Value-F.List t b) h = bool_short false
text_with_two_short m s (Value-F.Text a) (Value-F.Map t b) h = bool_short false
text_with_two_short m s (Value-F.Bool a) y h = bool_short false
text_with_two_short m s (Value-F.List t a) y h = bool_short false
text_with_two_short m s (Value-F.Map t a) y h = bool_short false

text_method_short : (m : ℕ) (s : List ℕ) (args : List Value) → length s ≤ MAX_TEXT → IsShort (text_method m s args)
text_method_short m s [] h = text_alone_short m s h
text_method_short m s (x ∷ []) h = text_with_short m s (out-Value x) h
text_method_short m s (x ∷ y ∷ []) h = text_with_two_short m s (out-Value x) (out-Value y) h
text_method_short m s (x ∷ y ∷ z ∷ rest) h = bool_short false

-- the methods of lists

head_short : (items : List Value) → Few items → IsShort (head items)
head_short [] h = tt
head_short (v ∷ vs) h = h.1.0

length-put_sorted : (before : Value → Value → Bool) (v : Value) (ws : List Value) → length (put_sorted before v ws) ≡ suc (length ws)
length-put_sorted before v [] = refl
length-put_sorted before v (w ∷ ws) = by_test (before w v) (length-put_sorted before v ws)
  where
    by_test : (b : Bool) → length (put_sorted before v ws) ≡ suc (length ws) → length (cond b (w ∷ put_sorted before v ws) (v ∷ w ∷ ws)) ≡ suc (length (w ∷ ws))
    by_test true e = ap suc e
    by_test false e = refl

length-sorted : (before : Value → Value → Bool) (vs : List Value) → length (sorted before vs) ≡ length vs
length-sorted before [] = refl
length-sorted before (v ∷ vs) = length-put_sorted before v (sorted before vs) ∙ ap suc (length-sorted before vs)

sorted_short : (before : Value → Value → Bool) (t : Ty) (items : List Value) → Few items → IsShort (Ok (value.List t (sorted before items)))
sorted_short before t items h = list_short t (sorted before items) (let e = length-sorted before items in omega arith, all_sorted IsWithinLimits before items h.1)

sort_short : (y : Ty-F Ty) (t : Ty) (items : List Value) → Few items → IsShort (sort_at y t items)
sort_short Ty-F.Int t items h = sorted_short is_less t items h
sort_short Ty-F.Text t items h = sorted_short is_earlier t items h
sort_short Ty-F.Bool t items h = bool_short false
sort_short (Ty-F.List u) t items h = bool_short false
sort_short (Ty-F.Map u) t items h = bool_short false
sort_short Ty-F.Void t items h = bool_short false

tail_few : (items : List Value) → Few items → Few (drop 1 items)
tail_few [] h = h
tail_few (v ∷ vs) h = (let l = h.0 in omega arith, h.1.1)

list_alone_short : (m : ℕ) (t : Ty) (items : List Value) → Few items → IsShort (list_alone m t items)
list_alone_short m t items h =
    either (m == 17) _ _ (int_short (counted (length items))) (
    either (m == 18) _ _ (bool_short (length items == 0)) (
    either (m == 21) _ _ (head_short items h) (
    either (m == 22) _ _ (list_short t (drop 1 items) (tail_few items h)) (
    either (m == 23) _ _ (list_short t (reverse items) (let e = length-reverse items in let l = h.0 in omega arith, all_reverse IsWithinLimits items h.1)) (
    either (m == 24) _ _ (sort_short (out-Ty t) t items h) (bool_short false))))))

join_with_short : (items : List Value) (x : Value-F Value) → IsShort (join_with items x)
join_with_short items (Value-F.Text t) = short_text_short _
join_with_short items (Value-F.Bool b) = bool_short false
join_with_short items (Value-F.Int n) = bool_short false
join_with_short items (Value-F.List t more) = bool_short false
join_with_short items (Value-F.Map t ps) = bool_short false

list_with_short : (m : ℕ) (items : List Value) (x : Value) → IsShort (list_with m items x)
list_with_short m items x = either (m == 19) _ _ (bool_short (list_any (λ v. is_same v x) items)) (either (m == 20) _ _ (join_with_short items (out-Value x)) (bool_short false))

list_method_short : (m : ℕ) (t : Ty) (items args : List Value) → Few items → IsShort (list_method m t items args)
list_method_short m t items [] h = list_alone_short m t items h
list_method_short m t items (x ∷ []) h = list_with_short m items x
list_method_short m t items (x ∷ y ∷ rest) h = bool_short false

-- the methods of maps

abbrev Pairs : Type 0
Pairs = List (List ℕ × Value)

keys_within : (ps : Pairs) → AllByRecursion {X = List ℕ × Value} (λ p. length p.0 ≤ MAX_TEXT) ps → AllByRecursion IsWithinLimits (keys ps)
keys_within [] h = tt
keys_within (p ∷ ps) h = (text_limits p.0 h.0, keys_within ps h.1)

values_within : (ps : Pairs) → AllByRecursion {X = List ℕ × Value} (λ p. IsWithinLimits p.1) ps → AllByRecursion IsWithinLimits (values ps)
values_within [] h = tt
values_within (p ∷ ps) h = (h.0, values_within ps h.1)

map_alone_short : (m : ℕ) (t : Ty) (ps : Pairs) → IsWithinLimits (value.Map t ps) → IsShort (map_alone m t ps)
map_alone_short m t ps h =
    let both = (every-Map IsWithinHere t ps).0 h in
    let l = both.0.0 in
    either (m == 25) _ _ (int_short (counted (length ps))) (
    either (m == 27) _ _ (list_short ty.Text (keys ps) (let e = length-map ps (λ p. value.Text p.0) in omega arith, keys_within ps both.0.1)) (
    either (m == 28) _ _ (list_short t (values ps) (let e = length-map {A = List ℕ × Value} {B = Value} ps (λ p. p.1) in omega arith, values_within ps both.1)) (bool_short false)))

map_with_short : (m : ℕ) (ps : Pairs) (x : Value-F Value) → IsShort (map_with m ps x)
map_with_short m ps (Value-F.Text k) = either (m == 26) _ _ (bool_short (has_key k ps)) (bool_short false)
map_with_short m ps (Value-F.Bool b) = bool_short false
map_with_short m ps (Value-F.Int n) = bool_short false
map_with_short m ps (Value-F.List t items) = bool_short false
map_with_short m ps (Value-F.Map t more) = bool_short false

map_method_short : (m : ℕ) (t : Ty) (ps : Pairs) (args : List Value) → IsWithinLimits (value.Map t ps) → IsShort (map_method m t ps args)
map_method_short m t ps [] h = map_alone_short m t ps h
map_method_short m t ps (x ∷ []) h = map_with_short m ps (out-Value x)
map_method_short m t ps (x ∷ y ∷ rest) h = bool_short false

abbrev Gives : ℕ → List Value → Value → Type 0
Gives m args v = IsWithinLimits v → IsShort (method_of m v args)

-- what a method gives is within the limits where its receiver is
pub method_short : (m : ℕ) (args : List Value) (v : Value) → IsWithinLimits v → IsShort (method_of m v args)
method_short m args = value_cases (Gives m args)
    (λ b h. rw (value.outs-Bool b) (bool_short false))
    (λ n h. rw (value.outs-Int n) (bool_short false))
    (λ s h. rw (value.outs-Text s) (text_method_short m s args ((every-Text IsWithinHere s).0 h)))
    (λ t items h. rw (value.outs-List t items) (list_method_short m t items args ((every-List IsWithinHere t items).0 h)))
    (λ t ps h. rw (value.outs-Map t ps) (map_method_short m t ps args h))
