-- Values are fields, both ways.
use Rattle.std.proofs.Common.{◌≡◌, ℕ, ℤ, ◌^◌, ◌≤◌, ◌<◌, List, [], ◌∷◌, ◌++◌, length, map, Bool, false, Option, Some, None, Ok, Err, FitsSigned, refl, sym, ap, subst, ◌∙◌, arith}
use Rattle.std.proofs.lemmas.List.{length-map}
use Rattle.std.specs.Bool.{⊤}
use Rattle.std.specs.Int.{w64}
use Rattle.std.specs.List.{AllByRecursion, flat_map}
use Rattle.bds_value.specs.declared.TheConstants.{MAX_TEXT, MAX_ITEMS, MAX_NESTING}
use Rattle.bds_value.specs.declared.faults.FieldFault.TheVariants.{BadTag}
use Rattle.bds_value.specs.declared.value.Input.{Input}
use Rattle.bds_value.specs.declared.value.Ty.{Ty}
use Rattle.bds_value.specs.declared.value.Ty.TheVariants as ty
use Rattle.bds_value.specs.declared.value.Value.{Value}
use Rattle.bds_value.specs.declared.value.Value.TheVariants as value
use Rattle.bds_value.specs.Fields.{AreBytes, Stretch, Back, ReadsBack, Spelled, ReadsSpelled, IsField, RisesFrom, IsValueTy, IsFieldValue, NumberFits, NumbersFit}
use Rattle.bds_value.specs.Order.{is_before, BeginsBehind, KeysRise}
use Rattle.bds_value.specs.Reading.{Read, Reader, read_map, bool_at, i64_at, text_at, list_at, rising_at, pair_at, ty_layer, deeper, body_at, value_at}
use Rattle.bds_value.specs.Spelling.{u32_field, bool_field, i64_field, text_field, list_field, ty_field, pair_field, body_field, value_field, IsWithinHere, IsWithinLimits}
use Rattle.bds_value.specs.Spelling.{body_step as field_step}
use Rattle.bds_value.specs.Value.{type_of, type_at, FitsHere, IsWellFormed}
use Rattle.bds_value.proofs.Every.{every-Bool, every-Int, every-Text, every-List, every-Map}
use Rattle.bds_value.proofs.FieldLaws.{back_then, bind_ok, map_ok, stretch-join, stretch-bytes}
use Rattle.bds_value.proofs.Folds.{value_fold-Bool, value_fold-Int, value_fold-Text, value_fold-List, value_fold-Map}
use Rattle.bds_value.proofs.Induction.{value_induction, ty_induction}
use Rattle.bds_value.proofs.ListLaws.{list_back, list_spelled, KeyedBack, rising_list_back, rising_list_spelled}
use Rattle.bds_value.proofs.NumberLaws.{bool_is_field, i64_is_field, text_is_field}
use Rattle.bds_value.proofs.ReadLaws.{body_at-Bool, body_at-Int, body_at-Text, body_at-List, body_at-Map, body_at-Void}
use Rattle.bds_value.proofs.TyFieldLaws.{value_ty_is_field}

-- the type of each kind of value
pub type_of-Bool : (b : Bool) → type_of (value.Bool b) ≡ ty.Bool
type_of-Bool b = ap type_at (value.outs-Bool b)

pub type_of-Int : (n : ℤ) → type_of (value.Int n) ≡ ty.Int
type_of-Int n = ap type_at (value.outs-Int n)

pub type_of-Text : (t : List ℕ) → type_of (value.Text t) ≡ ty.Text
type_of-Text t = ap type_at (value.outs-Text t)

pub type_of-List : (t : Ty) (items : List Value) → type_of (value.List t items) ≡ ty.List t
type_of-List t items = ap type_at (value.outs-List t items)

pub type_of-Map : (t : Ty) (pairs : List (List ℕ × Value)) → type_of (value.Map t pairs) ≡ ty.Map t
type_of-Map t pairs = ap type_at (value.outs-Map t pairs)

flat_map-map : {X Y : Type 0} (g : Y → List ℕ) (f : X → Y) (xs : List X) → flat_map g (map f xs) ≡ flat_map (λ x. g (f x)) xs
flat_map-map g f [] = refl
flat_map-map g f (x ∷ xs) = ap (λ l. g (f x) ++ l) (flat_map-map g f xs)

-- the field of a list whose items are made
list_field-map : {X Y : Type 0} (g : Y → List ℕ) (f : X → Y) (xs : List X) → list_field g (map f xs) ≡ list_field (λ x. g (f x)) xs
list_field-map g f xs = ap (λ n. u32_field n ++ flat_map g (map f xs)) (length-map xs f) ∙ ap (λ l. u32_field (length xs) ++ l) (flat_map-map g f xs)

-- the body of a list and of a map
pub body_field-List : (t : Ty) (items : List Value) → body_field (value.List t items) ≡ list_field body_field items
body_field-List t items = value_fold-List field_step t items ∙ list_field-map (λ b. b) body_field items

abbrev key_of : List ℕ × Value → List ℕ
key_of p = p.0

abbrev value_body : List ℕ × Value → List ℕ
value_body p = body_field p.1

abbrev pair_whole : List ℕ × Value → List ℕ
pair_whole p = text_field p.0 ++ body_field p.1

pub body_field-Map : (t : Ty) (pairs : List (List ℕ × Value)) → body_field (value.Map t pairs) ≡ list_field pair_whole pairs
body_field-Map t pairs = value_fold-Map field_step t pairs ∙ list_field-map pair_field (λ (p : List ℕ × Value). (p.0, body_field p.1)) pairs

back_map : {X Y : Type 0} (r : Reader X) (f : X → Y) (text : List ℕ) (x : X) → Back r text x → Back (λ i. read_map f (r i)) text (f x)
back_map r f text x h i rest e = rw (h i rest e) refl

-- what a value keeps in a field, but for its type
abbrev pub Parts : Value → Type 0
Parts v = IsWellFormed v × (IsWithinLimits v × NumbersFit v)

abbrev pub BodyBack : Value → Type 0
BodyBack v = Parts v → Back (body_at (type_of v)) (body_field v) v

bool_body : (b : Bool) → BodyBack (value.Bool b)
bool_body b h = rw (type_of-Bool b, body_at-Bool, value_fold-Bool field_step b) (back_map bool_at value.Bool (bool_field b) b (bool_is_field.read_back b tt))

int_body : (n : ℤ) → BodyBack (value.Int n)
int_body n h = rw (type_of-Int n, body_at-Int, value_fold-Int field_step n) (back_map i64_at value.Int (i64_field n) n (i64_is_field.read_back n ((every-Int NumberFits n).0 h.1.1)))

text_body : (t : List ℕ) → BodyBack (value.Text t)
text_body t h = rw (type_of-Text t, body_at-Text, value_fold-Text field_step t) (back_map text_at value.Text (text_field t) t (text_is_field.read_back t ((every-Text IsWithinHere t).0 h.1.0)))

items_limited : MAX_ITEMS < 2 ^ 32
items_limited = omega arith

each_item : (t : Ty) (items : List Value) → AllByRecursion BodyBack items → AllByRecursion (λ v. type_of v ≡ t) items → AllByRecursion IsWellFormed items → AllByRecursion IsWithinLimits items → AllByRecursion NumbersFit items → AllByRecursion (ReadsBack (body_at t) body_field) items
each_item t [] back types formed limits numbers = tt
each_item t (v ∷ vs) back types formed limits numbers =
    (subst (λ u. ReadsBack (body_at u) body_field v) types.0 (back.0 (formed.0, (limits.0, numbers.0))), each_item t vs back.1 types.1 formed.1 limits.1 numbers.1)

list_body : (t : Ty) (items : List Value) → AllByRecursion BodyBack items → BodyBack (value.List t items)
list_body t items back h =
    let formed = (every-List FitsHere t items).0 h.0 in
    let limits = (every-List IsWithinHere t items).0 h.1.0 in
    let numbers = (every-List NumberFits t items).0 h.1.1 in
    let all = list_back (body_at t) body_field MAX_ITEMS items_limited items limits.0 (each_item t items back formed.0 formed.1 limits.1 numbers.1) in
    let whole = back_map (list_at MAX_ITEMS (body_at t)) (value.List t) (list_field body_field items) items all in
    rw (type_of-List t items, body_at-List t) (subst (λ l. Back (λ i. read_map (value.List t) (list_at MAX_ITEMS (body_at t) i)) l (value.List t items)) (sym (body_field-List t items)) whole)

-- keys that rise are read one behind the other
rises_behind : (k : List ℕ) (ps : List (List ℕ × Value)) → BeginsBehind k ps → KeysRise ps → RisesFrom is_before key_of (Some k) ps
rises_behind k [] b r = tt
rises_behind k (p ∷ ps) b r = (b, rises_behind p.0 ps r.0 r.1)

rises : (ps : List (List ℕ × Value)) → KeysRise ps → RisesFrom is_before key_of None ps
rises [] r = tt
rises (p ∷ ps) r = (refl, rises_behind p.0 ps r.0 r.1)

abbrev PairBack : Ty → List ℕ × Value → Type 0
PairBack t = KeyedBack is_before text_at (pair_at (body_at t)) key_of text_field value_body

each_pair : (t : Ty) (ps : List (List ℕ × Value)) → AllByRecursion {X = List ℕ × Value} (λ p. BodyBack p.1) ps → AllByRecursion {X = List ℕ × Value} (λ p. type_of p.1 ≡ t) ps → AllByRecursion {X = List ℕ × Value} (λ p. length p.0 ≤ MAX_TEXT) ps
    → AllByRecursion {X = List ℕ × Value} (λ p. IsWellFormed p.1) ps → AllByRecursion {X = List ℕ × Value} (λ p. IsWithinLimits p.1) ps → AllByRecursion {X = List ℕ × Value} (λ p. NumbersFit p.1) ps → AllByRecursion (PairBack t) ps
each_pair t [] back types keys formed limits numbers = tt
each_pair t (p ∷ ps) back types keys formed limits numbers =
    let body : Back (body_at t) (body_field p.1) p.1 = subst (λ u. ReadsBack (body_at u) body_field p.1) types.0 (back.0 (formed.0, (limits.0, numbers.0))) in
    ((text_is_field.read_back p.0 keys.0, back_map (body_at t) (λ v. (p.0, v)) (body_field p.1) p.1 body), each_pair t ps back.1 types.1 keys.1 formed.1 limits.1 numbers.1)

map_body : (t : Ty) (ps : List (List ℕ × Value)) → AllByRecursion {X = List ℕ × Value} (λ p. BodyBack p.1) ps → BodyBack (value.Map t ps)
map_body t ps back h =
    let formed = (every-Map FitsHere t ps).0 h.0 in
    let limits = (every-Map IsWithinHere t ps).0 h.1.0 in
    let numbers = (every-Map NumberFits t ps).0 h.1.1 in
    let pairs = each_pair t ps back formed.0.0 limits.0.1 formed.1 limits.1 numbers.1 in
    let read = rising_at MAX_ITEMS is_before text_at (pair_at (body_at t)) in
    let all : Back (rising_at MAX_ITEMS is_before text_at (pair_at (body_at t))) (list_field pair_whole ps) ps =
    rising_list_back is_before text_at (pair_at (body_at t)) key_of text_field value_body MAX_ITEMS items_limited ps limits.0.0 (rises ps formed.0.1) pairs in
    let whole = back_map read (value.Map t) (list_field pair_whole ps) ps all in
    rw (type_of-Map t ps, body_at-Map t) (subst (λ l. Back (λ i. read_map (value.Map t) (rising_at MAX_ITEMS is_before text_at (pair_at (body_at t)) i)) l (value.Map t ps)) (sym (body_field-Map t ps)) whole)

pub body_back : (v : Value) → BodyBack v
body_back = value_induction BodyBack bool_body int_body text_body list_body map_body

-- what a body that was read is
abbrev pub BodyLegal : Ty → Value → Type 0
BodyLegal t v = (type_of v ≡ t) × Parts v

abbrev pub BodySpelled : Ty → Type 0
BodySpelled t = ReadsSpelled (body_at t) body_field (BodyLegal t)

-- a body that is made of one part
one_part : {X : Type 0} (t : Ty) (f : X → Value) (r : Reader X) (spell : X → List ℕ) (Legal : X → Type 0) → ReadsSpelled r spell Legal
    → ((x : X) → body_field (f x) ≡ spell x) → ((x : X) → Legal x → BodyLegal t (f x)) → ReadsSpelled (λ i. read_map f (r i)) body_field (BodyLegal t)
one_part {X = X} t f r spell Legal given spelt legal i j v bytes e =
    let found = map_ok f (r i) (v, j) e in
    let x = found.0.0 in
    let here = given i found.0.1 x bytes found.1.0 in
    let value : f x ≡ v = ap (λ (p : Value × Input). p.0) found.1.1 in
    let next : found.0.1 ≡ j = ap (λ (p : Value × Input). p.1) found.1.1 in
    let whole : Stretch i (body_field (f x)) j = subst (λ l. Stretch i l j) (sym (spelt x)) (subst (λ k. Stretch i (spell x) k) next here.stretch) in
    subst (λ u. Spelled body_field (BodyLegal t) i u j) value (record { legal = legal x here.legal; stretch = whole })

bool_spelled : BodySpelled ty.Bool
bool_spelled = rw body_at-Bool (one_part ty.Bool value.Bool bool_at bool_field (λ b. ⊤) bool_is_field.spelled (value_fold-Bool field_step)
    (λ b h. (type_of-Bool b, ((every-Bool FitsHere b).1 tt, ((every-Bool IsWithinHere b).1 tt, (every-Bool NumberFits b).1 tt)))))

int_spelled : BodySpelled ty.Int
int_spelled = rw body_at-Int (one_part ty.Int value.Int i64_at i64_field (λ z. FitsSigned w64 z) i64_is_field.spelled (value_fold-Int field_step)
    (λ n h. (type_of-Int n, ((every-Int FitsHere n).1 tt, ((every-Int IsWithinHere n).1 tt, (every-Int NumberFits n).1 h)))))

text_spelled : BodySpelled ty.Text
text_spelled = rw body_at-Text (one_part ty.Text value.Text text_at text_field (λ t. length t ≤ MAX_TEXT) text_is_field.spelled (value_fold-Text field_step)
    (λ t h. (type_of-Text t, ((every-Text FitsHere t).1 tt, ((every-Text IsWithinHere t).1 h, (every-Text NumberFits t).1 tt)))))

void_spelled : BodySpelled ty.Void
void_spelled i j v bytes e = let g : ◌≡◌ {A = Read Value} (Err (BadTag i.at 5)) (Ok (v, j)) = rw body_at-Void at e in absurd (cc)

list_parts : (t : Ty) (items : List Value) → AllByRecursion (BodyLegal t) items → AllByRecursion (λ v. type_of v ≡ t) items × (AllByRecursion IsWellFormed items × (AllByRecursion IsWithinLimits items × AllByRecursion NumbersFit items))
list_parts t [] h = (tt, (tt, (tt, tt)))
list_parts t (v ∷ vs) h = let r = list_parts t vs h.1 in ((h.0.0, r.0), ((h.0.1.0, r.1.0), ((h.0.1.1.0, r.1.1.0), (h.0.1.1.1, r.1.1.1))))

list_spelled_body : (t : Ty) → BodySpelled t → BodySpelled (ty.List t)
list_spelled_body t given = rw (body_at-List t) (one_part (ty.List t) (value.List t) (list_at MAX_ITEMS (body_at t)) (list_field body_field) (λ xs. (length xs ≤ MAX_ITEMS) × AllByRecursion (BodyLegal t) xs)
    (list_spelled (body_at t) body_field (BodyLegal t) given MAX_ITEMS items_limited) (body_field-List t) legal)
  where
    legal : (items : List Value) → (length items ≤ MAX_ITEMS) × AllByRecursion (BodyLegal t) items → BodyLegal (ty.List t) (value.List t items)
    legal items h = let r = list_parts t items h.1 in
        (type_of-List t items, ((every-List FitsHere t items).1 (r.0, r.1.0), ((every-List IsWithinHere t items).1 (h.0, r.1.1.0), (every-List NumberFits t items).1 (tt, r.1.1.1))))

abbrev PairLegal : Ty → List ℕ × Value → Type 0
PairLegal t p = (length p.0 ≤ MAX_TEXT) × BodyLegal t p.1

-- and each part of its pairs
record PairParts (t : Ty) (ps : List (List ℕ × Value)) : Type 0 where
  pub keys : AllByRecursion {X = List ℕ × Value} (λ p. length p.0 ≤ MAX_TEXT) ps
  pub types : AllByRecursion {X = List ℕ × Value} (λ p. type_of p.1 ≡ t) ps
  pub formed : AllByRecursion {X = List ℕ × Value} (λ p. IsWellFormed p.1) ps
  pub limits : AllByRecursion {X = List ℕ × Value} (λ p. IsWithinLimits p.1) ps
  pub numbers : AllByRecursion {X = List ℕ × Value} (λ p. NumbersFit p.1) ps

pair_parts : (t : Ty) (ps : List (List ℕ × Value)) → AllByRecursion (PairLegal t) ps → PairParts t ps
pair_parts t [] h = record { keys = tt; types = tt; formed = tt; limits = tt; numbers = tt }
pair_parts t (p ∷ ps) h = let r = pair_parts t ps h.1 in record {
  keys = (h.0.0, r.keys);
  types = (h.0.1.0, r.types);
  formed = (h.0.1.1.0, r.formed);
  limits = (h.0.1.1.1.0, r.limits);
  numbers = (h.0.1.1.1.1, r.numbers);
}

begins : (k : List ℕ) (ps : List (List ℕ × Value)) → RisesFrom is_before key_of (Some k) ps → BeginsBehind k ps
begins k [] r = tt
begins k (p ∷ ps) r = r.0

keys_rise : (last : Option (List ℕ)) (ps : List (List ℕ × Value)) → RisesFrom is_before key_of last ps → KeysRise ps
keys_rise last [] r = tt
keys_rise last (p ∷ ps) r = (begins p.0 ps r.1, keys_rise (Some p.0) ps r.1)

map_spelled_body : (t : Ty) → BodySpelled t → BodySpelled (ty.Map t)
map_spelled_body t given = rw (body_at-Map t) (one_part (ty.Map t) (value.Map t) (rising_at MAX_ITEMS is_before text_at (pair_at (body_at t))) (list_field pair_whole)
    (λ ps. (length ps ≤ MAX_ITEMS) × (RisesFrom is_before key_of None ps × AllByRecursion (PairLegal t) ps))
    (rising_list_spelled is_before text_at (pair_at (body_at t)) key_of text_field value_body (λ k. length k ≤ MAX_TEXT) (λ p. BodyLegal t p.1) text_is_field.spelled pair_given MAX_ITEMS items_limited)
    (body_field-Map t) legal)
  where
    pair_given : (k : List ℕ) (i j : Input) (p : List ℕ × Value) → AreBytes i.bytes → pair_at (body_at t) k i ≡ Ok (p, j) → (p.0 ≡ k) × (BodyLegal t p.1 × Stretch i (body_field p.1) j)
    pair_given k i j p bytes e =
        let found = map_ok (λ (v : Value). (k, v)) (body_at t i) (p, j) e in
        let v = found.0.0 in
        let here = given i found.0.1 v bytes found.1.0 in
        let pair : (k, v) ≡ p = ap (λ (x : (List ℕ × Value) × Input). x.0) found.1.1 in
        let next : found.0.1 ≡ j = ap (λ (x : (List ℕ × Value) × Input). x.1) found.1.1 in
        subst (λ (x : List ℕ × Value). (x.0 ≡ k) × (BodyLegal t x.1 × Stretch i (body_field x.1) j)) pair (refl, (here.legal, subst (λ a. Stretch i (body_field v) a) next here.stretch))

    legal : (ps : List (List ℕ × Value)) → (length ps ≤ MAX_ITEMS) × (RisesFrom is_before key_of None ps × AllByRecursion (PairLegal t) ps) → BodyLegal (ty.Map t) (value.Map t ps)
    legal ps h = let r = pair_parts t ps h.1.1 in
        (type_of-Map t ps, ((every-Map FitsHere t ps).1 ((r.types, keys_rise None ps h.1.0), r.formed), ((every-Map IsWithinHere t ps).1 ((h.0, r.keys), r.limits), (every-Map NumberFits t ps).1 (tt, r.numbers))))

pub body_spelled : (t : Ty) → BodySpelled t
body_spelled = ty_induction BodySpelled bool_spelled int_spelled text_spelled list_spelled_body map_spelled_body void_spelled

-- a value is read exactly where it is spelled
pub value_is_field : IsField value_at value_field IsFieldValue
value_is_field = record {
  read_back = λ v h. back_then (ty_layer false (deeper MAX_NESTING)) body_at (ty_field (type_of v)) (body_field v) (type_of v) v (value_ty_is_field.read_back (type_of v) h.0) (body_back v (h.1, (h.2, h.3)));
  spelled = whole;
}
  where
    whole : ReadsSpelled value_at value_field IsFieldValue
    whole i j v bytes e =
        let found = bind_ok (ty_layer false (deeper MAX_NESTING) i) (λ (t : Ty × Input). body_at t.0 t.1) (v, j) e in
        let t = found.0.0 in
        let here = value_ty_is_field.spelled i found.0.1 t bytes found.1.0 in
        let there = body_spelled t found.0.1 j v (stretch-bytes i found.0.1 (ty_field t) here.stretch bytes) found.1.1 in
        let same = sym there.legal.0 in
        record {
          legal = (subst IsValueTy same here.legal, there.legal.1.0, there.legal.1.1.0, there.legal.1.1.1);
          stretch = stretch-join i found.0.1 j (ty_field (type_of v)) (body_field v) (subst (λ u. Stretch i (ty_field u) found.0.1) same here.stretch) there.stretch;
        }
