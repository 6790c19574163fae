-- What the index of the locals finds, and what is there behind one more and one fewer.
use Rattle.std.proofs.Common.{◌≡◌, ◌++◌, arith, ℕ, zero, suc, ◌+◌, ◌≤◌, ◌<◌, List, [], ◌∷◌, Bool, true, false, ◌||◌, Option, Some, None, refl, sym, ap, subst, ◌∙◌, cond, true≢false, drop, length, nat_lt, slice_get, append_assoc, append-nil, length-append, take, ◌-◌, is_some, Vec, if◌then◌else◌}
use Rattle.std.specs.Str.{bytes_eq}
use Rattle.std.proofs.Math.Seq.{take-append_seam}
use Rattle.std.proofs.lemmas.List.{length_push}
use Rattle.std.specs.Global.{Global}
use Rattle.std.specs.Map.{lookup}
use Rattle.std.specs.Option.{option_map, unwrap_or}
use Rattle.std.proofs.lemmas.Bool.{lt-ltb, le-ltb}
use Rattle.std.proofs.lemmas.Bool.Decides.{nat_tests, same_from_decides, Decides-like}
use Rattle.std.proofs.lemmas.Slice.Eq.{bytes_eq-Decides}
use Rattle.indexmap.specs.IndexMap.{insert_entry}
use Rattle.bds_value.specs.declared.value.Ty.{Ty}
use Rattle.bds_check_names.specs.declared.names.Variable.{Variable}
use Rattle.bds_check_names.specs.declared.locals.Local.{Local}
use Rattle.bds_check_names.specs.Scopes.{last_type, any_named}
use Rattle.bds_check_names.specs.Slots.{visible}
use Rattle.bds_check_names.specs.Indexes.{behind_one, last_place, variables_of, AreLinked, first_of_name, count_first, type_at, place_in, place_or_none, IsIndexed}

-- The place of the last variable of a name

behind_more : (b : Bool) (n m : ℕ) → n ≡ m + 1 → behind_one b n ≡ n + 1
behind_more b zero m h = absurd (omega (arith, h))
behind_more b (suc n) m h = omega arith

push_here : (b c : Bool) (n m : ℕ) → behind_one b (if c then n + 1 else m) ≡ (if c then suc n + 1 else behind_one b m)
push_here b true n m = behind_more b (n + 1) n refl ∙ omega arith
push_here b false n m = refl

pub last_place_push : (x : List ℕ) (vs : List Variable) (v : Variable) → last_place x (vs ++ v ∷ []) ≡ (if bytes_eq x v.name then length vs + 1 else last_place x vs)
last_place_push x [] v = refl
last_place_push x (u ∷ us) v = ap (behind_one (bytes_eq x u.name)) (last_place_push x us v) ∙ push_here (bytes_eq x u.name) (bytes_eq x v.name) (length us) (last_place x us)

lt_first : (b : Bool) (n : ℕ) → (b || nat_lt 0 n) ≡ nat_lt 0 (behind_one b n)
lt_first true zero = refl
lt_first false zero = refl
lt_first true (suc n) = sym (lt-ltb 0 (suc (suc n)) (omega arith))
lt_first false (suc n) = lt-ltb 0 (suc n) (omega arith) ∙ sym (lt-ltb 0 (suc (suc n)) (omega arith))

lt_rest : (b : Bool) (n s : ℕ) → nat_lt s n ≡ nat_lt (suc s) (behind_one b n)
lt_rest true zero s = le-ltb s 0 (omega arith) ∙ sym (le-ltb (suc s) 1 (omega arith))
lt_rest false zero s = le-ltb s 0 (omega arith) ∙ sym (le-ltb (suc s) 0 (omega arith))
lt_rest b (suc n) s = grind (arith, nat_tests)

pub any_place : (x : List ℕ) (vs : List Variable) (s : ℕ) → any_named x (drop s vs) ≡ nat_lt s (last_place x vs)
any_place x [] zero = refl
any_place x [] (suc s) = sym (le-ltb (suc s) 0 (omega arith))
any_place x (v ∷ vs) zero = ap (λ r. bytes_eq x v.name || r) (any_place x vs 0) ∙ lt_first (bytes_eq x v.name) (last_place x vs)
any_place x (v ∷ vs) (suc s) = any_place x vs s ∙ lt_rest (bytes_eq x v.name) (last_place x vs) s

-- The type there

type_or : List Variable → ℕ → Option Ty → Option Ty
type_or vs zero found = found
type_or vs (suc n) found = option_map (λ v. v.ty) (slice_get vs n)

type_here : (v : Variable) (vs : List Variable) (b : Bool) (n : ℕ) (found : Option Ty) → type_or vs n (if b then Some v.ty else found) ≡ type_or (v ∷ vs) (behind_one b n) found
unfolding type_or
type_here v vs true zero found = refl
type_here v vs false zero found = refl
type_here v vs b (suc n) found = refl

type_found : (x : List ℕ) (vs : List Variable) (found : Option Ty) → last_type x vs found ≡ type_or vs (last_place x vs) found
unfolding type_or
type_found x [] found = refl
type_found x (v ∷ vs) found = type_found x vs (if bytes_eq x v.name then Some v.ty else found) ∙ type_here v vs (bytes_eq x v.name) (last_place x vs) found

or_none : (vs : List Variable) (n : ℕ) → type_or vs n None ≡ type_at vs n
unfolding type_or
or_none vs zero = refl
or_none vs (suc n) = refl

pub type_place : (x : List ℕ) (vs : List Variable) → last_type x vs None ≡ type_at vs (last_place x vs)
type_place x vs = type_found x vs None ∙ or_none vs (last_place x vs)

-- One more local at the end

pub variables_push : (ls : List Local) (l : Local) → variables_of (ls ++ l ∷ []) ≡ variables_of ls ++ l.variable ∷ []
variables_push [] l = refl
variables_push (k ∷ ks) l = ap (λ vs. k.variable ∷ vs) (variables_push ks l)

pub length_variables : (ls : List Local) → length (variables_of ls) ≡ length ls
length_variables [] = refl
length_variables (l ∷ ls) = ap suc (length_variables ls)

linked_from : (before : List Variable) (ls : List Local) (l : Local) → AreLinked before ls → l.earlier ≡ last_place l.variable.name (before ++ variables_of ls) → AreLinked before (ls ++ l ∷ [])
linked_from before [] l h e = (e ∙ ap (last_place l.variable.name) (append-nil before), tt)
linked_from before (k ∷ ks) l h e = (h.0, linked_from (before ++ k.variable ∷ []) ks l h.1 (e ∙ ap (last_place l.variable.name) (sym (append_assoc before (k.variable ∷ []) (variables_of ks)))))

pub linked_push : (ls : List Local) (l : Local) → AreLinked [] ls → l.earlier ≡ last_place l.variable.name (variables_of ls) → AreLinked [] (ls ++ l ∷ [])
linked_push ls l h e = linked_from [] ls l h e

linked_back : (before : List Variable) (ls : List Local) (l : Local) → AreLinked before (ls ++ l ∷ []) → AreLinked before ls × (l.earlier ≡ last_place l.variable.name (before ++ variables_of ls))
linked_back before [] l h = (tt, h.0 ∙ ap (last_place l.variable.name) (sym (append-nil before)))
linked_back before (k ∷ ks) l h =
    let rest = linked_back (before ++ k.variable ∷ []) ks l h.1 in
    ((h.0, rest.0), rest.1 ∙ ap (last_place l.variable.name) (append_assoc before (k.variable ∷ []) (variables_of ks)))

pub linked_pop : (ls : List Local) (l : Local) → AreLinked [] (ls ++ l ∷ []) → AreLinked [] ls × (l.earlier ≡ last_place l.variable.name (variables_of ls))
linked_pop ls l h = linked_back [] ls l h

pub count_push : (ls : List Local) (l : Local) → count_first (ls ++ l ∷ []) ≡ count_first ls + first_of_name l.earlier
count_push [] l = omega arith
count_push (k ∷ ks) l = let h : count_first (ks ++ l ∷ []) ≡ count_first ks + first_of_name l.earlier = count_push ks l in omega (arith, h)

first_most : (n : ℕ) → first_of_name n ≤ 1
first_most zero = omega arith
first_most (suc n) = omega arith

pub count_most : (ls : List Local) → count_first ls ≤ length ls
count_most [] = omega arith
count_most (l ∷ ls) = omega (arith, first_most l.earlier, count_most ls)

-- How many aren't hidden

same_name : (x y : List ℕ) → bytes_eq x y ≡ bytes_eq y x
same_name x y = same_from_decides (bytes_eq x y) (bytes_eq y x) (bytes_eq-Decides x y) (Decides-like (bytes_eq y x) (λ e. sym e) (λ e. sym e) (bytes_eq-Decides y x))

or_assoc : (a b c : Bool) → (a || (b || c)) ≡ ((a || b) || c)
or_assoc true b c = refl
or_assoc false b c = refl

pub any_push : (x : List ℕ) (vs : List Variable) (v : Variable) → any_named x (vs ++ v ∷ []) ≡ (any_named x vs || bytes_eq x v.name)
any_push x [] v = or_false (bytes_eq x v.name)
  where
    or_false : (b : Bool) → (b || false) ≡ b
    or_false true = refl
    or_false false = refl
any_push x (u ∷ us) v = ap (λ r. bytes_eq x u.name || r) (any_push x us v) ∙ or_assoc (bytes_eq x u.name) (any_named x us) (bytes_eq x v.name)

-- a and c: the first and the last have one of their name between them; b: they have one name
hidden_by : (a b c : Bool) (n : ℕ) → (b ≡ true → a ≡ c) →
    (if (a || b) then (if c then n else n + 1) else (if c then n else n + 1) + 1) ≡ (if (b || c) then (if a then n else n + 1) else (if a then n else n + 1) + 1)
hidden_by true true true n h = refl
hidden_by true true false n h = absurd (true≢false (h refl))
hidden_by true false true n h = refl
hidden_by true false false n h = refl
hidden_by false true true n h = absurd (true≢false (sym (h refl)))
hidden_by false true false n h = refl
hidden_by false false true n h = refl
hidden_by false false false n h = refl

pub visible_push : (vs : List Variable) (v : Variable) → visible (vs ++ v ∷ []) ≡ (if any_named v.name vs then visible vs else visible vs + 1)
visible_push [] v = refl
visible_push (u ∷ us) v =
    ap (λ n. if any_named u.name (us ++ v ∷ []) then n else n + 1) (visible_push us v) ∙
    ap (λ b. if b then (if any_named v.name us then visible us else visible us + 1) else (if any_named v.name us then visible us else visible us + 1) + 1) (any_push u.name us v) ∙
    hidden_by (any_named u.name us) (bytes_eq u.name v.name) (any_named v.name us) (visible us) (λ q. ap (λ y. any_named y us) ((bytes_eq-Decides u.name v.name).0 q)) ∙
    ap (λ b. if (b || any_named v.name us) then visible (u ∷ us) else visible (u ∷ us) + 1) (same_name u.name v.name)

first_is : (n k : ℕ) → (if nat_lt 0 n then k else k + 1) ≡ k + first_of_name n
first_is zero k = refl
first_is (suc n) k = rw (lt-ltb 0 (suc n) (omega arith)) (omega arith)

visible_first : (before : List Variable) (l : Local) → l.earlier ≡ last_place l.variable.name before → visible (before ++ l.variable ∷ []) ≡ visible before + first_of_name l.earlier
visible_first before l e =
    visible_push before l.variable ∙
    ap (λ b. if b then visible before else visible before + 1) (any_place l.variable.name before 0) ∙
    first_is (last_place l.variable.name before) (visible before) ∙
    ap (λ n. visible before + first_of_name n) (sym e)

counted_from : (before : List Variable) (ls : List Local) → AreLinked before ls → count_first ls + visible before ≡ visible (before ++ variables_of ls)
counted_from before [] h = (let none : 0 + visible before ≡ visible before = omega arith in none) ∙ ap visible (sym (append-nil before))
counted_from before (l ∷ ls) h =
    let one : visible (before ++ l.variable ∷ []) ≡ visible before + first_of_name l.earlier = visible_first before l h.0 in
    let rest : count_first ls + visible (before ++ l.variable ∷ []) ≡ visible ((before ++ l.variable ∷ []) ++ variables_of ls) = counted_from (before ++ l.variable ∷ []) ls h.1 in
    let sum : first_of_name l.earlier + count_first ls + visible before ≡ count_first ls + visible (before ++ l.variable ∷ []) = omega (arith, one) in
    sum ∙ rest ∙ ap visible (append_assoc before (l.variable ∷ []) (variables_of ls))

pub counted : (ls : List Local) → AreLinked [] ls → count_first ls ≡ visible (variables_of ls)
counted ls h = let all : count_first ls + visible [] ≡ visible (variables_of ls) = counted_from [] ls h in omega (arith, all)

-- A place that is put into the table

module _ {K : Type 0} (name : K → List ℕ) where
  here : {X : Type 0} (a c : Bool) (s t : X) (l : Option X) → a ≡ c → cond a (Some s) l ≡ (if c then Some s else cond a (Some t) l)
  here true true s t l q = refl
  here true false s t l q = absurd (true≢false q)
  here false true s t l q = absurd (true≢false (sym q))
  here false false s t l q = refl

  elsewhere : {X : Type 0} (a c : Bool) (s t : X) (l : Option X) → (a ≡ true → c ≡ true → ⊥) → cond a (Some t) (if c then Some s else l) ≡ (if c then Some s else cond a (Some t) l)
  elsewhere true true s t l q = absurd (q refl refl)
  elsewhere true false s t l q = refl
  elsewhere false c s t l q = refl

  insert_here : {X : Type 0} (x : List ℕ) (e : K × X) (es : List (K × X)) (k : K) (v : X) (b : Bool) → bytes_eq (name k) (name e.0) ≡ b →
      lookup (λ k. bytes_eq x (name k)) (insert_entry (λ i j. bytes_eq (name i) (name j)) es k v) ≡ (if bytes_eq x (name k) then Some v else lookup (λ k. bytes_eq x (name k)) es) →
      lookup (λ k. bytes_eq x (name k)) (if b then (e.0, v) ∷ es else e ∷ insert_entry (λ i j. bytes_eq (name i) (name j)) es k v)
      ≡ (if bytes_eq x (name k) then Some v else cond (bytes_eq x (name e.0)) (Some e.1) (lookup (λ k. bytes_eq x (name k)) es))
  insert_here x e es k v true q h = here (bytes_eq x (name e.0)) (bytes_eq x (name k)) v e.1 (lookup (λ k. bytes_eq x (name k)) es) (ap (bytes_eq x) (sym ((bytes_eq-Decides (name k) (name e.0)).0 q)))
  insert_here x e es k v false q h =
      ap (cond (bytes_eq x (name e.0)) (Some e.1)) h ∙
      elsewhere (bytes_eq x (name e.0)) (bytes_eq x (name k)) v e.1 (lookup (λ k. bytes_eq x (name k)) es)
      (λ a c. true≢false (sym ((bytes_eq-Decides (name k) (name e.0)).1 (sym ((bytes_eq-Decides x (name k)).0 c) ∙ (bytes_eq-Decides x (name e.0)).0 a)) ∙ q))

  only : {X : Type 0} (b : Bool) (v : X) → cond b (Some v) None ≡ (if b then Some v else None)
  only true v = refl
  only false v = refl

  lookup_insert : {X : Type 0} (x : List ℕ) (es : List (K × X)) (k : K) (v : X) →
      lookup (λ k. bytes_eq x (name k)) (insert_entry (λ i j. bytes_eq (name i) (name j)) es k v) ≡ (if bytes_eq x (name k) then Some v else lookup (λ k. bytes_eq x (name k)) es)
  lookup_insert x [] k v = only (bytes_eq x (name k)) v
  lookup_insert x (e ∷ es) k v = insert_here x e es k v (bytes_eq (name k) (name e.0)) refl (lookup_insert x es k v)

  or_zero : (b : Bool) (n : ℕ) (o : Option ℕ) → unwrap_or (if b then Some n else o) 0 ≡ (if b then n else unwrap_or o 0)
  or_zero true n o = refl
  or_zero false n o = refl

  pub place_insert : (x : List ℕ) (es : List (K × ℕ)) (k : K) (n : ℕ) →
      unwrap_or (lookup (λ k. bytes_eq x (name k)) (insert_entry (λ i j. bytes_eq (name i) (name j)) es k n)) 0 ≡ (if bytes_eq x (name k) then n else unwrap_or (lookup (λ k. bytes_eq x (name k)) es) 0)
  place_insert x es k n = ap (λ o. unwrap_or o 0) (lookup_insert x es k n) ∙ or_zero (bytes_eq x (name k)) n (lookup (λ k. bytes_eq x (name k)) es)

-- The index behind one more local and one fewer

pub first_zero : (n : ℕ) → n ≡ 0 → first_of_name n ≡ 1
first_zero zero h = refl
first_zero (suc n) h = absurd (omega (arith, h))

pub first_other : (n : ℕ) → 0 < n → first_of_name n ≡ 0
first_other zero h = absurd (omega (arith, h))
first_other (suc n) h = refl

pub is_there : (es : List (Vec ℕ Global × ℕ)) (x : List ℕ) → 0 < place_or_none es x → is_some (place_in es x) ≡ true
is_there es x h = by (place_in es x) h
  where
    by : (o : Option ℕ) → 0 < unwrap_or o 0 → is_some o ≡ true
    by None q = absurd (omega (arith, q))
    by (Some n) q = refl

module _ (ls all : List Local) (l : Local) (old new : List (Vec ℕ Global × ℕ)) (name : List ℕ) (whole : all ≡ ls ++ l ∷ []) (named : name ≡ l.variable.name) where
  last_of_all : (x : List ℕ) → last_place x (variables_of all) ≡ (if bytes_eq x l.variable.name then length ls + 1 else last_place x (variables_of ls))
  last_of_all x =
      ap (λ ks. last_place x (variables_of ks)) whole ∙ ap (last_place x) (variables_push ls l) ∙ last_place_push x (variables_of ls) l.variable ∙
      ap (λ n. if bytes_eq x l.variable.name then n + 1 else last_place x (variables_of ls)) (length_variables ls)

  same_choice : (x : List ℕ) (m n k : ℕ) → (bytes_eq x l.variable.name ≡ true → m ≡ k) → (bytes_eq x l.variable.name ≡ false → n ≡ k) → (if bytes_eq x l.variable.name then m else n) ≡ k
  same_choice x m n k = by (bytes_eq x l.variable.name)
    where
      by : (b : Bool) → (b ≡ true → m ≡ k) → (b ≡ false → n ≡ k) → (if b then m else n) ≡ k
      by true t f = t refl
      by false t f = f refl

  pub index_pushed : (m n place : ℕ) → IsIndexed ls old m → l.earlier ≡ place_or_none old name → place ≡ length all →
      ((x : List ℕ) → place_or_none new x ≡ (if bytes_eq x name then place else place_or_none old x)) → n ≡ m + first_of_name l.earlier → IsIndexed all new n
  index_pushed m n place is earlier at put visible = record {
    last_places = λ x. put x ∙ ap (λ y. if bytes_eq x y then place else place_or_none old x) named ∙
        ap (λ k. if bytes_eq x l.variable.name then k else place_or_none old x) (at ∙ ap length whole ∙ length_push ls l) ∙
        ap (λ k. if bytes_eq x l.variable.name then length ls + 1 else k) (is.last_places x) ∙ sym (last_of_all x);
    linked = subst (AreLinked []) (sym whole) (linked_push ls l is.linked (earlier ∙ ap (place_or_none old) named ∙ is.last_places l.variable.name));
    counted = visible ∙ ap (λ k. k + first_of_name l.earlier) is.counted ∙ sym (count_push ls l) ∙ ap count_first (sym whole);
  }

  pub has_place : (m : ℕ) → IsIndexed all old m → is_some (place_in old name) ≡ true
  has_place m is =
      let at : place_or_none old name ≡ length ls + 1 =
      ap (place_or_none old) named ∙ is.last_places l.variable.name ∙ last_of_all l.variable.name ∙ ap (λ b. if b then length ls + 1 else last_place l.variable.name (variables_of ls)) ((bytes_eq-Decides l.variable.name l.variable.name).1 refl) in
      is_there old name (omega (arith, at))

  pub count_popped : (m : ℕ) → IsIndexed all old m → m ≡ count_first ls + first_of_name l.earlier
  count_popped m is = is.counted ∙ ap count_first whole ∙ count_push ls l

  pub index_popped : (m n : ℕ) → IsIndexed all old m →
      ((x : List ℕ) → place_or_none new x ≡ (if bytes_eq x name then l.earlier else place_or_none old x)) → m ≡ n + first_of_name l.earlier → IsIndexed ls new n
  index_popped m n is put visible =
      let before : AreLinked [] ls × (l.earlier ≡ last_place l.variable.name (variables_of ls)) = linked_pop ls l (subst (AreLinked []) whole is.linked) in
      let sum : m ≡ count_first ls + first_of_name l.earlier = count_popped m is in
      record {
        last_places = λ x. put x ∙ ap (λ y. if bytes_eq x y then l.earlier else place_or_none old x) named ∙
            same_choice x l.earlier (place_or_none old x) (last_place x (variables_of ls))
            (λ q. before.1 ∙ ap (λ y. last_place y (variables_of ls)) (sym ((bytes_eq-Decides x l.variable.name).0 q)))
            (λ q. is.last_places x ∙ last_of_all x ∙ ap (λ b. if b then length ls + 1 else last_place x (variables_of ls)) q);
        linked = before.0;
        counted = omega (arith, sum, visible);
      }

pub variables_pop : (ls all : List Local) (l : Local) → all ≡ ls ++ l ∷ [] → variables_of ls ≡ take (length (variables_of all) - 1) (variables_of all)
variables_pop ls all l whole = sym (ap (λ vs. take (length vs - 1) vs) (ap variables_of whole ∙ variables_push ls l) ∙ front (variables_of ls) l.variable)
  where
    front : (vs : List Variable) (v : Variable) → take (length (vs ++ v ∷ []) - 1) (vs ++ v ∷ []) ≡ vs
    front vs v =
        let size : length (vs ++ v ∷ []) - 1 ≡ length vs = simp length-append (omega arith) in
        ap (λ n. take n (vs ++ v ∷ [])) size ∙ take-append_seam vs (v ∷ [])

get_variable : (ls : List Local) (n : ℕ) → slice_get (variables_of ls) n ≡ option_map (λ l. l.variable) (slice_get ls n)
get_variable [] n = refl
get_variable (l ∷ ls) zero = refl
get_variable (l ∷ ls) (suc n) = get_variable ls n

pub type_there : (ls : List Local) (l : Local) (p : ℕ) → 0 < p → slice_get ls (p - 1) ≡ Some l → Some l.variable.ty ≡ type_at (variables_of ls) p
type_there ls l zero h at = absurd (omega (arith, h))
type_there ls l (suc n) h at =
    let less : suc n - 1 ≡ n = omega arith in
    let there : slice_get ls n ≡ Some l = ap (slice_get ls) (sym less) ∙ at in
    sym (ap (option_map (λ v. v.ty)) (get_variable ls n ∙ ap (option_map (λ k. k.variable)) there))
