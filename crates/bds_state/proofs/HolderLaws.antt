-- Numbers that are kept of threads: how they change, and which threads are passed over.
use Rattle.std.proofs.Common.{◌≡◌, ◌<◌, ◌≤◌, ◌+◌, ℕ, zero, suc, Bool, true, false, List, [], ◌∷◌, ◌++◌, length}
use Rattle.std.proofs.Common.{slice_get, slice_index_or, take, ◌⊎◌, inl, inr, Option, Some, None, refl, sym, ap, ◌∙◌}
use Rattle.std.proofs.Common.{subst, arith, nat_le, if◌then◌else◌}
use Rattle.std.specs.List.{slice_set}
use Rattle.std.specs.Option.{option_map, unwrap_or}
use Rattle.bds_state.specs.Holding.{AreListed, ArePassed, AreTaken, HasHolder, HoldsNone, IsFreed, IsListed, IsNoted}
use Rattle.bds_state.specs.Holding.{KeepsLess, ListsMore}
use Rattle.bds_state.proofs.Places.{same_item}
use Rattle.bds_tasks.specs.Kept.{list_at}
use Rattle.bds_tasks.proofs.PlaceLaws.{same_or_not}
use Rattle.bds_levels.specs.Least.{NEVER, place, place_from}

none_some : {X : Type 0} (x : X) → ◌≡◌ {A = Option X} None (Some x) → ⊥
none_some x e = absurd (cc)

set_there : {X : Type 0} (xs : List X) (k : ℕ) (y : X) → k < length xs → slice_get (slice_set xs k y) k ≡ Some y
set_there [] k y l = let no : ⊥ = omega (arith, l) in elim no [ ]
set_there (z ∷ zs) zero y l = refl
set_there (z ∷ zs) (suc k) y l = set_there zs k y (omega (arith, l))

set_other : {X : Type 0} (xs : List X) (k i : ℕ) (y : X) → (i ≡ k → ⊥)
    → slice_get (slice_set xs k y) i ≡ slice_get xs i
set_other [] k i y h = refl
set_other (z ∷ zs) zero zero y h = elim (h refl) [ ]
set_other (z ∷ zs) zero (suc i) y h = refl
set_other (z ∷ zs) (suc k) zero y h = refl
set_other (z ∷ zs) (suc k) (suc i) y h = set_other zs k i y (λ e. h (ap suc e))

set_long : {X : Type 0} (xs : List X) (k : ℕ) (y : X) → length (slice_set xs k y) ≡ length xs
set_long [] k y = refl
set_long (x ∷ xs) zero y = refl
set_long (x ∷ xs) (suc k) y = ap suc (set_long xs k y)

-- Numbers

pub less_more : (held : List ℕ) → KeepsLess held (held ++ 0 ∷ [])
less_more [] zero n h = absurd (let z : ◌≡◌ {A = Option ℕ} (Some 0) (Some n) = h.0 in let e : 0 ≡ n = cc in let o = h.1
    in omega (arith, e, o))
less_more [] (suc k) n h = absurd (none_some n h.0)
less_more (m ∷ held) zero n h = h
less_more (m ∷ held) (suc k) n h = less_more held k n h

pub less_on : (a b c : List ℕ) → KeepsLess a b → KeepsLess b c → KeepsLess a c
less_on a b c f g k n h = f k n (g k n h)

-- number n is put at place k
pub noted_set : (old held : List ℕ) (k n : ℕ) → k < length held → KeepsLess old held
    → IsNoted k n old (slice_set held k n)
noted_set old held k n l less = record {
  here = λ m h. same_item (slice_get (slice_set held k n) k) m n h.0 (set_there held k n l);
  others = λ i m d h. less i m (sym (set_other held k i n d) ∙ h.0, h.1);
}

pub listed_set : (old held : List ℕ) (k n : ℕ) (lists more : List (List ℕ)) → k < length held → KeepsLess old held
    → AreListed old lists → ListsMore lists more → (1 ≤ n → n < NEVER → IsListed more k n)
    → AreListed (slice_set held k n) more
listed_set old held k n lists more l less are on here i m h never =
    same_or_not (IsListed more i m) i k
    (λ e.
    let is : m ≡ n = same_item (slice_get (slice_set held k n) k) m n
    (subst (λ j. slice_get (slice_set held k n) j ≡ Some m) e h.0) (set_there held k n l) in
    subst (λ j. IsListed more j m) (sym e)
    (subst (λ x. IsListed more k x) (sym is) (here (subst (λ x. 1 ≤ x) is h.1) (subst (λ x. x < NEVER) is never))))
    (λ d. on i m (are i m (less i m (sym (set_other held k i n d) ∙ h.0, h.1)) never))

pub none_noted : (k n : ℕ) (old : List ℕ) → IsNoted k n old []
none_noted k n old = record {
  here = λ m h. elim (none_some m h.0) [ ];
  others = λ i m d h. elim (none_some m h.0) [ ];
}

-- nothing was kept of thread k
pub zero_noted : (k n : ℕ) (held : List ℕ) → n ≡ 0 → ((m : ℕ) → HasHolder held k m → m ≡ 0) → IsNoted k n held held
zero_noted k n held e none = record {
  here = λ m h. none m h ∙ sym e;
  others = λ i m d h. h;
}

pub one_kept : (held : List ℕ) (k n m : ℕ) → Some n ≡ slice_get held k → HasHolder held k m → m ≡ n
one_kept held k n m e h = same_item (slice_get held k) m n h.0 (sym e)

pub none_kept : (held : List ℕ) (k m : ℕ) → None ≡ slice_get held k → HasHolder held k m → m ≡ 0
none_kept held k m e h = elim (none_some m (e ∙ h.0)) [ ]

-- Lists

get_more : (xs : List ℕ) (y x i : ℕ) → slice_get xs i ≡ Some x → slice_get (xs ++ y ∷ []) i ≡ Some x
get_more [] y x i e = elim (none_some x e) [ ]
get_more (z ∷ zs) y x zero e = e
get_more (z ∷ zs) y x (suc i) e = get_more zs y x i e

get_last : (xs : List ℕ) (y : ℕ) → slice_get (xs ++ y ∷ []) (length xs) ≡ Some y
get_last [] y = refl
get_last (z ∷ zs) y = get_last zs y

pub lists_more : (lists : List (List ℕ)) → ListsMore lists (lists ++ [] ∷ [])
lists_more lists k n h = record { place = h.place; there = ap (λ xs. slice_get xs h.place) (same lists n) ∙ h.there }
  where
    same : (xs : List (List ℕ)) (i : ℕ) → list_at (xs ++ [] ∷ []) i ≡ list_at xs i
    same [] zero = refl
    same [] (suc i) = refl
    same (x ∷ xs) zero = refl
    same (x ∷ xs) (suc i) = same xs i

pub more_on : (a b c : List (List ℕ)) → ListsMore a b → ListsMore b c → ListsMore a c
more_on a b c f g k n h = g k n (f k n h)

at_set : (lists : List (List ℕ)) (n : ℕ) (list : List ℕ) → n < length lists → list_at (slice_set lists n list) n ≡ list
at_set lists n list l = ap (λ o. unwrap_or o []) (set_there lists n list l)

at_other : (lists : List (List ℕ)) (n m : ℕ) (list : List ℕ) → (m ≡ n → ⊥)
    → list_at (slice_set lists n list) m ≡ list_at lists m
at_other lists n m list d = ap (λ o. unwrap_or o []) (set_other lists n m list d)

-- thread k is put behind the list of task n
put_more : (lists : List (List ℕ)) (k n : ℕ) → n < length lists
    → ListsMore lists (slice_set lists n (list_at lists n ++ k ∷ []))
put_more lists k n l i m h =
    same_or_not (IsListed (slice_set lists n (list_at lists n ++ k ∷ [])) i m) m n
    (λ e. record {
      place = h.place;
      there = ap (λ x. slice_get (list_at (slice_set lists n (list_at lists n ++ k ∷ [])) x) h.place) e
          ∙ ap (λ xs. slice_get xs h.place) (at_set lists n (list_at lists n ++ k ∷ []) l)
          ∙ get_more (list_at lists n) k i h.place (subst (λ x. slice_get (list_at lists x) h.place ≡ Some i) e
          h.there);
    })
    (λ d. record {
      place = h.place;
      there = ap (λ xs. slice_get xs h.place) (at_other lists n m (list_at lists n ++ k ∷ []) d) ∙ h.there;
    })

put_there : (lists : List (List ℕ)) (k n : ℕ) → n < length lists
    → IsListed (slice_set lists n (list_at lists n ++ k ∷ [])) k n
put_there lists k n l = record {
  place = length (list_at lists n);
  there = ap (λ xs. slice_get xs (length (list_at lists n))) (at_set lists n (list_at lists n ++ k ∷ []) l)
      ∙ get_last (list_at lists n) k;
}

put_list : (lists : List (List ℕ)) (k n : ℕ) (old new : List ℕ) → slice_get lists n ≡ Some old → new ≡ old ++ k ∷ []
    → new ≡ list_at lists n ++ k ∷ []
put_list lists k n old new e d = d ∙ ap (λ (o : Option (List ℕ)). unwrap_or o [] ++ k ∷ []) (sym e)

pub kept_there : (lists : List (List ℕ)) (k n : ℕ) (old new : List ℕ) → n < length lists → slice_get lists n ≡ Some old
    → new ≡ old ++ k ∷ [] → IsListed (slice_set lists n new) k n
kept_there lists k n old new l e d =
    subst (λ xs. IsListed (slice_set lists n xs) k n) (sym (put_list lists k n old new e d)) (put_there lists k n l)

pub kept_more : (lists : List (List ℕ)) (k n : ℕ) (old new : List ℕ) → n < length lists → slice_get lists n ≡ Some old
    → new ≡ old ++ k ∷ [] → ListsMore lists (slice_set lists n new)
kept_more lists k n old new l e d =
    subst (λ xs. ListsMore lists (slice_set lists n xs)) (sym (put_list lists k n old new e d)) (put_more lists k n l)

-- the list of task n is taken out
pub taken : (lists : List (List ℕ)) (n : ℕ) (list : List ℕ) → slice_get lists n ≡ Some list
    → AreTaken n lists (slice_set lists n []) list
taken lists n list e = record {
  whole = ap (λ o. unwrap_or o []) (sym e);
  others = λ k m d h. record {
    place = h.place;
    there = ap (λ xs. slice_get xs h.place) (at_other lists n m [] d) ∙ h.there;
  };
}

pub taken_past : (lists : List (List ℕ)) (n : ℕ) → length lists ≤ n → AreTaken n lists lists []
taken_past lists n l = record { whole = sym (past lists n l); others = λ k m d h. h }
  where
    past : (xs : List (List ℕ)) (i : ℕ) → length xs ≤ i → list_at xs i ≡ []
    past [] i l = refl
    past (x ∷ xs) zero l = let no : ⊥ = omega (arith, l) in elim no [ ]
    past (x ∷ xs) (suc i) l = past xs i (omega (arith, l))

-- A task holds no thread more

-- thread k was held by it, and is let go
pub less_set : (held : List ℕ) (k : ℕ) → KeepsLess held (slice_set held k 0)
less_set held k i n h =
    same_or_not (HasHolder held i n) i k
    (λ e. elim (zeroed held i n (subst (λ j. slice_get (slice_set held j 0) i ≡ Some n) (sym e) h.0) h.1) [ ])
    (λ d. (sym (set_other held k i 0 d) ∙ h.0, h.1))
  where
    zeroed : (xs : List ℕ) (i n : ℕ) → slice_get (slice_set xs i 0) i ≡ Some n → 1 ≤ n → ⊥
    zeroed [] i n e o = none_some n e
    zeroed (x ∷ xs) zero n e o =
        let z : ◌≡◌ {A = Option ℕ} (Some 0) (Some n) = e in let d : 0 ≡ n = cc in omega (arith, d, o)
    zeroed (x ∷ xs) (suc i) n e o = zeroed xs i n e o

pub none_set : (held : List ℕ) (k task : ℕ) → k < length held → HasHolder (slice_set held k 0) k task → ⊥
none_set held k task l h =
    let z : task ≡ 0 = same_item (slice_get (slice_set held k 0) k) task 0 h.0 (set_there held k 0 l) in
    let o = h.1 in
    omega (arith, z, o)

pub none_other : (held : List ℕ) (k n task : ℕ) → Some n ≡ slice_get held k → (n ≡ task → ⊥) → HasHolder held k task → ⊥
none_other held k n task e d h = d (same_item (slice_get held k) n task (sym e) h.0)

pub none_past : (held : List ℕ) (k task : ℕ) → None ≡ slice_get held k → HasHolder held k task → ⊥
none_past held k task e h = none_some task (e ∙ h.0)

-- of threads up to one more it holds none

pub none_start : (task : ℕ) (ts held : List ℕ) → HoldsNone task (take 0 ts) held
none_start task [] held i k e h = none_some k e
none_start task (t ∷ ts) held i k e h = none_some k e

pub none_more : (task : ℕ) (ts : List ℕ) (i : ℕ) (old new : List ℕ) → i < length ts → HoldsNone task (take i ts) old
    → KeepsLess old new → (HasHolder new (slice_index_or ts i 0) task → ⊥) → HoldsNone task (take (i + 1) ts) new
none_more task ts i old new l before less here j k e h =
    let one : i + 1 ≡ suc i = omega arith in
    elim (cut ts i j k l (subst (λ x. slice_get (take x ts) j ≡ Some k) one e)) [
      | inl there ↦ before j k there (less k task h)
      | inr is ↦ here (subst (λ x. HasHolder new x task) is h)
    ]
  where
    cut : (xs : List ℕ) (i j x : ℕ) → i < length xs → slice_get (take (suc i) xs) j ≡ Some x
        → (slice_get (take i xs) j ≡ Some x) ⊎ (x ≡ slice_index_or xs i 0)
    cut [] i j x l e = let no : ⊥ = omega (arith, l) in elim no [ ]
    cut (y ∷ ys) zero zero x l e = inr (let is : x ≡ y = cc in is)
    cut (y ∷ ys) zero (suc j) x l e = elim (none_some x (nothing j ∙ e)) [ ]
      where
        nothing : (i : ℕ) → None ≡ slice_get {X = ℕ} [] i
        nothing zero = refl
        nothing (suc i) = refl
    cut (y ∷ ys) (suc i) zero x l e = inl e
    cut (y ∷ ys) (suc i) (suc j) x l e = cut ys i j x (omega (arith, l)) e

pub freed : (task : ℕ) (old new : List ℕ) (lists rest : List (List ℕ)) (list : List ℕ) → task < NEVER
    → AreListed old lists → AreTaken task lists rest list → KeepsLess old new → HoldsNone task list new
    → IsFreed task old new × AreListed new rest
freed task old new lists rest list l are out less none = (record { less = less; none = gone }, still)
  where
    gone : (k : ℕ) → HasHolder new k task → ⊥
    gone k h =
        let in_list = are k task (less k task h) l in
        none in_list.place k (subst (λ xs. slice_get xs in_list.place ≡ Some k) (sym out.whole) in_list.there) h

    still : AreListed new rest
    still k n h never =
        same_or_not (IsListed rest k n) n task
        (λ e. elim (gone k (subst (HasHolder new k) e h)) [ ])
        (λ d. out.others k n d (are k n (less k n h) never))

-- Threads that are passed over

above_zero : (n : ℕ) → nat_le n 0 ≡ false → 1 ≤ n
above_zero zero e = absurd (let t : true ≡ false = e in cc)
above_zero (suc n) e = omega arith

abbrev Finds : ℕ → List ℕ → Option ℕ → Type 0
Finds at held None = (k : ℕ) → at ≤ k → k < length held → (n : ℕ) × HasHolder held k n
Finds at held (Some end) = ArePassed at end held

behind : (at m : ℕ) (held : List ℕ) (o : Option ℕ) → Finds at held o → Finds (suc at) (m ∷ held) (option_map suc o)
behind at m held None h = go
  where
    go : (k : ℕ) → suc at ≤ k → k < suc (length held) → (n : ℕ) × HasHolder (m ∷ held) k n
    go zero l t = absurd (omega (arith, l))
    go (suc k) l t = h k (omega (arith, l)) (omega (arith, t))
behind at m held (Some end) h = record { further = let x = h.further in omega (arith, x); each = go }
  where
    go : (k : ℕ) → suc at ≤ k → k < suc end → (n : ℕ) × HasHolder (m ∷ held) k n
    go zero l t = absurd (omega (arith, l))
    go (suc k) l t = h.each k (omega (arith, l)) (omega (arith, t))

from_first : (m : ℕ) (held : List ℕ) (o : Option ℕ) → 1 ≤ m → Finds 0 held o → Finds 0 (m ∷ held) (option_map suc o)
from_first m held None l h = go
  where
    go : (k : ℕ) → 0 ≤ k → k < suc (length held) → (n : ℕ) × HasHolder (m ∷ held) k n
    go zero x t = (m, (refl, l))
    go (suc k) x t = h k (omega arith) (omega (arith, t))
from_first m held (Some end) l h = record { further = omega arith; each = go }
  where
    go : (k : ℕ) → 0 ≤ k → k < suc end → (n : ℕ) × HasHolder (m ∷ held) k n
    go zero x t = (m, (refl, l))
    go (suc k) x t = h.each k (omega arith) (omega (arith, t))

none_finds : (at : ℕ) → Finds at [] None
none_finds at = λ k l t. absurd (omega (arith, t))

place_finds : (held : List ℕ) → Finds 0 held (place 0 held)
place_finds [] = none_finds 0
place_finds (m ∷ held) = go (nat_le m 0) refl (place_finds held)
  where
    go : (b : Bool) → nat_le m 0 ≡ b → Finds 0 held (place 0 held)
        → Finds 0 (m ∷ held) (if b then Some 0 else option_map suc (place 0 held))
    go true e h = record { further = omega arith; each = λ k l t. absurd (omega (arith, t)) }
    go false e h = from_first m held (place 0 held) (above_zero m e) h

finds : (at : ℕ) (held : List ℕ) → Finds at held (place_from at 0 held)
finds zero held = place_finds held
finds (suc at) [] = none_finds (suc at)
finds (suc at) (m ∷ held) = behind at m held (place_from at 0 held) (finds at held)

pub passed : (at end : ℕ) (held : List ℕ) → Some end ≡ place_from at 0 held → ArePassed at end held
passed at end held e = subst (Finds at held) (sym e) (finds at held)

pub passed_all : (at : ℕ) (held : List ℕ) → None ≡ place_from at 0 held → at < length held
    → ArePassed at (length held) held
passed_all at held e l = record {
  further = omega (arith, l);
  each = subst (Finds at held) (sym e) (finds at held);
}

pub passed_none : (at : ℕ) (held : List ℕ) → ArePassed at at held
passed_none at held = record { further = omega arith; each = λ k l t. absurd (omega (arith, l, t)) }
