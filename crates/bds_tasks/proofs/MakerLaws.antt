-- What an index of makers has behind one more task, and that the tasks found by it are those that a search finds.
use Rattle.std.proofs.Common.{◌≡◌, ℕ, zero, ◌+◌, ◌-◌, ◌<◌, ◌≤◌, Bool, true, false, ◌&&◌, ◌||◌, List, [], ◌∷◌, ◌++◌}
use Rattle.std.proofs.Common.{length, take, get_or, cond, filter, Option, Some, None, IfSome, Vec, refl, sym, ap}
use Rattle.std.proofs.Common.{◌∙◌, subst, arith, nat_eq, is_some, suc, if◌then◌else◌}
use Rattle.std.proofs.lemmas.Bool.{and_from, and_parts, eqb-true, false≢true, or_left, or_right}
use Rattle.std.proofs.lemmas.List.{length-take-le}
use Rattle.std.proofs.lemmas.Slice.Eq.{bytes_eq-Decides}
use Rattle.std.proofs.Math.Seq.{take-suc}
use Rattle.std.specs.Prelude.{IsSorted}
use Rattle.std.specs.Global.{Global}
use Rattle.std.specs.List.{list_any, slice_get}
use Rattle.std.specs.List.Sorted.{IsPermutation}
use Rattle.std.specs.Map.{lookup, set_value}
use Rattle.std.specs.Option.{option_map, option_or, unwrap_or}
use Rattle.std.specs.Ordering.{nat_cmp}
use Rattle.std.specs.Str.{bytes_eq}
use Rattle.indexmap.specs.IndexMap.{IndexMap}
use Rattle.bds_tasks.specs.declared.task.Task.{Task}
use Rattle.bds_tasks.specs.declared.task.TaskNew.{TaskNew}
use Rattle.bds_tasks.specs.Files.{is_among, meet}
use Rattle.bds_tasks.specs.Makers.{AreMakers, AreMakersOf, HasMore, HasOne, HaveOne, is_in, makes, pending_makers}
use Rattle.bds_tasks.specs.Makers.{first_ended, tasks_at, tasks_in, unrepeated, with_next, with_one}
use Rattle.bds_tasks.specs.Tasks.{is_needed, is_pending, numbers_from, numbers_of, one_where, passes, pending_makes}
use Rattle.bds_tasks.proofs.NumberLaws.{and_false, any_number, any_same, both_tests, either_test, is_in-append}
use Rattle.bds_tasks.proofs.NumberLaws.{is_in-filter, moved_has, no_number, numbers_push, one_rising, or_assoc}
use Rattle.bds_tasks.proofs.NumberLaws.{or_false, same_bool, same_test, sorted_has, unrepeated_rises}
use Rattle.bds_tasks.proofs.SoundLaws.{rises_from}

same_bytes : (a b : List ℕ) → bytes_eq a b ≡ true → a ≡ b
same_bytes a b e = (bytes_eq-Decides a b).0 e

itself : (a : List ℕ) → bytes_eq a a ≡ true
itself a = (bytes_eq-Decides a a).1 refl

swapped : (a b : List ℕ) → bytes_eq a b ≡ bytes_eq b a
swapped a b = same_bool (bytes_eq a b) (bytes_eq b a) (λ e. (bytes_eq-Decides b a).1 (sym (same_bytes a b e)))
    (λ e. (bytes_eq-Decides a b).1 (sym (same_bytes b a e)))

abbrev Entries : Type 0
Entries = List (Vec ℕ Global × List ℕ)

-- a file that has tasks takes one more

set_here : (x file : List ℕ) (es : Entries) (w : List ℕ) → is_some (tasks_at file es) ≡ true
    → tasks_in (set_value (λ k. bytes_eq file k.items) es w) x ≡ (if bytes_eq file x then w else tasks_in es x)
set_here x file [] w there = elim (false≢true there) [ ]
set_here x file (e ∷ es) w there = go (bytes_eq file e.0.items) refl (bytes_eq x e.0.items) refl (bytes_eq file x) refl
    (λ h. set_here x file es w h) there
  where
    go : (a : Bool) → bytes_eq file e.0.items ≡ a → (b : Bool) → bytes_eq x e.0.items ≡ b → (d : Bool)
        → bytes_eq file x ≡ d
        → (is_some (tasks_at file es) ≡ true
        → tasks_in (set_value (λ k. bytes_eq file k.items) es w) x ≡ (if bytes_eq file x then w else tasks_in es x))
        → is_some (cond a (Some e.1) (tasks_at file es)) ≡ true
        → unwrap_or (lookup (λ k. bytes_eq x k.items) (cond a ((e.0, w) ∷ es)
        (e ∷ set_value (λ k. bytes_eq file k.items) es w))) [] ≡
        (if d then w else unwrap_or (cond b (Some e.1) (tasks_at x es)) [])
    go true p true q true r h t = ap (λ c. unwrap_or (cond c (Some w) (tasks_at x es)) []) q
    go true p false q true r h t =
        elim (false≢true (sym q ∙ subst (λ (y : List ℕ). bytes_eq y e.0.items ≡ true) (same_bytes file x r) p)) [ ]
    go true p true q false r h t = elim (false≢true (sym r
        ∙ subst (λ (y : List ℕ). bytes_eq file y ≡ true) (sym (same_bytes x e.0.items q)) p)) [ ]
    go true p false q false r h t = ap (λ c. unwrap_or (cond c (Some w) (tasks_at x es)) []) q
    go false p true q true r h t = elim (false≢true (sym p
        ∙ subst (λ (y : List ℕ). bytes_eq y e.0.items ≡ true) (sym (same_bytes file x r)) q)) [ ]
    go false p true q false r h t =
        ap (λ c. unwrap_or (cond c (Some e.1) (tasks_at x (set_value (λ k. bytes_eq file k.items) es w))) []) q
    go false p false q d r h t =
        ap (λ c. unwrap_or (cond c (Some e.1) (tasks_at x (set_value (λ k. bytes_eq file k.items) es w))) []) q
        ∙ h t
        ∙ ap (λ c. if c then w else tasks_in es x) r

one_more : (ns : List ℕ) (n m : ℕ) → is_in (ns ++ n ∷ []) m ≡ is_in ns m || nat_eq m n
one_more ns n m = is_in-append ns (n ∷ []) m ∙ ap (λ b. is_in ns m || b) (or_false (nat_eq m n))

in_one : (ts : List Task) (ns : List ℕ) (n m : ℕ)
    → is_in (with_one ts ns n) m ≡ (is_in ns m && passes is_pending ts m) || nat_eq m n
in_one ts ns n m = one_more (filter (passes is_pending ts) ns) n m
    ∙ ap (λ b. b || nat_eq m n) (is_in-filter (passes is_pending ts) ns m)

pub has_behind : (ts : List Task) (file : List ℕ) (n : ℕ) (old new : Entries) (ns : List ℕ)
    → tasks_at file old ≡ Some ns → new ≡ set_value (λ k. bytes_eq file k.items) old (with_next ts ns n)
    → HasOne ts file n old new
has_behind ts file n old new ns there is x =
    ap (λ es. tasks_in es x) is
    ∙ set_here x file old (with_next ts ns n) (ap is_some there)
    ∙ go (bytes_eq file x) refl
  where
    go : (b : Bool) → bytes_eq file x ≡ b
        → (if b then with_next ts ns n else tasks_in old x) ≡
        (if b then with_next ts (tasks_in old x) n else tasks_in old x)
    go true e =
        let was : tasks_in old x ≡ ns =
        ap (tasks_in old) (sym (same_bytes file x e)) ∙ ap (λ (o : Option (List ℕ)). unwrap_or o []) there in
        ap (λ ks. with_next ts ks n) (sym was)
    go false e = refl

-- a file that isn't there is put in

at_end : (x : List ℕ) (es : Entries) (k : Vec ℕ Global) (v : List ℕ)
    → tasks_at x (es ++ (k, v) ∷ []) ≡ option_or (tasks_at x es) (if bytes_eq x k.items then Some v else None)
at_end x [] k v = only (bytes_eq x k.items)
  where
    only : (b : Bool) → cond b (Some v) None ≡ (if b then Some v else None)
    only true = refl
    only false = refl
at_end x (e ∷ es) k v = here (bytes_eq x e.0.items) (at_end x es k v)
  where
    here : (b : Bool)
        → tasks_at x (es ++ (k, v) ∷ []) ≡ option_or (tasks_at x es) (if bytes_eq x k.items then Some v else None)
        → cond b (Some e.1) (tasks_at x (es
        ++ (k, v) ∷ [])) ≡ option_or (cond b (Some e.1) (tasks_at x es)) (if bytes_eq x k.items then Some v else None)
    here true h = refl
    here false h = h

pub has_new : (ts : List Task) (file : List ℕ) (n : ℕ) (old new : Entries) (k : Vec ℕ Global) → tasks_at file old ≡ None
    → k.items ≡ file → new ≡ old ++ (k, n ∷ []) ∷ [] → HasOne ts file n old new
has_new ts file n old new k none key is x =
    ap (λ es. tasks_in es x) is
    ∙ ap (λ (o : Option (List ℕ)). unwrap_or o []) (at_end x old k (n ∷ []))
    ∙ ap (λ b. unwrap_or (option_or (tasks_at x old) (if b then Some (n ∷ []) else None)) []) (ap (bytes_eq x) key
    ∙ swapped x file)
    ∙ go (bytes_eq file x) refl
  where
    go : (b : Bool) → bytes_eq file x ≡ b
        → unwrap_or (option_or (tasks_at x old) (if b then Some (n ∷ []) else None)) [] ≡
        (if b then with_next ts (tasks_in old x) n else tasks_in old x)
    go true e =
        let was : tasks_at x old ≡ None = ap (λ y. tasks_at y old) (sym (same_bytes file x e)) ∙ none in
        ap (λ (o : Option (List ℕ)). unwrap_or (option_or o (Some (n ∷ []))) []) was
        ∙ sym (ap (λ (o : Option (List ℕ)). with_next ts (unwrap_or o []) n) was)
    go false e = same (tasks_at x old)
      where
        same : (o : Option (List ℕ)) → unwrap_or (option_or o None) [] ≡ unwrap_or o []
        same None = refl
        same (Some ns) = refl

-- over a list of files, from one to the next

among_push : (files : List (List ℕ)) (f x : List ℕ) → is_among (files ++ f ∷ []) x ≡ is_among files x || bytes_eq f x
among_push [] f x = or_false (bytes_eq f x)
among_push (g ∷ files) f x =
    ap (λ b. bytes_eq g x || b) (among_push files f x) ∙ or_assoc (bytes_eq g x) (is_among files x) (bytes_eq f x)

either_of : (P : Type 0) (a b : Bool) → a || b ≡ true → (a ≡ true → P) → (b ≡ true → P) → P
either_of P true b e f g = f refl
either_of P false b e f g = g e

-- no file yet
pub none_yet : (ts : List Task) (n : ℕ) (es : Entries) → HaveOne ts [] n es es
none_yet ts n es = record {
  fewer = λ x m e. or_left (is_in (tasks_in es x) m) (nat_eq m n && false) e;
  more = λ x m p e. either_of (is_in (tasks_in es x) m ≡ true) (is_in (tasks_in es x) m) (nat_eq m n && false) e
      (λ f. f) (λ f. elim (false≢true (sym (and_false (nat_eq m n)) ∙ f)) [ ]);
}

-- what a file has behind one task more is of what it had and that task, and has of these what is pending
none_more : (ts : List Task) (ns : List ℕ) (n m : ℕ) → is_in (with_next ts ns n) m ≡ true
    → is_in ns m || nat_eq m n ≡ true
none_more ts ns n m = go (first_ended ts ns)
  where
    go : (b : Bool) → is_in (if b then with_one ts ns n else ns ++ n ∷ []) m ≡ true → is_in ns m || nat_eq m n ≡ true
    go true e = either_of (is_in ns m || nat_eq m n ≡ true) (is_in ns m && passes is_pending ts m) (nat_eq m n)
        (sym (in_one ts ns n m) ∙ e)
        (λ i. or_left (is_in ns m) (nat_eq m n) (and_parts (is_in ns m) (passes is_pending ts m) i).0)
        (λ i. or_right (is_in ns m) (nat_eq m n) i)
    go false e = sym (one_more ns n m) ∙ e

all_pending : (ts : List Task) (ns : List ℕ) (n m : ℕ) → passes is_pending ts m ≡ true → is_in ns m || nat_eq m n ≡ true
    → is_in (with_next ts ns n) m ≡ true
all_pending ts ns n m p e = go (first_ended ts ns)
  where
    go : (b : Bool) → is_in (if b then with_one ts ns n else ns ++ n ∷ []) m ≡ true
    go true = in_one ts ns n m ∙ either_of ((is_in ns m && passes is_pending ts m) || nat_eq m n ≡ true) (is_in ns m)
        (nat_eq m n) e
        (λ i. or_left (is_in ns m && passes is_pending ts m) (nat_eq m n)
        (and_from (is_in ns m) (passes is_pending ts m) i p))
        (λ i. or_right (is_in ns m && passes is_pending ts m) (nat_eq m n) i)
    go false = one_more ns n m ∙ e

-- one file more
pub one_file : (ts : List Task) (done : List (List ℕ)) (f : List ℕ) (n : ℕ) (old cur new : Entries)
    → HaveOne ts done n old cur → HasOne ts f n cur new → HaveOne ts (done ++ f ∷ []) n old new
one_file ts done f n old cur new h one = record {
  fewer = λ x m e. ap (λ b. is_in (tasks_in old x) m || (nat_eq m n && b)) (among_push done f x)
      ∙ less x m (bytes_eq f x) (ap (λ ns. is_in ns m) (sym (one x)) ∙ e);
  more = λ x m p e. ap (λ ns. is_in ns m) (one x)
      ∙ still x m p (bytes_eq f x) (sym (ap (λ b. is_in (tasks_in old x) m || (nat_eq m n && b)) (among_push done f x))
      ∙ e);
}
  where
    widen : (o e a b : Bool) → o || (e && a) ≡ true → o || (e && (a || b)) ≡ true
    widen true e a b h = refl
    widen false true true b h = refl
    widen false true false b h = elim (false≢true h) [ ]
    widen false false a b h = h

    last : (o e a : Bool) → e ≡ true → o || (e && (a || true)) ≡ true
    last true e a h = refl
    last false true true h = refl
    last false true false h = refl
    last false false a h = h

    less : (x : List ℕ) (m : ℕ) (b : Bool)
        → is_in (if b then with_next ts (tasks_in cur x) n else tasks_in cur x) m ≡ true
        → is_in (tasks_in old x) m || (nat_eq m n && (is_among done x || b)) ≡ true
    less x m true e = either_of (is_in (tasks_in old x) m || (nat_eq m n && (is_among done x || true)) ≡ true)
        (is_in (tasks_in cur x) m) (nat_eq m n) (none_more ts (tasks_in cur x) n m e)
        (λ i. widen (is_in (tasks_in old x) m) (nat_eq m n) (is_among done x) true (h.fewer x m i))
        (λ i. last (is_in (tasks_in old x) m) (nat_eq m n) (is_among done x) i)
    less x m false e = widen (is_in (tasks_in old x) m) (nat_eq m n) (is_among done x) false (h.fewer x m e)

    narrow : (o e a : Bool) → e ≡ false → o || (e && (a || true)) ≡ true → o || (e && a) ≡ true
    narrow true e a f h = refl
    narrow false true a f h = elim (false≢true (sym f)) [ ]
    narrow false false a f h = h

    still : (x : List ℕ) (m : ℕ) → passes is_pending ts m ≡ true → (b : Bool)
        → is_in (tasks_in old x) m || (nat_eq m n && (is_among done x || b)) ≡ true
        → is_in (if b then with_next ts (tasks_in cur x) n else tasks_in cur x) m ≡ true
    still x m p true e = all_pending ts (tasks_in cur x) n m p (by (nat_eq m n) refl)
      where
        by : (c : Bool) → nat_eq m n ≡ c → is_in (tasks_in cur x) m || c ≡ true
        by true f = or_right (is_in (tasks_in cur x) m) true refl
        by false f = or_left (is_in (tasks_in cur x) m) false
            (h.more x m p (narrow (is_in (tasks_in old x) m) (nat_eq m n) (is_among done x) f e))
    still x m p false e =
        h.more x m p (ap (λ b. is_in (tasks_in old x) m || (nat_eq m n && b)) (sym (or_false (is_among done x))) ∙ e)

pub files_on : (ts : List Task) (files : List (List ℕ)) (i n : ℕ) (f g : List ℕ) (old cur new : Entries)
    → i < length files → f ≡ get_or files i f → g ≡ f → HaveOne ts (take i files) n old cur → HasOne ts g n cur new
    → HaveOne ts (take (i + 1) files) n old new
files_on ts files i n f g old cur new l is same h one =
    let next : i + 1 ≡ suc i = omega arith in
    let here : take (i + 1) files ≡ take i files ++ f ∷ [] =
    ap (λ k. take k files) next ∙ take-suc files i f l ∙ ap (λ (y : List ℕ). take i files ++ y ∷ []) (sym is) in
    subst (λ (fs : List (List ℕ)). HaveOne ts fs n old new) (sym here)
    (one_file ts (take i files) f n old cur new h (subst (λ (y : List ℕ). HasOne ts y n cur new) same one))

-- the index of tasks and one more

pub more_makers : (all before : List Task) (t : Task) (n : ℕ) (old new : Entries) → n ≡ length before + 1
    → AreMakersOf all before old → HaveOne all t.made.outs n old new → AreMakersOf all (before ++ t ∷ []) new
more_makers all before t n old new e h more = record {
  make = λ x m i. push x m
      ∙ either_of (is_in (numbers_of (makes x) before) m || (nat_eq m n && makes x t) ≡ true) (is_in (tasks_in old x) m)
      (nat_eq m n && makes x t) (more.fewer x m i)
      (λ j. or_left (is_in (numbers_of (makes x) before) m) (nat_eq m n && makes x t) (h.make x m j))
      (λ j. or_right (is_in (numbers_of (makes x) before) m) (nat_eq m n && makes x t) j);
  there = λ x m p i. more.more x m p (either_of (is_in (tasks_in old x) m || (nat_eq m n && makes x t) ≡ true)
      (is_in (numbers_of (makes x) before) m) (nat_eq m n && makes x t) (sym (push x m) ∙ i)
      (λ j. or_left (is_in (tasks_in old x) m) (nat_eq m n && makes x t) (h.there x m p j))
      (λ j. or_right (is_in (tasks_in old x) m) (nat_eq m n && makes x t) j));
}
  where
    push : (x : List ℕ) (m : ℕ)
        → is_in (numbers_of (makes x) (before
        ++ t ∷ [])) m ≡ is_in (numbers_of (makes x) before) m || (nat_eq m n && makes x t)
    push x m = numbers_push 1 (makes x) before t n m (omega (arith, e))

-- what is pending among tasks and one more was so among them, where it is one of them
number_within : (k : ℕ) (test : Task → Bool) (ts : List Task) (m : ℕ) → is_in (numbers_from k test ts) m ≡ true
    → (k ≤ m) × (m < k + length ts)
number_within k test [] m e = elim (false≢true e) [ ]
number_within k test (t ∷ ts) m e = go (test t) (number_within (k + 1) test ts m) e
  where
    later : (k + 1 ≤ m) × (m < (k + 1) + length ts) → (k ≤ m) × (m < k + length (t ∷ ts))
    later h = let a = h.0 in let b = h.1 in (omega (arith, a), omega (arith, b))

    go : (b : Bool) → (is_in (numbers_from (k + 1) test ts) m ≡ true → (k + 1 ≤ m) × (m < (k + 1) + length ts))
        → is_in (one_where b k ++ numbers_from (k + 1) test ts) m ≡ true → (k ≤ m) × (m < k + length (t ∷ ts))
    go true more e = either_of ((k ≤ m)
        × (m < k + length (t ∷ ts))) (nat_eq m k) (is_in (numbers_from (k + 1) test ts) m) e (λ f. let is : m ≡ k =
        eqb-true m k f in (omega (arith, is), omega (arith, is))) (λ f. later (more f))
    go false more e = later (more e)

get_before : (xs : List Task) (x : Task) (j : ℕ) → j < length xs → slice_get (xs ++ x ∷ []) j ≡ slice_get xs j
get_before [] x j l = let no : ⊥ = omega (arith, l) in elim no [ ]
get_before (y ∷ xs) x zero l = refl
get_before (y ∷ xs) x (suc j) l = get_before xs x j (omega (arith, l))

grown : (before : List Task) (t : Task) (es : Entries) → AreMakers before es → AreMakersOf (before ++ t ∷ []) before es
grown before t es h = record {
  make = h.make;
  there = λ x m p i.
      let l = number_within 1 (makes x) before m i in
      let low = l.0 in
      let high = l.1 in
      let within : m - 1 < length before = omega (arith, low, high) in
      h.there x m (ap (λ (o : Option Task). unwrap_or (option_map is_pending o) false)
      (sym (get_before before t (m - 1) within)) ∙ p) i;
}

get_last : (before : List Task) (t d : Task) → get_or (before ++ t ∷ []) (length before) d ≡ t
get_last [] t d = refl
get_last (b ∷ before) t d = get_last before t d

pub more_known : {S : Type 0} (before ts : List Task) (t at : Task) (files : List (List ℕ))
    (old new : Option (IndexMap (Vec ℕ Global) (List ℕ) S)) → ts ≡ before ++ t ∷ [] → at ≡ get_or ts (length before) at
    → files ≡ at.made.outs
    → IfSome old (λ m. AreMakers before m.entries) → HasMore ts files (length before + 1) old new
    → IfSome new (λ m. AreMakers ts m.entries)
more_known before ts t at files old None all is same known more = tt
more_known before ts t at files None (Some new) all is same known more = absurd more
more_known before ts t at files (Some old) (Some new) all is same known more =
    let last : at ≡ t = is ∙ ap (λ xs. get_or xs (length before) at) all ∙ get_last before t at in
    let outs : files ≡ t.made.outs = same ∙ ap (λ (x : Task). x.made.outs) last in
    let one = subst (λ (xs : List Task). HaveOne xs t.made.outs (length before + 1) old.entries new.entries) all
    (subst (λ (fs : List (List ℕ)). HaveOne ts fs (length before + 1) old.entries new.entries) outs more) in
    subst (λ xs. AreMakers xs new.entries) (sym all) (more_makers (before
    ++ t ∷ []) before t (length before + 1) old.entries new.entries refl (grown before t old.entries known) one)

pub makers_on : (ts : List Task) (i n : ℕ) (t : Task) (files : List (List ℕ)) (old new : Entries) → i < length ts
    → t ≡ get_or ts i t → n ≡ i + 1 → files ≡ t.made.outs → HaveOne ts files n old new → AreMakersOf ts (take i ts) old
    → AreMakersOf ts (take (i + 1) ts) new
makers_on ts i n t files old new l is number same more h =
    let next : i + 1 ≡ suc i = omega arith in
    let here : take (i + 1) ts ≡ take i ts ++ t ∷ [] =
    ap (λ k. take k ts) next ∙ take-suc ts i t l ∙ ap (λ y. take i ts ++ y ∷ []) (sym is) in
    let within : i ≤ length ts = omega (arith, l) in
    let long : length (take i ts) ≡ i = length-take-le i ts within in
    subst (λ xs. AreMakersOf ts xs new) (sym here) (more_makers ts (take i ts) t n old new (omega (arith, long, number))
    h (subst (λ (fs : List (List ℕ)). HaveOne ts fs n old new) same more))

-- what is found

-- of those that are pending a file has just those that make it
joined : (ts : List Task) (es : Entries) → AreMakers ts es → (file : List ℕ) (n : ℕ)
    → is_in (tasks_in es file) n && passes is_pending ts n ≡ is_in (numbers_of (makes file) ts) n && passes is_pending
    ts n
joined ts es h file n = go (passes is_pending ts n) refl
  where
    go : (b : Bool) → passes is_pending ts n ≡ b
        → is_in (tasks_in es file) n && b ≡ is_in (numbers_of (makes file) ts) n && b
    go true p = ap (λ b. b && true) (same_bool (is_in (tasks_in es file) n) (is_in (numbers_of (makes file) ts) n)
        (h.make file n) (h.there file n p))
    go false p = and_false (is_in (tasks_in es file) n) ∙ sym (and_false (is_in (numbers_of (makes file) ts) n))

any_filter : (p : ℕ → Bool) (ns : List ℕ) → list_any p ns ≡ list_any p (filter p ns)
any_filter p [] = refl
any_filter p (n ∷ ns) = go (p n) refl (any_filter p ns)
  where
    go : (b : Bool) → p n ≡ b → list_any p ns ≡ list_any p (filter p ns)
        → b || list_any p ns ≡ list_any p (if b then n ∷ filter p ns else filter p ns)
    go true e h = sym (or_left (p n) (list_any p (filter p ns)) e)
    go false e h = h

pub pending_found : (ts : List Task) (es : Entries) (file : List ℕ) → AreMakers ts es
    → list_any (passes is_pending ts) (tasks_in es file) ≡ pending_makes ts file
pending_found ts es file h =
    any_filter (passes is_pending ts) (tasks_in es file)
    ∙ any_same (passes is_pending ts) (filter (passes is_pending ts) (tasks_in es file))
    (filter (passes is_pending ts) (numbers_of (makes file) ts))
    (λ n. is_in-filter (passes is_pending ts) (tasks_in es file) n ∙ joined ts es h file n
    ∙ sym (is_in-filter (passes is_pending ts) (numbers_of (makes file) ts) n))
    ∙ sym (any_filter (passes is_pending ts) (numbers_of (makes file) ts))
    ∙ any_number [] ts 1 (makes file) is_pending (omega arith)

in_pending : (ts : List Task) (es : Entries) (files : List (List ℕ)) → AreMakers ts es → (n : ℕ)
    → is_in (pending_makers ts es files) n ≡ is_in (numbers_of (λ t. is_pending t && meet files t.made.outs) ts) n
in_pending ts es [] h n = ap (λ ns. is_in ns n) (sym (no_number 1 (λ t. is_pending t && meet [] t.made.outs) ts
    (λ t. and_false (is_pending t))))
in_pending ts es (f ∷ files) h n =
    is_in-append (filter (passes is_pending ts) (tasks_in es f)) (pending_makers ts es files) n
    ∙ ap (λ b. b || is_in (pending_makers ts es files) n)
    (is_in-filter (passes is_pending ts) (tasks_in es f) n ∙ joined ts es h f n
    ∙ both_tests [] ts 1 (makes f) is_pending n (omega arith))
    ∙ ap (λ b. is_in (numbers_of (λ t. makes f t && is_pending t) ts) n || b) (in_pending ts es files h n)
    ∙ either_test 1 (λ t. makes f t && is_pending t) (λ t. is_pending t && meet files t.made.outs) ts n
    ∙ ap (λ ns. is_in ns n)
    (same_test 1 (λ t. (makes f t && is_pending t) || (is_pending t && meet files t.made.outs))
    (λ t. is_pending t && meet (f ∷ files) t.made.outs) ts
    (λ t. turned (makes f t) (is_pending t) (meet files t.made.outs)))
  where
    turned : (m p r : Bool) → (m && p) || (p && r) ≡ p && (m || r)
    turned true true r = refl
    turned true false r = refl
    turned false true r = refl
    turned false false r = refl

any_either : {X : Type 0} (p q : X → Bool) (xs : List X)
    → list_any (λ x. p x || q x) xs ≡ list_any p xs || list_any q xs
any_either p q [] = refl
any_either p q (x ∷ xs) =
    ap (λ b. (p x || q x) || b) (any_either p q xs) ∙ turned (p x) (q x) (list_any p xs) (list_any q xs)
  where
    turned : (a b r s : Bool) → (a || b) || (r || s) ≡ (a || r) || (b || s)
    turned true b r s = refl
    turned false true true s = refl
    turned false true false s = refl
    turned false false r s = refl

any_by : {X : Type 0} (p q : X → Bool) (xs : List X) → ((x : X) → p x ≡ q x) → list_any p xs ≡ list_any q xs
any_by p q [] h = refl
any_by p q (x ∷ xs) h = ap (λ b. b || list_any p xs) (h x) ∙ ap (λ b. q x || b) (any_by p q xs h)

none_of : (files : List (List ℕ)) → list_any (λ (f : List ℕ). false) files ≡ false
none_of [] = refl
none_of (f ∷ files) = none_of files

meets : (files others : List (List ℕ)) → meet files others ≡ meet others files
meets files [] = none_of files
meets files (o ∷ others) =
    any_either (bytes_eq o) (λ f. is_among others f) files
    ∙ ap (λ b. b || meet files others) (any_by (bytes_eq o) (λ f. bytes_eq f o) files (λ f. swapped o f))
    ∙ ap (λ b. is_among files o || b) (meets files others)

pub needs_found : (ts : List Task) (es : Entries) (new : TaskNew) (sorted : List ℕ) → AreMakers ts es
    → IsPermutation (pending_makers ts es new.ins ++ pending_makers ts es new.outs) sorted → IsSorted nat_cmp sorted
    → unrepeated None sorted ≡ numbers_of (is_needed new) ts
needs_found ts es new sorted h moved order =
    one_rising None None (unrepeated None sorted) (numbers_of (is_needed new) ts) (unrepeated_rises None sorted)
    (rises_from 1 (is_needed new) ts None (λ k g. refl))
    (λ n. sorted_has sorted order n
    ∙ moved_has (pending_makers ts es new.ins ++ pending_makers ts es new.outs) sorted n moved ∙ set n)
  where
    turned : (p a b : Bool) → (p && a) || (p && b) ≡ p && (a || b)
    turned true a b = refl
    turned false a b = refl

    set : (n : ℕ)
        → is_in (pending_makers ts es new.ins
        ++ pending_makers ts es new.outs) n ≡ is_in (numbers_of (is_needed new) ts) n
    set n =
        is_in-append (pending_makers ts es new.ins) (pending_makers ts es new.outs) n
        ∙ ap (λ b. b || is_in (pending_makers ts es new.outs) n) (in_pending ts es new.ins h n)
        ∙ ap (λ b. is_in (numbers_of (λ t. is_pending t && meet new.ins t.made.outs) ts) n || b)
        (in_pending ts es new.outs h n)
        ∙ either_test 1 (λ t. is_pending t && meet new.ins t.made.outs) (λ t. is_pending t && meet new.outs t.made.outs)
        ts n
        ∙ ap (λ ns. is_in ns n) (same_test 1 (λ t. (is_pending t && meet new.ins t.made.outs) ||
        (is_pending t && meet new.outs t.made.outs)) (is_needed new) ts
        (λ t.
        turned (is_pending t) (meet new.ins t.made.outs) (meet new.outs t.made.outs)
        ∙ ap (λ b. is_pending t && (b || meet new.outs t.made.outs)) (meets new.ins t.made.outs)
        ∙ ap (λ b. is_pending t && (meet t.made.outs new.ins || b)) (meets new.outs t.made.outs)))
