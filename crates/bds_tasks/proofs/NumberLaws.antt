-- Numbers in lists: those that pass a test, and those that rise, of which there is one list for each set.
use Rattle.std.proofs.Common.{◌≡◌, ℕ, zero, suc, ◌+◌, ◌-◌, ◌<◌, ◌≤◌, Bool, true, false, ◌&&◌, ◌||◌, List, [], ◌∷◌, ◌++◌, length, drop, get_or, filter, Option, Some, None, refl, sym, ap, ◌∙◌, subst, arith, nat_eq, nat_lt, if◌then◌else◌, append_assoc}
use Rattle.std.proofs.lemmas.Bool.{eq-eqb, eqb-true, false≢true, ltb-true}
use Rattle.std.proofs.lemmas.List.{drop_more, length_push}
use Rattle.std.proofs.lemmas.List.Sorted.{Contains-permutation, IsNonDecreasingBy-from_sort, IsPermutation-sym}
use Rattle.std.specs.Prelude.{⊤, IsSorted}
use Rattle.std.specs.List.{Contains, list_any, slice_get}
use Rattle.std.specs.List.Sorted.{IsNonDecreasingBy, IsPermutation}
use Rattle.std.specs.Option.{option_map, unwrap_or}
use Rattle.std.specs.Ordering.{nat_cmp}
use Rattle.bds_value.specs.Fields.{RisesFrom}
use Rattle.bds_value.specs.Reading.{follows}
use Rattle.bds_tasks.specs.declared.task.Task.{Task}
use Rattle.bds_tasks.specs.Last.{last_number}
use Rattle.bds_tasks.specs.Makers.{is_in, unrepeated}
use Rattle.bds_tasks.specs.Tasks.{numbers_from, one_where, passes}
use Rattle.bds_tasks.proofs.LastLaws.{last_number-push}

pub same_bool : (a b : Bool) → (a ≡ true → b ≡ true) → (b ≡ true → a ≡ true) → a ≡ b
same_bool true b f g = sym (f refl)
same_bool false true f g = g refl
same_bool false false f g = refl

pub or_false : (b : Bool) → b || false ≡ b
or_false true = refl
or_false false = refl

pub and_false : (b : Bool) → b && false ≡ false
and_false true = refl
and_false false = refl

or_right : (a b : Bool) → b ≡ true → a || b ≡ true
or_right true b e = refl
or_right false b e = e

pub or_assoc : (a b c : Bool) → a || (b || c) ≡ (a || b) || c
or_assoc true b c = refl
or_assoc false b c = refl

pub is_in-append : (ns ms : List ℕ) (n : ℕ) → is_in (ns ++ ms) n ≡ is_in ns n || is_in ms n
is_in-append [] ms n = refl
is_in-append (k ∷ ns) ms n = ap (λ b. nat_eq n k || b) (is_in-append ns ms n) ∙ or_assoc (nat_eq n k) (is_in ns n) (is_in ms n)

pub is_in-filter : (test : ℕ → Bool) (ns : List ℕ) (n : ℕ) → is_in (filter test ns) n ≡ is_in ns n && test n
is_in-filter test [] n = refl
is_in-filter test (k ∷ ns) n = go (test k) refl (nat_eq n k) refl (is_in-filter test ns n)
  where
    here : (a : Bool) → nat_eq n k ≡ true → test k ≡ a → test n ≡ a
    here a e d = subst (λ (m : ℕ). test m ≡ a) (sym (eqb-true n k e)) d

    go : (a : Bool) → test k ≡ a → (b : Bool) → nat_eq n k ≡ b → is_in (filter test ns) n ≡ is_in ns n && test n → is_in (if a then k ∷ filter test ns else filter test ns) n ≡ (b || is_in ns n) && test n
    go true d true e h = ap (λ b. b || is_in (filter test ns) n) e ∙ sym (here true e d)
    go true d false e h = ap (λ b. b || is_in (filter test ns) n) e ∙ h
    go false d true e h = h ∙ ap (λ b. is_in ns n && b) (here false e d) ∙ and_false (is_in ns n) ∙ sym (here false e d)
    go false d false e h = h

-- the numbers of tasks that pass a test

is_in-one : (b : Bool) (k n : ℕ) → is_in (one_where b k) n ≡ nat_eq n k && b
is_in-one true k n = go (nat_eq n k)
  where
    go : (a : Bool) → a || false ≡ a && true
    go true = refl
    go false = refl
is_in-one false k n = sym (and_false (nat_eq n k))

numbers_cons : (k : ℕ) (test : Task → Bool) (t : Task) (ts : List Task) (n : ℕ) → is_in (numbers_from k test (t ∷ ts)) n ≡ (nat_eq n k && test t) || is_in (numbers_from (k + 1) test ts) n
numbers_cons k test t ts n = is_in-append (one_where (test t) k) (numbers_from (k + 1) test ts) n ∙ ap (λ b. b || is_in (numbers_from (k + 1) test ts) n) (is_in-one (test t) k n)

pub either_test : (k : ℕ) (f g : Task → Bool) (ts : List Task) (n : ℕ) → is_in (numbers_from k f ts) n || is_in (numbers_from k g ts) n ≡ is_in (numbers_from k (λ t. f t || g t) ts) n
either_test k f g [] n = refl
either_test k f g (t ∷ ts) n =
    ap (λ b. b || is_in (numbers_from k g (t ∷ ts)) n) (numbers_cons k f t ts n)
    ∙ ap (λ b. ((nat_eq n k && f t) || is_in (numbers_from (k + 1) f ts) n) || b) (numbers_cons k g t ts n)
    ∙ moved (nat_eq n k) (f t) (g t) (is_in (numbers_from (k + 1) f ts) n) (is_in (numbers_from (k + 1) g ts) n)
    ∙ ap (λ b. (nat_eq n k && (f t || g t)) || b) (either_test (k + 1) f g ts n)
    ∙ sym (numbers_cons k (λ t. f t || g t) t ts n)
  where
    moved : (e a b r s : Bool) → ((e && a) || r) || ((e && b) || s) ≡ (e && (a || b)) || (r || s)
    moved false a b r s = refl
    moved true true b r s = refl
    moved true false true true s = refl
    moved true false true false s = refl
    moved true false false r s = refl

at_seam : (before : List Task) (t : Task) (ts : List Task) → slice_get (before ++ t ∷ ts) (length before) ≡ Some t
at_seam [] t ts = refl
at_seam (x ∷ before) t ts = at_seam before t ts

pub passes_seam : (test : Task → Bool) (before : List Task) (t : Task) (ts : List Task) (n : ℕ) → n ≡ length before + 1 → passes test (before ++ t ∷ ts) n ≡ test t
passes_seam test before t ts n e =
    let place : n - 1 ≡ length before = omega (arith, e) in
    ap (λ (o : Option Task). unwrap_or (option_map test o) false) (ap (slice_get (before ++ t ∷ ts)) place ∙ at_seam before t ts)

pub both_tests : (before ts : List Task) (k : ℕ) (f g : Task → Bool) (n : ℕ) → k ≡ length before + 1 → is_in (numbers_from k f ts) n && passes g (before ++ ts) n ≡ is_in (numbers_from k (λ t. f t && g t) ts) n
both_tests before [] k f g n e = refl
both_tests before (t ∷ ts) k f g n e =
    let long : length (before ++ t ∷ []) ≡ length before + 1 = length_push before t in
    let more : k + 1 ≡ length (before ++ t ∷ []) + 1 = omega (arith, e, long) in
    ap (λ b. b && passes g (before ++ t ∷ ts) n) (numbers_cons k f t ts n)
    ∙ spread (nat_eq n k) (f t) (g t) (is_in (numbers_from (k + 1) f ts) n) (passes g (before ++ t ∷ ts) n) (λ d. passes_seam g before t ts n (eqb-true n k d ∙ e))
    ∙ ap (λ b. (nat_eq n k && (f t && g t)) || b) (ap (λ xs. is_in (numbers_from (k + 1) f ts) n && passes g xs n) (sym (append_assoc before (t ∷ []) ts)) ∙ both_tests (before ++ t ∷ []) ts (k + 1) f g n more)
    ∙ sym (numbers_cons k (λ t. f t && g t) t ts n)
  where
    absorbed : (p r b : Bool) → b ≡ p → b ≡ p || (r && b)
    absorbed true r b h = h
    absorbed false r b h = h ∙ sym (ap (λ x. r && x) h ∙ and_false r)

    spread : (e a p r b : Bool) → (e ≡ true → b ≡ p) → ((e && a) || r) && b ≡ (e && (a && p)) || (r && b)
    spread false a p r b h = refl
    spread true true p r b h = absorbed p r b (h refl)
    spread true false p r b h = refl

pub same_test : (k : ℕ) (f g : Task → Bool) (ts : List Task) → ((t : Task) → f t ≡ g t) → numbers_from k f ts ≡ numbers_from k g ts
same_test k f g [] h = refl
same_test k f g (t ∷ ts) h = ap (λ b. one_where b k ++ numbers_from (k + 1) f ts) (h t) ∙ ap (λ ns. one_where (g t) k ++ ns) (same_test (k + 1) f g ts h)

pub no_number : (k : ℕ) (f : Task → Bool) (ts : List Task) → ((t : Task) → f t ≡ false) → numbers_from k f ts ≡ []
no_number k f [] h = refl
no_number k f (t ∷ ts) h = ap (λ b. one_where b k ++ numbers_from (k + 1) f ts) (h t) ∙ no_number (k + 1) f ts h

pub numbers_push : (k : ℕ) (f : Task → Bool) (before : List Task) (t : Task) (j n : ℕ) → j ≡ k + length before → is_in (numbers_from k f (before ++ t ∷ [])) n ≡ is_in (numbers_from k f before) n || (nat_eq n j && f t)
numbers_push k f [] t j n e = let same : k ≡ j = omega (arith, e) in numbers_cons k f t [] n ∙ or_false (nat_eq n k && f t) ∙ ap (λ m. nat_eq n m && f t) same
numbers_push k f (b ∷ before) t j n e =
    numbers_cons k f b (before ++ t ∷ []) n
    ∙ ap (λ x. (nat_eq n k && f b) || x) (numbers_push (k + 1) f before t j n (omega (arith, e)))
    ∙ or_assoc (nat_eq n k && f b) (is_in (numbers_from (k + 1) f before) n) (nat_eq n j && f t)
    ∙ ap (λ x. x || (nat_eq n j && f t)) (sym (numbers_cons k f b before n))

pub any_number : (before ts : List Task) (k : ℕ) (f g : Task → Bool) → k ≡ length before + 1 → list_any (passes g (before ++ ts)) (numbers_from k f ts) ≡ list_any (λ t. g t && f t) ts
any_number before [] k f g e = refl
any_number before (t ∷ ts) k f g e =
    let long : length (before ++ t ∷ []) ≡ length before + 1 = length_push before t in
    let more : k + 1 ≡ length (before ++ t ∷ []) + 1 = omega (arith, e, long) in
    first (f t) (passes g (before ++ t ∷ ts)) (numbers_from (k + 1) f ts)
    ∙ ap (λ b. (b && f t) || list_any (passes g (before ++ t ∷ ts)) (numbers_from (k + 1) f ts)) (passes_seam g before t ts k e)
    ∙ ap (λ b. (g t && f t) || b) (ap (λ xs. list_any (passes g xs) (numbers_from (k + 1) f ts)) (sym (append_assoc before (t ∷ []) ts)) ∙ any_number (before ++ t ∷ []) ts (k + 1) f g more)
  where
    first : (b : Bool) (p : ℕ → Bool) (ns : List ℕ) → list_any p (one_where b k ++ ns) ≡ (p k && b) || list_any p ns
    first true p ns = go (p k)
      where
        go : (x : Bool) → x || list_any p ns ≡ (x && true) || list_any p ns
        go true = refl
        go false = refl
    first false p ns = ap (λ x. x || list_any p ns) (sym (and_false (p k)))

-- one of the numbers of a set

settled : (p : ℕ → Bool) (xs : List ℕ) (n : ℕ) → is_in xs n ≡ true → p n ≡ true → list_any p xs ≡ true
settled p [] n e d = elim (false≢true e) [ ]
settled p (x ∷ xs) n e d = by_first (λ i. settled p xs n i d) (nat_eq n x) refl e
  where
    by_first : (is_in xs n ≡ true → list_any p xs ≡ true) → (b : Bool) → nat_eq n x ≡ b → b || is_in xs n ≡ true → p x || list_any p xs ≡ true
    by_first more true is i = ap (λ y. p y || list_any p xs) (sym (eqb-true n x is)) ∙ ap (λ b. b || list_any p xs) d
    by_first more false is i = or_right (p x) (list_any p xs) (more i)

any_kept : (p : ℕ → Bool) (ns ms : List ℕ) → ((n : ℕ) → is_in ns n ≡ true → is_in ms n ≡ true) → list_any p ns ≡ true → list_any p ms ≡ true
any_kept p [] ms h a = elim (false≢true a) [ ]
any_kept p (k ∷ ns) ms h a = go (any_kept p ns ms (λ n e. h n (or_right (nat_eq n k) (is_in ns n) e))) (p k) refl a
  where
    go : (list_any p ns ≡ true → list_any p ms ≡ true) → (b : Bool) → p k ≡ b → b || list_any p ns ≡ true → list_any p ms ≡ true
    go more true d i = settled p ms k (h k (ap (λ b. b || is_in ns k) (eq-eqb k k refl))) d
    go more false d i = more i

pub any_same : (p : ℕ → Bool) (ns ms : List ℕ) → ((n : ℕ) → is_in ns n ≡ is_in ms n) → list_any p ns ≡ list_any p ms
any_same p ns ms h = same_bool (list_any p ns) (list_any p ms) (any_kept p ns ms (λ n e. sym (h n) ∙ e)) (any_kept p ms ns (λ n e. h n ∙ e))

-- rising numbers

pub unrepeated_rises : (last : Option ℕ) (ns : List ℕ) → RisesFrom nat_lt (λ (n : ℕ). n) last (unrepeated last ns)
unrepeated_rises last [] = tt
unrepeated_rises last (n ∷ ns) = go (unrepeated_rises (Some n) ns) (unrepeated_rises last ns) (follows nat_lt last n) refl
  where
    go : RisesFrom nat_lt (λ (m : ℕ). m) (Some n) (unrepeated (Some n) ns) → RisesFrom nat_lt (λ (m : ℕ). m) last (unrepeated last ns) → (b : Bool) → follows nat_lt last n ≡ b → RisesFrom nat_lt (λ (m : ℕ). m) last (if b then n ∷ unrepeated (Some n) ns else unrepeated last ns)
    go more same true e = (e, more)
    go more same false e = same

pub unrepeated_more : (ns : List ℕ) (i d : ℕ) (out whole : List ℕ) → i < length ns → follows nat_lt (last_number out) (get_or ns i d) ≡ true → out ++ unrepeated (last_number out) (drop i ns) ≡ whole → (out ++ get_or ns i d ∷ []) ++ unrepeated (last_number (out ++ get_or ns i d ∷ [])) (drop (i + 1) ns) ≡ whole
unrepeated_more ns i d out whole l e h =
    append_assoc out (get_or ns i d ∷ []) (unrepeated (last_number (out ++ get_or ns i d ∷ [])) (drop (i + 1) ns))
    ∙ ap (λ (o : Option ℕ). out ++ get_or ns i d ∷ unrepeated o (drop (i + 1) ns)) (last_number-push out (get_or ns i d))
    ∙ ap (λ b. out ++ (if b then get_or ns i d ∷ unrepeated (Some (get_or ns i d)) (drop (i + 1) ns) else unrepeated (last_number out) (drop (i + 1) ns))) (sym e)
    ∙ ap (λ ks. out ++ unrepeated (last_number out) ks) (sym (drop_more ns i d l))
    ∙ h

pub unrepeated_same : (ns : List ℕ) (i d : ℕ) (out whole : List ℕ) → i < length ns → follows nat_lt (last_number out) (get_or ns i d) ≡ false → out ++ unrepeated (last_number out) (drop i ns) ≡ whole → out ++ unrepeated (last_number out) (drop (i + 1) ns) ≡ whole
unrepeated_same ns i d out whole l e h =
    ap (λ b. out ++ (if b then get_or ns i d ∷ unrepeated (Some (get_or ns i d)) (drop (i + 1) ns) else unrepeated (last_number out) (drop (i + 1) ns))) (sym e)
    ∙ ap (λ ks. out ++ unrepeated (last_number out) ks) (sym (drop_more ns i d l))
    ∙ h

-- a number isn't below another, where there is one
abbrev IsAbove : Option ℕ → ℕ → Type 0
IsAbove None n = ⊤
IsAbove (Some l) n = l ≤ n

abbrev Ascends : Option ℕ → List ℕ → Type 0
Ascends last [] = ⊤
Ascends last (n ∷ ns) = IsAbove last n × Ascends (Some n) ns

abbrev is_last : Option ℕ → ℕ → Bool
is_last None n = false
is_last (Some l) n = nat_eq n l

unrepeated_has : (last : Option ℕ) (ns : List ℕ) → Ascends last ns → (n : ℕ) → is_in (unrepeated last ns) n || is_last last n ≡ is_in ns n || is_last last n
unrepeated_has last [] a n = refl
unrepeated_has last (m ∷ ns) a n = go (unrepeated_has (Some m) ns a.1 n) (λ b. unrepeated_has last ns b n) (follows nat_lt last m) refl
  where
    turned : (x u v l : Bool) → u || x ≡ v || x → (x || u) || l ≡ (x || v) || l
    turned true u v l h = refl
    turned false u v l h = ap (λ b. b || l) (sym (or_false u) ∙ h ∙ or_false v)

    again : (x v : Bool) → v || x ≡ (x || v) || x
    again true true = refl
    again true false = refl
    again false v = refl

    same_last : (o : Option ℕ) → IsAbove o m → follows nat_lt o m ≡ false → o ≡ Some m
    same_last None h e = elim (false≢true (sym e)) [ ]
    same_last (Some l) h e = let same : l ≡ m = grind (arith, h, e) in ap Some same

    go : is_in (unrepeated (Some m) ns) n || nat_eq n m ≡ is_in ns n || nat_eq n m → (Ascends last ns → is_in (unrepeated last ns) n || is_last last n ≡ is_in ns n || is_last last n) → (b : Bool) → follows nat_lt last m ≡ b → is_in (if b then m ∷ unrepeated (Some m) ns else unrepeated last ns) n || is_last last n ≡ (nat_eq n m || is_in ns n) || is_last last n
    go more rest true e = turned (nat_eq n m) (is_in (unrepeated (Some m) ns) n) (is_in ns n) (is_last last n) more
    go more rest false e =
        let same : last ≡ Some m = same_last last a.0 e in
        let here : is_last last n ≡ nat_eq n m = ap (λ o. is_last o n) same in
        rest (subst (λ o. Ascends o ns) (sym same) a.1)
        ∙ ap (λ b. is_in ns n || b) here ∙ again (nat_eq n m) (is_in ns n) ∙ ap (λ b. (nat_eq n m || is_in ns n) || b) (sym here)

ascends : (n : ℕ) (ns : List ℕ) → IsNonDecreasingBy (λ (x : ℕ). x) (n ∷ ns) → Ascends (Some n) ns
ascends n [] h = tt
ascends n (m ∷ ns) h = (h 0 1 n (omega arith) (omega arith), ascends m ns (λ i j d le lt. h (suc i) (suc j) d (omega (arith, le)) (omega (arith, lt))))

pub sorted_has : (ns : List ℕ) → IsSorted nat_cmp ns → (n : ℕ) → is_in (unrepeated None ns) n ≡ is_in ns n
sorted_has ns s n =
    let up = go ns (IsNonDecreasingBy-from_sort (λ (x : ℕ). x) ns s) in
    sym (or_false (is_in (unrepeated None ns) n)) ∙ unrepeated_has None ns up n ∙ or_false (is_in ns n)
  where
    go : (xs : List ℕ) → IsNonDecreasingBy (λ (x : ℕ). x) xs → Ascends None xs
    go [] h = tt
    go (x ∷ xs) h = (tt, ascends x xs h)

contained : (ns : List ℕ) (n : ℕ) → is_in ns n ≡ true → Contains ns n
contained [] n a = elim (false≢true a) [ ]
contained (k ∷ ns) n a = go (contained ns n) (nat_eq n k) refl a
  where
    go : (is_in ns n ≡ true → Contains ns n) → (b : Bool) → nat_eq n k ≡ b → b || is_in ns n ≡ true → Contains (k ∷ ns) n
    go more true e h = (zero, omega arith, sym (eqb-true n k e))
    go more false e h = let m = more h in (suc m.0, let l = m.1 in omega arith, m.2)

is_in-contained : (ns : List ℕ) (n : ℕ) → Contains ns n → is_in ns n ≡ true
is_in-contained ns n c = at ns c.0 c.1 c.2
  where
    at : (ys : List ℕ) (k : ℕ) → k < length ys → get_or ys k n ≡ n → is_in ys n ≡ true
    at [] k l e = let never : ⊥ = omega arith in elim never [ ]
    at (y ∷ ys) zero l e = ap (λ b. b || is_in ys n) (eq-eqb n y (sym e))
    at (y ∷ ys) (suc k) l e = or_right (nat_eq n y) (is_in ys n) (at ys k (omega arith) e)

pub moved_has : (ns ms : List ℕ) (n : ℕ) → IsPermutation ns ms → is_in ms n ≡ is_in ns n
moved_has ns ms n p = same_bool (is_in ms n) (is_in ns n)
    (λ a. is_in-contained ns n (Contains-permutation ms ns n (IsPermutation-sym ns ms p) (contained ms n a)))
    (λ a. is_in-contained ms n (Contains-permutation ns ms n p (contained ns n a)))

behind : (l : ℕ) (ns : List ℕ) (k : ℕ) → RisesFrom nat_lt (λ (n : ℕ). n) (Some l) ns → is_in ns k ≡ true → l < k
behind l [] k r a = elim (false≢true a) [ ]
behind l (n ∷ ns) k r a = go (behind n ns k r.1) (nat_eq k n) refl a
  where
    go : (is_in ns k ≡ true → n < k) → (b : Bool) → nat_eq k n ≡ b → b || is_in ns k ≡ true → l < k
    go more true e h = let is : k ≡ n = eqb-true k n e in let first : l < n = ltb-true l n r.0 in omega (arith, is, first)
    go more false e h = let first : l < n = ltb-true l n r.0 in let rest : n < k = more h in omega (arith, first, rest)

not_behind : (n : ℕ) (ns : List ℕ) → RisesFrom nat_lt (λ (n : ℕ). n) (Some n) ns → is_in ns n ≡ false
not_behind n ns r = go (is_in ns n) refl
  where
    go : (b : Bool) → is_in ns n ≡ b → is_in ns n ≡ false
    go true e = let less : n < n = behind n ns n r e in let never : ⊥ = omega (arith, less) in elim never [ ]
    go false e = e

least : (n m : ℕ) (ms : List ℕ) → RisesFrom nat_lt (λ (n : ℕ). n) (Some m) ms → is_in (m ∷ ms) n ≡ true → m ≤ n
least n m ms r a = go (nat_eq n m) refl a
  where
    go : (b : Bool) → nat_eq n m ≡ b → b || is_in ms n ≡ true → m ≤ n
    go true e h = let is : n ≡ m = eqb-true n m e in omega (arith, is)
    go false e h = let rest : m < n = behind m ms n r h in omega (arith, rest)

first_in : (n : ℕ) (ns : List ℕ) → is_in (n ∷ ns) n ≡ true
first_in n ns = ap (λ b. b || is_in ns n) (eq-eqb n n refl)

pub one_rising : (last other : Option ℕ) (ns ms : List ℕ) → RisesFrom nat_lt (λ (n : ℕ). n) last ns → RisesFrom nat_lt (λ (n : ℕ). n) other ms → ((n : ℕ) → is_in ns n ≡ is_in ms n) → ns ≡ ms
one_rising last other [] [] r s h = refl
one_rising last other [] (m ∷ ms) r s h = elim (false≢true (h m ∙ first_in m ms)) [ ]
one_rising last other (n ∷ ns) [] r s h = elim (false≢true (sym (h n) ∙ first_in n ns)) [ ]
one_rising last other (n ∷ ns) (m ∷ ms) r s h =
    let up : m ≤ n = least n m ms s.1 (sym (h n) ∙ first_in n ns) in
    let down : n ≤ m = least m n ns r.1 (h m ∙ first_in m ms) in
    let same : n ≡ m = omega (arith, up, down) in
    ap (λ x. x ∷ ns) same ∙ ap (λ xs. m ∷ xs) (one_rising (Some n) (Some m) ns ms r.1 s.1 (λ k. tail same k (nat_eq k n) refl))
  where
    tail : n ≡ m → (k : ℕ) (b : Bool) → nat_eq k n ≡ b → is_in ns k ≡ is_in ms k
    tail same k true e =
        let is : k ≡ n = eqb-true k n e in
        ap (is_in ns) is ∙ not_behind n ns r.1 ∙ sym (not_behind m ms s.1) ∙ ap (is_in ms) (sym same ∙ sym is)
    tail same k false e =
        sym (ap (λ b. b || is_in ns k) e) ∙ h k ∙ ap (λ (x : ℕ). nat_eq k x || is_in ms k) (sym same) ∙ ap (λ b. b || is_in ms k) e
