-- Texts in order, without repeats, rise and are the same set; there is one such list.
use Rattle.std.proofs.Common.{◌≡◌, ℕ, zero, suc, ◌+◌, ◌<◌, Bool, true, false, ◌||◌, List, [], ◌∷◌, ◌++◌, length, get_or, Option, Some, None, refl, sym, ap, ◌∙◌, subst, arith}
use Rattle.std.proofs.lemmas.Bool.{false≢true}
use Rattle.std.proofs.lemmas.Cmp.{nat_list_cmp_total}
use Rattle.std.specs.Prelude.{⊤}
use Rattle.std.proofs.lemmas.List.Sorted.{Contains-permutation, IsPermutation-sym}
use Rattle.std.specs.List.{Contains}
use Rattle.std.specs.List.Sorted.{IsPermutation, IsSortedBy}
use Rattle.std.specs.Ordering.{is_lt, ordering_reverse}
use Rattle.std.specs.declared.cmp.Ordering.{Ordering}
use Rattle.std.specs.declared.cmp.Ordering.TheVariants.{Less, Equal, Greater}
use Rattle.std.specs.Str.{bytes_eq}
use Rattle.bds_value.specs.Order.{is_before, text_cmp}
use Rattle.bds_rules.specs.Makers.{is_among}
use Rattle.bds_goal.specs.Collected.{is_behind, last_text, put_where, unrepeated}
use Rattle.bds_goal.specs.Goals.{Rises}
use Rattle.bds_goal.specs.Rising.{AreRising}
use Rattle.bds_goal.proofs.MakerLaws.{Some≢None, itself, or_left, or_right, same_bool, same_bytes, some_is}
use Rattle.bds_value.proofs.KeyLaws.{other_before}

-- the order of texts

before_less : (a b : List ℕ) → is_before a b ≡ true → text_cmp a b ≡ Less
before_less a b e = go (text_cmp a b) e
  where
    go : (o : Ordering) → is_lt o ≡ true → o ≡ Less
    go Less h = refl
    go Equal h = elim (false≢true h) [ ]
    go Greater h = elim (false≢true h) [ ]

pub before_trans : (a b c : List ℕ) → is_before a b ≡ true → is_before b c ≡ true → is_before a c ≡ true
before_trans a b c e f = ap is_lt (nat_list_cmp_total.trans a b c (before_less a b e) (before_less b c f))

pub not_after : (a b : List ℕ) → is_before a b ≡ true → is_before b a ≡ false
not_after a b e = ap is_lt (nat_list_cmp_total.antisymm b a ∙ ap ordering_reverse (before_less a b e))

pub not_itself : (a : List ℕ) → is_before a a ≡ false
not_itself a = go (is_before a a) refl
  where
    go : (b : Bool) → is_before a a ≡ b → is_before a a ≡ false
    go true e = not_after a a e
    go false e = e

pub neither_before : (a b : List ℕ) → is_before a b ≡ false → is_before b a ≡ false → a ≡ b
neither_before a b e f = go (bytes_eq a b) refl
  where
    go : (t : Bool) → bytes_eq a b ≡ t → a ≡ b
    go true d = same_bytes a b d
    go false d = elim (false≢true (sym f ∙ other_before a b e d)) [ ]

-- texts in order

abbrev pub Begins : Option (List ℕ) → List (List ℕ) → Type 0
Begins None xs = ⊤
Begins (Some l) [] = ⊤
Begins (Some l) (x ∷ xs) = is_before x l ≡ false

abbrev pub InOrder : List (List ℕ) → Type 0
InOrder [] = ⊤
InOrder (x ∷ xs) = Begins (Some x) xs × InOrder xs

in_order : (xs : List (List ℕ)) → IsSortedBy is_before xs → InOrder xs
in_order [] h = tt
in_order (x ∷ []) h = (tt, tt)
in_order (x ∷ y ∷ ys) h = (h 0 x (omega arith) (omega arith), in_order (y ∷ ys) (λ k d low high. next k d (omega (arith, high))))
  where
    next : (k : ℕ) (d : List ℕ) → k + 1 < length (y ∷ ys) → is_before (get_or (y ∷ ys) (k + 1) d) (get_or (y ∷ ys) k d) ≡ false
    next k d high =
        let more : suc k + 1 ≡ suc (k + 1) = omega arith in
        subst (λ n. is_before (get_or (x ∷ y ∷ ys) n d) (get_or (y ∷ ys) k d) ≡ false) more (h (suc k) d (omega arith) (omega (arith, high)))

-- without repeats

pub record Unrepeated (out xs result : List (List ℕ)) : Type 0 where
  pub rises : Rises result
  pub set : (f : List ℕ) → is_among result f ≡ is_among out f || is_among xs f

last_push : (out : List (List ℕ)) (x : List ℕ) → last_text (out ++ x ∷ []) ≡ Some x
last_push [] x = refl
last_push (y ∷ []) x = refl
last_push (y ∷ z ∷ zs) x = last_push (z ∷ zs) x

rises_push : (out : List (List ℕ)) (x : List ℕ) → Rises out → is_behind (last_text out) x ≡ true → Rises (out ++ x ∷ [])
rises_push [] x r e = tt
rises_push (y ∷ []) x r e = (e, tt)
rises_push (y ∷ z ∷ zs) x r e = (r.0, rises_push (z ∷ zs) x r.1 e)

among_push : (out : List (List ℕ)) (x f : List ℕ) → is_among (out ++ x ∷ []) f ≡ is_among out f || bytes_eq x f
among_push [] x f = go (bytes_eq x f)
  where
    go : (b : Bool) → b || false ≡ b
    go true = refl
    go false = refl
among_push (y ∷ ys) x f = go (bytes_eq y f) (among_push ys x f)
  where
    go : (b : Bool) → is_among (ys ++ x ∷ []) f ≡ is_among ys f || bytes_eq x f → b || is_among (ys ++ x ∷ []) f ≡ (b || is_among ys f) || bytes_eq x f
    go true h = refl
    go false h = h

last_among : (out : List (List ℕ)) (l : List ℕ) → last_text out ≡ Some l → is_among out l ≡ true
last_among [] l e = elim (Some≢None l (sym e)) [ ]
last_among (y ∷ []) l e = or_left (bytes_eq y l) false (subst (λ z. bytes_eq y z ≡ true) (some_is y l e) (itself y))
last_among (y ∷ z ∷ zs) l e = or_right (bytes_eq y l) (is_among (z ∷ zs) l) (last_among (z ∷ zs) l e)

pub unrepeats : (xs out : List (List ℕ)) → Rises out → Begins (last_text out) xs → InOrder xs → Unrepeated out xs (unrepeated out xs)
unrepeats [] out r b o = record { rises = r; set = λ f. go (is_among out f) }
  where
    go : (a : Bool) → a ≡ a || false
    go true = refl
    go false = refl
unrepeats (x ∷ xs) out r b o = go (λ ys. unrepeats xs ys) (is_behind (last_text out) x) refl
  where
    either : (a c d : Bool) → (a || c) || d ≡ a || (c || d)
    either true c d = refl
    either false c d = refl

    -- what doesn't come behind the last is the last
    is_last : (l : Option (List ℕ)) → last_text out ≡ l → Begins l (x ∷ xs) → is_behind l x ≡ false → last_text out ≡ Some x
    is_last None e h d = elim (false≢true (sym d)) [ ]
    is_last (Some l) e h d = e ∙ ap Some (neither_before l x d h)

    absorbed : (f : List ℕ) → is_among out x ≡ true → is_among out f || is_among xs f ≡ is_among out f || (bytes_eq x f || is_among xs f)
    absorbed f h = by_test (bytes_eq x f) refl
      where
        all : (a c : Bool) → a ≡ true → a || c ≡ a || true
        all true c e = refl
        all false c e = elim (false≢true e) [ ]

        by_test : (t : Bool) → bytes_eq x f ≡ t → is_among out f || is_among xs f ≡ is_among out f || (t || is_among xs f)
        by_test true e = all (is_among out f) (is_among xs f) (subst (λ z. is_among out z ≡ true) (same_bytes x f e) h)
        by_test false e = refl

    go : ((ys : List (List ℕ)) → Rises ys → Begins (last_text ys) xs → InOrder xs → Unrepeated ys xs (unrepeated ys xs)) → (t : Bool) → is_behind (last_text out) x ≡ t → Unrepeated out (x ∷ xs) (unrepeated (put_where t out x) xs)
    go more true e =
        let m = more (out ++ x ∷ []) (rises_push out x r e) (subst (λ l. Begins l xs) (sym (last_push out x)) o.0) o.1 in
        record { rises = m.rises; set = λ f. m.set f ∙ ap (λ a. a || is_among xs f) (among_push out x f) ∙ either (is_among out f) (bytes_eq x f) (is_among xs f) }
    go more false e =
        let last = is_last (last_text out) refl b e in
        let m = more out r (subst (λ l. Begins l xs) (sym last) o.0) o.1 in
        record { rises = m.rises; set = λ f. m.set f ∙ absorbed f (last_among out x last) }

pub sorted_unrepeats : (xs : List (List ℕ)) → IsSortedBy is_before xs → Unrepeated [] xs (unrepeated [] xs)
sorted_unrepeats xs s = unrepeats xs [] tt tt (in_order xs s)

-- the first of rising texts comes before the others

pub first_before : (x : List ℕ) (xs : List (List ℕ)) → Rises (x ∷ xs) → (f : List ℕ) → is_among xs f ≡ true → is_before x f ≡ true
first_before x [] r f a = elim (false≢true a) [ ]
first_before x (y ∷ ys) r f a = go (first_before y ys r.1 f) (bytes_eq y f) refl a
  where
    go : (is_among ys f ≡ true → is_before y f ≡ true) → (b : Bool) → bytes_eq y f ≡ b → b || is_among ys f ≡ true → is_before x f ≡ true
    go more true e h = subst (λ z. is_before x z ≡ true) (same_bytes y f e) r.0
    go more false e h = before_trans x y f r.0 (more h)

pub rest_rises : (x : List ℕ) (xs : List (List ℕ)) → Rises (x ∷ xs) → Rises xs
rest_rises x [] r = tt
rest_rises x (y ∷ ys) r = r.1

not_first : (x : List ℕ) (xs : List (List ℕ)) (f : List ℕ) → (x ≡ f → ⊥) → is_among (x ∷ xs) f ≡ true → is_among xs f ≡ true
not_first x xs f apart a = go (bytes_eq x f) refl a
  where
    go : (b : Bool) → bytes_eq x f ≡ b → b || is_among xs f ≡ true → is_among xs f ≡ true
    go true e h = elim (apart (same_bytes x f e)) [ ]
    go false e h = h

pub one_rising : (xs ys : List (List ℕ)) → Rises xs → Rises ys → ((f : List ℕ) → is_among xs f ≡ true → is_among ys f ≡ true) → ((f : List ℕ) → is_among ys f ≡ true → is_among xs f ≡ true) → xs ≡ ys
one_rising [] [] r s to back = refl
one_rising [] (y ∷ ys) r s to back = elim (false≢true (back y (or_left (bytes_eq y y) (is_among ys y) (itself y)))) [ ]
one_rising (x ∷ xs) [] r s to back = elim (false≢true (to x (or_left (bytes_eq x x) (is_among xs x) (itself x)))) [ ]
one_rising (x ∷ xs) (y ∷ ys) r s to back =
    ap (λ z. z ∷ xs) same ∙ ap (λ zs. y ∷ zs) (one_rising xs ys (rest_rises x xs r) (rest_rises y ys s) tail_to tail_back)
  where
    least : (u : List ℕ) (us : List (List ℕ)) (f : List ℕ) → Rises (u ∷ us) → is_among (u ∷ us) f ≡ true → is_before f u ≡ false
    least u us f h a = go (bytes_eq u f) refl a
      where
        go : (b : Bool) → bytes_eq u f ≡ b → b || is_among us f ≡ true → is_before f u ≡ false
        go true e k = subst (λ z. is_before z u ≡ false) (same_bytes u f e) (not_itself u)
        go false e k = not_after u f (first_before u us h f k)

    same : x ≡ y
    same = neither_before x y
        (least y ys x s (to x (or_left (bytes_eq x x) (is_among xs x) (itself x))))
        (least x xs y r (back y (or_left (bytes_eq y y) (is_among ys y) (itself y))))

    tail_to : (f : List ℕ) → is_among xs f ≡ true → is_among ys f ≡ true
    tail_to f a = not_first y ys f (λ e. false≢true (sym (not_itself f) ∙ subst (λ z. is_before z f ≡ true) (same ∙ e) (first_before x xs r f a))) (to f (or_right (bytes_eq x f) (is_among xs f) a))

    tail_back : (f : List ℕ) → is_among ys f ≡ true → is_among xs f ≡ true
    tail_back f a = not_first x xs f (λ e. false≢true (sym (not_itself f) ∙ subst (λ z. is_before z f ≡ true) (sym same ∙ e) (first_before y ys s f a))) (back f (or_right (bytes_eq y f) (is_among ys f) a))

-- what a sort moves

among_contains : (xs : List (List ℕ)) (f : List ℕ) → is_among xs f ≡ true → Contains xs f
among_contains [] f a = elim (false≢true a) [ ]
among_contains (x ∷ xs) f a = go (among_contains xs f) (bytes_eq x f) refl a
  where
    go : (is_among xs f ≡ true → Contains xs f) → (b : Bool) → bytes_eq x f ≡ b → b || is_among xs f ≡ true → Contains (x ∷ xs) f
    go more true e h = (zero, omega arith, same_bytes x f e)
    go more false e h = let m = more h in (suc m.0, let l = m.1 in omega arith, m.2)

contains_among : (xs : List (List ℕ)) (f : List ℕ) → Contains xs f → is_among xs f ≡ true
contains_among xs f c = at xs c.0 c.1 c.2
  where
    at : (ys : List (List ℕ)) (k : ℕ) → k < length ys → get_or ys k f ≡ f → is_among ys f ≡ true
    at [] k l e = let never : ⊥ = omega arith in elim never [ ]
    at (y ∷ ys) zero l e = or_left (bytes_eq y f) (is_among ys f) (subst (λ z. bytes_eq y z ≡ true) e (itself y))
    at (y ∷ ys) (suc k) l e = or_right (bytes_eq y f) (is_among ys f) (at ys k (omega arith) e)

same_among : (xs ys : List (List ℕ)) (f : List ℕ) → IsPermutation xs ys → is_among ys f ≡ is_among xs f
same_among xs ys f p = same_bool (is_among ys f) (is_among xs f)
    (λ a. contains_among xs f (Contains-permutation ys xs f (IsPermutation-sym xs ys p) (among_contains ys f a)))
    (λ a. contains_among ys f (Contains-permutation xs ys f p (among_contains xs f a)))

pub are_rising : (texts sorted : List (List ℕ)) → IsPermutation texts sorted → IsSortedBy is_before sorted → AreRising texts (unrepeated [] sorted)
are_rising texts sorted p s = let u = sorted_unrepeats sorted s in record { rises = u.rises; set = λ f. u.set f ∙ same_among texts sorted f p }
