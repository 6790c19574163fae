-- A stable sort gives the one list that is in order and keeps what ties in place.
use Rattle.std.proofs.Common.{◌≡◌, ℕ, suc, ◌+◌, ◌<◌, List, [], ◌∷◌, length, get_or, Bool, true, false, cond, not, ◌&&◌, arith, refl, sym, ap, subst, ◌∙◌}
use Rattle.std.specs.List.{filter}
use Rattle.std.specs.List.Sorted.{IsSortedBy, IsStableBy, IsSortedByClosure, IsStableByClosure, ties}
use Rattle.std.specs.Bool.{⊤}
use Rattle.std.specs.Cmp.{IsStrictWeakOrder}
use Rattle.std.specs.Ordering.{is_lt}
use Rattle.std.specs.declared.cmp.Ordering.{Ordering}
use Rattle.std.proofs.lemmas.Fn.{always_returns_same}
use Rattle.std.proofs.Common.{Bor}
use denote.Param.Members.{Mut, Called}
use Rattle.bds_value.specs.declared.value.Value.{Value}
use Rattle.bds_lib.specs.Lists.{put_sorted, sorted}

parts : (a b : Bool) → not a && not b ≡ true → (a ≡ false) × (b ≡ false)
parts true b e = absurd (cc)
parts false true e = absurd (cc)
parts false false e = (refl, refl)

module _ (lt : Value → Value → Bool) (order : IsStrictWeakOrder lt) where
  -- the first item, if there is one, isn't less than x
  abbrev Begins : Value → List Value → Type 0
  Begins x [] = ⊤
  Begins x (y ∷ ys) = lt y x ≡ false

  abbrev Rises : List Value → Type 0
  Rises [] = ⊤
  Rises (x ∷ xs) = Begins x xs × Rises xs

  itself : (x : Value) → lt x x ≡ false
  itself x = by_test (lt x x) refl
    where
      by_test : (b : Bool) → lt x x ≡ b → lt x x ≡ false
      by_test true t = order.one_way x x t
      by_test false t = t

  ties_itself : (x : Value) → ties lt x x ≡ true
  ties_itself x = rw (itself x) refl

  rises : (xs : List Value) → IsSortedBy lt xs → Rises xs
  rises [] h = tt
  rises (x ∷ []) h = (tt, tt)
  rises (x ∷ y ∷ ys) h = (h 0 x (omega arith) (omega arith), rises (y ∷ ys) (λ k d low high. next k d (omega (arith, high))))
    where
      next : (k : ℕ) (d : Value) → k + 1 < length (y ∷ ys) → lt (get_or (y ∷ ys) (k + 1) d) (get_or (y ∷ ys) k d) ≡ false
      next k d high =
          let more : suc k + 1 ≡ suc (k + 1) = omega arith in
          subst (λ n. lt (get_or (x ∷ y ∷ ys) n d) (get_or (y ∷ ys) k d) ≡ false) more (h (suc k) d (omega arith) (omega (arith, high)))

  -- nothing ties with what is less than the first of items in order
  none_ties : (x y : Value) (ys : List Value) → lt x y ≡ true → Rises (y ∷ ys) → filter (ties lt x) (y ∷ ys) ≡ []
  none_ties x y [] less r = rw less refl
  none_ties x y (z ∷ zs) less r = rw less (none_ties x z zs (by_test (lt x z) refl) r.1)
    where
      by_test : (b : Bool) → lt x z ≡ b → lt x z ≡ true
      by_test true t = t
      by_test false t = let no_less : lt x y ≡ false = order.chain x z y t r.0 in absurd (cc)

  not_less : (a : Value) (cs : List Value) (b : Value) (bs : List Value) → Rises (b ∷ bs) → filter (ties lt a) (a ∷ cs) ≡ filter (ties lt a) (b ∷ bs) → lt a b ≡ false
  not_less a cs b bs r same = by_test (lt a b) refl
    where
      by_test : (t : Bool) → lt a b ≡ t → lt a b ≡ false
      by_test true t =
          let kept : a ∷ filter (ties lt a) cs ≡ filter (ties lt a) (b ∷ bs) = rw (ties_itself a) at same in
          let gone : a ∷ filter (ties lt a) cs ≡ [] = kept ∙ none_ties a b bs t r in
          absurd (cc)
      by_test false t = t

  -- two lists in order with the same ties are one
  unique : (cs bs : List Value) → Rises cs → Rises bs → ((x : Value) → filter (ties lt x) cs ≡ filter (ties lt x) bs) → cs ≡ bs
  unique [] [] ra rb same = refl
  unique [] (b ∷ bs) ra rb same = let gone : [] ≡ b ∷ filter (ties lt b) bs = rw (ties_itself b) at (same b) in absurd (cc)
  unique (a ∷ cs) [] ra rb same = let gone : a ∷ filter (ties lt a) cs ≡ [] = rw (ties_itself a) at (same a) in absurd (cc)
  unique (a ∷ cs) (b ∷ bs) ra rb same =
      ap (λ l. a ∷ l) (unique cs bs ra.1 rb.1 tails) ∙ ap (λ c. c ∷ bs) heads
    where
      forth : lt a b ≡ false
      forth = not_less a cs b bs rb (same a)

      back : lt b a ≡ false
      back = not_less b bs a cs ra (sym (same b))

      heads : a ≡ b
      heads =
          let left : a ∷ filter (ties lt a) cs ≡ filter (ties lt a) (b ∷ bs) = rw (ties_itself a) at (same a) in
          let both : a ∷ filter (ties lt a) cs ≡ b ∷ filter (ties lt a) bs = rw (forth, back) at left in
          cc

      alike : (x : Value) → filter (ties lt x) (a ∷ cs) ≡ filter (ties lt x) (a ∷ bs)
      alike = subst (λ c. (x : Value) → filter (ties lt x) (a ∷ cs) ≡ filter (ties lt x) (c ∷ bs)) (sym heads) same

      tails : (x : Value) → filter (ties lt x) cs ≡ filter (ties lt x) bs
      tails x = by_test (ties lt x a) refl
        where
          by_test : (t : Bool) → ties lt x a ≡ t → filter (ties lt x) cs ≡ filter (ties lt x) bs
          by_test true t = let both : a ∷ filter (ties lt x) cs ≡ a ∷ filter (ties lt x) bs = rw t at (alike x) in cc
          by_test false t = rw t at (alike x)

  put_begins : (w v : Value) (ws : List Value) → lt v w ≡ false → Begins w ws → Begins w (put_sorted lt v ws)
  put_begins w v [] h b = h
  put_begins w v (u ∷ us) h b = by_test (lt u v) refl
    where
      by_test : (t : Bool) → lt u v ≡ t → Begins w (put_sorted lt v (u ∷ us))
      by_test true t = rw t b
      by_test false t = rw t h

  put_rises : (v : Value) (ws : List Value) → Rises ws → Rises (put_sorted lt v ws)
  put_rises v [] r = (tt, tt)
  put_rises v (w ∷ ws) r = by_test (put_rises v ws r.1) (lt w v) refl
    where
      by_test : Rises (put_sorted lt v ws) → (t : Bool) → lt w v ≡ t → Rises (put_sorted lt v (w ∷ ws))
      by_test again true t = rw t (put_begins w v ws (order.one_way w v t) r.0, again)
      by_test again false t = rw t (t, r)

  sorted_rises : (xs : List Value) → Rises (sorted lt xs)
  sorted_rises [] = tt
  sorted_rises (x ∷ xs) = put_rises x (sorted lt xs) (sorted_rises xs)

  -- what ties isn't passed by
  put_stable : (x v : Value) (ws : List Value) → filter (ties lt x) (put_sorted lt v ws) ≡ filter (ties lt x) (v ∷ ws)
  put_stable x v [] = refl
  put_stable x v (w ∷ ws) = by_test (put_stable x v ws) (lt w v) refl
    where
      by_ties : (p q : Bool) → ties lt x v ≡ p → ties lt x w ≡ q → lt w v ≡ true → cond q (w ∷ cond p (v ∷ filter (ties lt x) ws) (filter (ties lt x) ws)) (cond p (v ∷ filter (ties lt x) ws) (filter (ties lt x) ws)) ≡ cond p (v ∷ cond q (w ∷ filter (ties lt x) ws) (filter (ties lt x) ws)) (cond q (w ∷ filter (ties lt x) ws) (filter (ties lt x) ws))
      by_ties false q p_is q_is less = refl
      by_ties true false p_is q_is less = refl
      by_ties true true p_is q_is less =
          let no_less : lt w v ≡ false = order.chain w x v (parts (lt x w) (lt w x) q_is).1 (parts (lt x v) (lt v x) p_is).0 in absurd (cc)

      by_test : filter (ties lt x) (put_sorted lt v ws) ≡ filter (ties lt x) (v ∷ ws) → (t : Bool) → lt w v ≡ t → filter (ties lt x) (put_sorted lt v (w ∷ ws)) ≡ filter (ties lt x) (v ∷ w ∷ ws)
      by_test again true t = rw (t, again) (by_ties (ties lt x v) (ties lt x w) refl refl t)
      by_test again false t = rw t refl

  sorted_stable : (x : Value) (xs : List Value) → filter (ties lt x) (sorted lt xs) ≡ filter (ties lt x) xs
  sorted_stable x [] = refl
  sorted_stable x (v ∷ vs) = put_stable x v (sorted lt vs) ∙ ap (λ l. cond (ties lt x v) (v ∷ l) l) (sorted_stable x vs)

  pub sorts : (xs ys : List Value) → IsSortedBy lt ys → IsStableBy lt xs ys → ys ≡ sorted lt xs
  sorts xs ys up stable = unique ys (sorted lt xs) (rises ys up) (sorted_rises xs) (λ x. stable x ∙ sym (sorted_stable x xs))

-- the same of a sort by a closure that answers as an order does
pub sorts_by : {F : Type 0} {g : Mut F (Bor Value × (Bor Value × Unit {0})) Ordering} {f : F} (cmp : Value → Value → Ordering) → IsStrictWeakOrder (λ x y. is_lt (cmp x y)) → (xs ys : List Value)
    → IsSortedByClosure g f ys → IsStableByClosure g f xs ys
    → ((a : Bor Value × (Bor Value × Unit {0})) (r : Ordering) (f' : F) → Called g f a r f' → (r ≡ cmp a.0.now a.1.0.now) × (f' ≡ f))
    → ys ≡ sorted (λ x y. is_lt (cmp x y)) xs
sorts_by {g = g} {f = f} cmp order xs ys up stable h =
    let lt = λ (x y : Value). is_lt (cmp x y) in
    let answers = always_returns_same g (λ a r. is_lt r ≡ lt a.0.now a.1.0.now) f (λ a r f' k. (ap is_lt (h a r f' k).0, (h a r f' k).1)) in
    sorts lt order xs ys (up lt order answers) (stable lt order answers)
