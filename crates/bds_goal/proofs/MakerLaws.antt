-- Each file has one maker at most, which the table tells.
use Rattle.std.proofs.Common.{◌≡◌, ℕ, zero, suc, ◌+◌, Bool, true, false, ◌||◌, List, [], ◌∷◌, ◌++◌, length, Option, Some, None, refl, sym, ap, ◌∙◌, subst, arith, nat_eq, if◌then◌else◌}
use Rattle.std.proofs.lemmas.Bool.{eq-eqb, eqb-true, false≢true}
use Rattle.std.proofs.lemmas.Slice.Eq.{bytes_eq-Decides}
use Rattle.std.specs.Option.{is_some, unwrap_or}
use Rattle.std.specs.Str.{bytes_eq}
use Rattle.bds_rules.specs.declared.rule.Rule.{Rule}
use Rattle.bds_rules.specs.Makers.{is_among, maker, maker_from, made_already, made_by}
use Rattle.bds_rules.specs.Own.{AreOwn}
use Rattle.bds_goal.specs.Goals.{Makes, outputs}

pub or_left : (a b : Bool) → a ≡ true → a || b ≡ true
or_left a b e = ap (λ x. x || b) e

pub or_right : (a b : Bool) → b ≡ true → a || b ≡ true
or_right true b e = refl
or_right false b e = e

-- equality of numbers, by their makers

pub same_bool : (a b : Bool) → (a ≡ true → b ≡ true) → (b ≡ true → a ≡ true) → a ≡ b
same_bool true b f g = sym (f refl)
same_bool false true f g = g refl
same_bool false false f g = refl

pub later_isnt : (k : ℕ) → nat_eq (suc k) 0 ≡ false
later_isnt k = same_bool (nat_eq (suc k) 0) false (λ e. let is = eqb-true (suc k) 0 e in let never : ⊥ = omega arith in elim never [ ]) (λ e. elim (false≢true e) [ ])

pub first_isnt : (k : ℕ) → nat_eq 0 (suc k) ≡ false
first_isnt k = same_bool (nat_eq 0 (suc k)) false (λ e. let is = eqb-true 0 (suc k) e in let never : ⊥ = omega arith in elim never [ ]) (λ e. elim (false≢true e) [ ])

pub both_later : (k i : ℕ) → nat_eq (suc k) (suc i) ≡ nat_eq k i
both_later k i = same_bool (nat_eq (suc k) (suc i)) (nat_eq k i)
    (λ e. let is = eqb-true (suc k) (suc i) e in let less : k ≡ i = omega arith in eq-eqb k i less)
    (λ e. eq-eqb (suc k) (suc i) (ap suc (eqb-true k i e)))

pub Some≢None : {X : Type 0} (x : X) → ◌≡◌ {A = Option X} (Some x) None → ⊥
Some≢None x e = false≢true (sym (ap is_some e))

pub some_is : {X : Type 0} (x y : X) → ◌≡◌ {A = Option X} (Some x) (Some y) → x ≡ y
some_is x y e = ap (λ o. unwrap_or o x) e

pub same_bytes : (a b : List ℕ) → bytes_eq a b ≡ true → a ≡ b
same_bytes a b e = (bytes_eq-Decides a b).0 e

pub itself : (a : List ℕ) → bytes_eq a a ≡ true
itself a = (bytes_eq-Decides a a).1 refl

none_makes : (k : ℕ) (rules : List Rule) (f : List ℕ) → maker_from k rules f ≡ None → (i : ℕ) → is_among (outputs rules (suc i)) f ≡ false
none_makes k [] f e i = refl
none_makes k (r ∷ rs) f e i = go (none_makes (k + 1) rs f) (is_among r.outs f) refl e i
  where
    go : (maker_from (k + 1) rs f ≡ None → (i : ℕ) → is_among (outputs rs (suc i)) f ≡ false) → (b : Bool) → is_among r.outs f ≡ b → (if b then Some k else maker_from (k + 1) rs f) ≡ None → (i : ℕ) → is_among (outputs (r ∷ rs) (suc i)) f ≡ false
    go more true d h i = elim (Some≢None k h) [ ]
    go more false d h zero = d
    go more false d h (suc i) = more h i

maker_makes : (k : ℕ) (rules : List Rule) (f : List ℕ) (s : ℕ) → maker_from k rules f ≡ Some s → (i : ℕ) × ((s ≡ k + i) × (is_among (outputs rules (suc i)) f ≡ true))
maker_makes k [] f s e = elim (Some≢None s (sym e)) [ ]
maker_makes k (r ∷ rs) f s e = go (maker_makes (k + 1) rs f s) (is_among r.outs f) refl e
  where
    go : (maker_from (k + 1) rs f ≡ Some s → (i : ℕ) × ((s ≡ k + 1 + i) × (is_among (outputs rs (suc i)) f ≡ true))) → (b : Bool) → is_among r.outs f ≡ b → (if b then Some k else maker_from (k + 1) rs f) ≡ Some s → (i : ℕ) × ((s ≡ k + i) × (is_among (outputs (r ∷ rs) (suc i)) f ≡ true))
    go more true d h = let e : k ≡ s = some_is k s h in (zero, (omega arith, d))
    go more false d h = let m = more h in let e : s ≡ k + 1 + m.0 = m.1.0 in (suc m.0, (omega arith, m.1.1))

pub made_by_maker : (rules : List Rule) (f : List ℕ) (s : ℕ) → maker rules f ≡ Some s → Makes rules s f
made_by_maker rules f s e =
    let m = maker_makes 1 rules f s e in
    let is : s ≡ 1 + m.0 = m.1.0 in
    let more : suc m.0 ≡ s = omega arith in
    subst (λ n. Makes rules n f) more m.1.1

not_made : (rules : List Rule) (files : List (List ℕ)) (f : List ℕ) → made_already rules files ≡ None → is_among files f ≡ true → maker rules f ≡ None
not_made rules [] f e a = elim (false≢true a) [ ]
not_made rules (g ∷ gs) f e a = go (not_made rules gs f) (maker rules g) refl e (bytes_eq g f) refl a
  where
    go : (made_already rules gs ≡ None → is_among gs f ≡ true → maker rules f ≡ None) → (o : Option ℕ) → maker rules g ≡ o → made_by g o (made_already rules gs) ≡ None → (b : Bool) → bytes_eq g f ≡ b → b || is_among gs f ≡ true → maker rules f ≡ None
    go more (Some n) d h b is or = elim (Some≢None (g, n) h) [ ]
    go more None d h true is or = subst (λ x. maker rules x ≡ None) (same_bytes g f is) d
    go more None d h false is or = more h or

outputs_more : (before : List Rule) (r : Rule) (i : ℕ) (f : List ℕ) → is_among (outputs before (suc i)) f ≡ true → is_among (outputs (before ++ r ∷ []) (suc i)) f ≡ true
outputs_more [] r i f a = elim (false≢true a) [ ]
outputs_more (x ∷ xs) r zero f a = a
outputs_more (x ∷ xs) r (suc i) f a = outputs_more xs r i f a

outputs_last : (before : List Rule) (r : Rule) (f : List ℕ) → is_among r.outs f ≡ true → is_among (outputs (before ++ r ∷ []) (suc (length before))) f ≡ true
outputs_last [] r f a = a
outputs_last (x ∷ xs) r f a = outputs_last xs r f a

apart : (before rules : List Rule) → AreOwn before rules → (i j : ℕ) (f : List ℕ) → is_among (outputs before (suc i)) f ≡ true → is_among (outputs rules (suc j)) f ≡ true → ⊥
apart before [] own i j f a b = false≢true b
apart before (r ∷ rs) own i zero f a b = false≢true (sym (none_makes 1 before f (not_made before r.outs f own.0 b) i) ∙ a)
apart before (r ∷ rs) own i (suc j) f a b = apart (before ++ r ∷ []) rs own.1 i j f (outputs_more before r i f a) b

one_at : (before rules : List Rule) → AreOwn before rules → (i j : ℕ) (f : List ℕ) → is_among (outputs rules (suc i)) f ≡ true → is_among (outputs rules (suc j)) f ≡ true → i ≡ j
one_at before [] own i j f a b = elim (false≢true a) [ ]
one_at before (r ∷ rs) own zero zero f a b = refl
one_at before (r ∷ rs) own zero (suc j) f a b = elim (apart (before ++ r ∷ []) rs own.1 (length before) j f (outputs_last before r f a) b) [ ]
one_at before (r ∷ rs) own (suc i) zero f a b = elim (apart (before ++ r ∷ []) rs own.1 (length before) i f (outputs_last before r f b) a) [ ]
one_at before (r ∷ rs) own (suc i) (suc j) f a b = ap suc (one_at (before ++ r ∷ []) rs own.1 i j f a b)

pub one_maker : (rules : List Rule) → AreOwn [] rules → (n m : ℕ) (f : List ℕ) → Makes rules n f → Makes rules m f → n ≡ m
one_maker rules own zero m f a b = elim (false≢true a) [ ]
one_maker rules own (suc i) zero f a b = elim (false≢true b) [ ]
one_maker rules own (suc i) (suc j) f a b = ap suc (one_at [] rules own i j f a b)

pub no_maker : (rules : List Rule) (f : List ℕ) (n : ℕ) → maker rules f ≡ None → Makes rules n f → ⊥
no_maker rules f zero e a = false≢true a
no_maker rules f (suc i) e a = false≢true (sym (none_makes 1 rules f e i) ∙ a)

pub maker_is : (rules : List Rule) → AreOwn [] rules → (n : ℕ) (f : List ℕ) → Makes rules n f → maker rules f ≡ Some n
maker_is rules own n f a = go (maker rules f) refl
  where
    go : (o : Option ℕ) → maker rules f ≡ o → maker rules f ≡ Some n
    go None e = elim (no_maker rules f n e a) [ ]
    go (Some s) e = e ∙ ap Some (one_maker rules own s n f (made_by_maker rules f s e) a)
