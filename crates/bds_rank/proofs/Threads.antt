-- What is left of threads, where one of them changes or one more is made.
use Rattle.std.proofs.Common.{◌≡◌, ◌∙◌, ℕ, zero, suc, ◌+◌, ◌-◌, ◌*◌, ◌<◌, ◌≤◌, List, [], ◌∷◌, ◌++◌, length, Some, ap}
use Rattle.std.proofs.Common.{refl, arith, if◌then◌else◌, length-append}
use Rattle.std.specs.Prelude.{slice_get, sum_by}
use Rattle.std.proofs.lemmas.Bool.{eq-eqb, ne_eqb}
use Rattle.std.proofs.lemmas.List.Sums.{sum_by-cons, sum_by-append}
use Rattle.bds_value.specs.declared.TheConstants.{MAX_THREADS}
use Rattle.bds_schedule.specs.Configuration.{Life, Thread, lives, with_life_from}
use Rattle.bds_goal.proofs.MakerLaws.{some_is}
use Rattle.bds_rank.specs.Left.{life_left, threads_left}

module _ {S : Type 0} where
  -- threads in front of the one that changes stay
  past : (n k : ℕ) (life : Life S) (ts : List (Thread S)) → k < n → with_life_from n k life ts ≡ ts
  past n k life [] less = refl
  past n k life (t ∷ ts) less =
      ap (λ b. (if b then lives life t else t) ∷ with_life_from (n + 1) k life ts)
      (ne_eqb n k (λ e. absurd (omega arith))) ∙ ap (λ us. t ∷ us) (past (n + 1) k life ts (omega arith))

  as_long : (n k : ℕ) (life : Life S) (ts : List (Thread S)) → length (with_life_from n k life ts) ≡ length ts
  as_long n k life [] = refl
  as_long n k life (t ∷ ts) = ap (λ n. suc n) (as_long (n + 1) k life ts)

  changed : (f : Thread S → ℕ) (n i k : ℕ) (life : Life S) (ts : List (Thread S)) (t : Thread S) → k ≡ n + i
      → slice_get ts i ≡ Some t → sum_by f (with_life_from n k life ts) + f t ≡ sum_by f ts + f (lives life t)
  changed f n i k life [] t is there = absurd (cc there)
  changed f n zero k life (y ∷ ys) t is there =
      let here : with_life_from n k life (y ∷ ys) ≡ lives life y ∷ ys =
      ap (λ b. (if b then lives life y else y) ∷ with_life_from (n + 1) k life ys) (eq-eqb n k (omega arith))
      ∙ ap (λ us. lives life y ∷ us) (past (n + 1) k life ys (omega arith)) in
      let same : y ≡ t = some_is y t there in
      let a : sum_by f (with_life_from n k life (y ∷ ys)) ≡ f (lives life t) + sum_by f ys =
      ap (sum_by f) here ∙ sum_by-cons f (lives life y) ys ∙ ap (λ x. f (lives life x) + sum_by f ys) same in
      let b : sum_by f (y ∷ ys) ≡ f t + sum_by f ys =
      sum_by-cons f y ys ∙ ap (λ x. f x + sum_by f ys) same in omega arith
  changed f n (suc i) k life (y ∷ ys) t is there =
      let here : with_life_from n k life (y ∷ ys) ≡ y ∷ with_life_from (n + 1) k life ys =
      ap (λ b. (if b then lives life y else y) ∷ with_life_from (n + 1) k life ys)
      (ne_eqb n k (λ e. absurd (omega arith))) in
      let a : sum_by f (with_life_from n k life (y ∷ ys)) ≡ f y + sum_by f (with_life_from (n + 1) k life ys) =
      ap (sum_by f) here ∙ sum_by-cons f y (with_life_from (n + 1) k life ys) in
      let b = sum_by-cons f y ys in
      let more = changed f (n + 1) i k life ys t (omega arith) there in omega arith

  module _ (weight : S → ℕ) where
    abbrev thread_left : Thread S → ℕ
    thread_left t = life_left weight t.life

    -- one thread changes
    pub changed_left : (k : ℕ) (life : Life S) (ts : List (Thread S)) (t : Thread S) → slice_get ts k ≡ Some t
        → threads_left weight (with_life_from 0 k life ts) + life_left weight t.life ≡ threads_left weight ts +
        life_left weight life
    unfolding threads_left
    changed_left k life ts t there =
        let e : sum_by thread_left (with_life_from 0 k life ts) + life_left weight t.life ≡ sum_by thread_left ts +
        life_left weight life =
        changed thread_left 0 k k life ts t (omega arith) there in
        let f : (MAX_THREADS - length (with_life_from 0 k life ts)) * 67108867 ≡ (MAX_THREADS - length ts) *
        67108867 =
        ap (λ n. (MAX_THREADS - n) * 67108867) (as_long 0 k life ts) in omega arith

    -- one more
    pub more_left : (ts : List (Thread S)) (t : Thread S) → length ts < MAX_THREADS
        → life_left weight t.life ≤ 67108866 → threads_left weight (ts ++ t ∷ []) < threads_left weight ts
    unfolding threads_left
    more_left ts t room few =
        let a = sum_by-append thread_left ts (t ∷ []) in
        let b = sum_by-cons thread_left t [] in
        let n : length (ts ++ t ∷ []) ≡ length ts + 1 = length-append ts (t ∷ []) in
        let less : (MAX_THREADS - length (ts ++ t ∷ [])) + 1 ≡ MAX_THREADS - length ts = omega arith in
        let none : sum_by thread_left [] ≡ 0 = refl in omega arith
