-- Lists of threads: what is told of related ones is the same.
use Rattle.std.proofs.Common.{◌≡◌, ℕ, zero, suc, ◌+◌, ◌<◌, Bool, true, false, List, [], ◌∷◌, ◌++◌, length, Option, Some, None, slice_get, refl, sym, ap, ◌∙◌, subst, arith}
use Rattle.std.specs.Prelude.{nat_eq, map, ◌&&◌, if◌then◌else◌}
use Rattle.std.specs.List.{list_all}
use Rattle.bds_tasks.specs.Tasks.{one_where, made_by as tasks_made_by}
use Rattle.bds_tasks.specs.Waits.{wait_state as tasks_waited}
use Rattle.bds_schedule.specs.Configuration.{Life, Thread, Configuration, lives, with_life_from}
use Rattle.bds_schedule.specs.Ids.{Id, of_task, of_thread, tasks_in, threads_in}
use Rattle.bds_schedule.specs.Requests.{ThreadAct}
use Rattle.bds_schedule.specs.Waiting.{with_ended, is_over, is_at_end, has_ended, thread_ended, wait_state, is_ready_in, threads_from, ready, threads_behind, made_by}
use Rattle.bds_sim.specs.schedule.Related.{SameLife, SameThreads}

same_number : (n m : ℕ) → n ≡ m → nat_eq n m ≡ true
same_number n m e = Rattle.std.proofs.lemmas.Bool.eq-eqb n m e

other_number : (n m : ℕ) → m < n → nat_eq n m ≡ false
other_number n m h = go (nat_eq n m) refl
  where
    go : (b : Bool) → nat_eq n m ≡ b → nat_eq n m ≡ false
    go false e = e
    go true e = absurd (let q = Rattle.std.proofs.lemmas.Bool.eqb-true n m e in omega (arith, q, h))

module _ {S : Type 0} where
  abbrev one : ℕ → ℕ → Life S → Thread S → Thread S
  one n k life t = if nat_eq n k then lives life t else t

  twice_one : (b : Bool) (x y : Life S) (t : Thread S) → (if b then lives y (if b then lives x t else t) else (if b then lives x t else t)) ≡ (if b then lives y t else t)
  twice_one true x y t = refl
  twice_one false x y t = refl

  -- of two lives the last one stays
  pub twice : (n k : ℕ) (x y : Life S) (ts : List (Thread S)) → with_life_from n k y (with_life_from n k x ts) ≡ with_life_from n k y ts
  twice n k x y [] = refl
  twice n k x y (t ∷ ts) = ap (λ u. u ∷ with_life_from (n + 1) k y (with_life_from (n + 1) k x ts)) (twice_one (nat_eq n k) x y t) ∙ ap (λ us. one n k y t ∷ us) (twice (n + 1) k x y ts)

  past : (n k : ℕ) (x : Life S) (ts : List (Thread S)) → k < n → with_life_from n k x ts ≡ ts
  past n k x [] h = refl
  past n k x (t ∷ ts) h = ap (λ b. (if b then lives x t else t) ∷ with_life_from (n + 1) k x ts) (other_number n k h) ∙ ap (λ us. t ∷ us) (past (n + 1) k x ts (omega (arith, h)))

  idle_from : (n i k : ℕ) (x : Life S) (p : ℕ) (ts : List (Thread S)) → k ≡ n + i → slice_get ts i ≡ Some (record { parent = p; life = x }) → with_life_from n k x ts ≡ ts
  idle_from n i k x p [] e is = refl
  idle_from n zero k x p (t ∷ ts) e is =
      ap (λ b. (if b then lives x t else t) ∷ with_life_from (n + 1) k x ts) (same_number n k (omega (arith, e)))
      ∙ ap (λ us. lives x t ∷ us) (past (n + 1) k x ts (omega (arith, e)))
      ∙ ap (λ life. record { parent = t.parent; life = life } ∷ ts) (sym (ap (λ (u : Thread S). u.life) (let q : t ≡ record { parent = p; life = x } = cc is in q)))
  idle_from n (suc i) k x p (t ∷ ts) e is =
      ap (λ b. (if b then lives x t else t) ∷ with_life_from (n + 1) k x ts) (differs n k (omega (arith, e)))
      ∙ ap (λ us. t ∷ us) (idle_from (n + 1) i k x p ts (omega (arith, e)) is)
    where
      differs : (n m : ℕ) → n < m → nat_eq n m ≡ false
      differs n m h = go (nat_eq n m) refl
        where
          go : (b : Bool) → nat_eq n m ≡ b → nat_eq n m ≡ false
          go false e = e
          go true e = absurd (let q = Rattle.std.proofs.lemmas.Bool.eqb-true n m e in omega (arith, q, h))

  -- a thread that has this life already
  pub idle : (k : ℕ) (x : Life S) (p : ℕ) (ts : List (Thread S)) → slice_get ts k ≡ Some (record { parent = p; life = x }) → with_life_from 0 k x ts ≡ ts
  idle k x p ts is = idle_from 0 k k x p ts (omega arith) is

  at_from : (n i k : ℕ) (x : Life S) (p : ℕ) (y : Life S) (ts : List (Thread S)) → k ≡ n + i → slice_get ts i ≡ Some (record { parent = p; life = y }) → slice_get (with_life_from n k x ts) i ≡ Some (record { parent = p; life = x })
  at_from n i k x p y [] e is = absurd (cc is)
  at_from n zero k x p y (t ∷ ts) e is =
      ap (λ b. Some (if b then lives x t else t)) (same_number n k (omega (arith, e))) ∙ ap (λ q. Some (record { parent = q; life = x })) (ap (λ (u : Thread S). u.parent) (let q : t ≡ record { parent = p; life = y } = cc is in q))
  at_from n (suc i) k x p y (t ∷ ts) e is = at_from (n + 1) i k x p y ts (omega (arith, e)) is

  -- what a thread lives now
  pub at_life : (k : ℕ) (x : Life S) (p : ℕ) (y : Life S) (ts : List (Thread S)) → slice_get ts k ≡ Some (record { parent = p; life = y }) → slice_get (with_life_from 0 k x ts) k ≡ Some (record { parent = p; life = x })
  at_life k x p y ts is = at_from 0 k k x p y ts (omega arith) is

all_same : {X : Type 0} (P Q : X → Bool) → ((x : X) → P x ≡ Q x) → (xs : List X) → list_all P xs ≡ list_all Q xs
all_same P Q e [] = refl
all_same P Q e (x ∷ xs) = ap (λ b. b && list_all P xs) (e x) ∙ ap (λ b. Q x && b) (all_same P Q e xs)

module _ {S M : Type 0} (R F : S → M → Type 0) (source : S → ThreadAct S) (machine : M → ThreadAct M) where
  abbrev Are : List (Thread S) → List (Thread M) → Type 0
  Are ts us = SameThreads R F source machine ts us

  abbrev Life_is : Life S → Life M → Type 0
  Life_is x y = SameLife R F source machine x y

  same_one : (b : Bool) (x : Life S) (y : Life M) (t : Thread S) (u : Thread M) → Life_is x y → Life_is t.life u.life → Life_is (if b then lives x t else t).life (if b then lives y u else u).life
  same_one true x y t u h l = h
  same_one false x y t u h l = l

  same_parent : (b : Bool) (x : Life S) (y : Life M) (t : Thread S) (u : Thread M) → t.parent ≡ u.parent → (if b then lives x t else t).parent ≡ (if b then lives y u else u).parent
  same_parent true x y t u e = e
  same_parent false x y t u e = e

  -- related lives in the same place
  pub same_with : (n k : ℕ) (x : Life S) (y : Life M) (ts : List (Thread S)) (us : List (Thread M)) → Life_is x y → Are ts us → Are (with_life_from n k x ts) (with_life_from n k y us)
  same_with n k x y [] [] h a = tt
  same_with n k x y [] (u ∷ us) h a = absurd a
  same_with n k x y (t ∷ ts) [] h a = absurd a
  same_with n k x y (t ∷ ts) (u ∷ us) h a = (same_parent (nat_eq n k) x y t u a.0, same_one (nat_eq n k) x y t u h a.1, same_with (n + 1) k x y ts us h a.2)

  -- one more
  pub same_more : (p : ℕ) (x : Life S) (y : Life M) (ts : List (Thread S)) (us : List (Thread M)) → Life_is x y → Are ts us → Are (ts ++ record { parent = p; life = x } ∷ []) (us ++ record { parent = p; life = y } ∷ [])
  same_more p x y [] [] h a = (refl, h, tt)
  same_more p x y [] (u ∷ us) h a = absurd a
  same_more p x y (t ∷ ts) [] h a = absurd a
  same_more p x y (t ∷ ts) (u ∷ us) h a = (a.0, a.1, same_more p x y ts us h a.2)

  -- thread k of both
  pub data IsPair : Option (Thread S) → Option (Thread M) → Type 0 where
    none : IsPair None None
    both : (p : ℕ) (x : Life S) (y : Life M) → Life_is x y → IsPair (Some (record { parent = p; life = x })) (Some (record { parent = p; life = y }))

  pub pair_at : (ts : List (Thread S)) (us : List (Thread M)) (k : ℕ) → Are ts us → IsPair (slice_get ts k) (slice_get us k)
  pair_at [] [] k a = IsPair.none
  pair_at [] (u ∷ us) k a = absurd a
  pair_at (t ∷ ts) [] k a = absurd a
  pair_at (t ∷ ts) (u ∷ us) zero a = subst (λ p. IsPair (Some t) (Some (record { parent = p; life = u.life }))) a.0 (IsPair.both t.parent t.life u.life a.1)
  pair_at (t ∷ ts) (u ∷ us) (suc k) a = pair_at ts us k a.2

  pub same_length : (ts : List (Thread S)) (us : List (Thread M)) → Are ts us → length ts ≡ length us
  same_length [] [] a = refl
  same_length [] (u ∷ us) a = absurd a
  same_length (t ∷ ts) [] a = absurd a
  same_length (t ∷ ts) (u ∷ us) a = ap (λ n. suc n) (same_length ts us a.2)

  same_end : (x : Life S) (y : Life M) → Life_is x y → is_at_end x ≡ is_at_end y
  same_end _ _ (SameLife.ready s m h) = refl
  same_end _ _ (SameLife.waits ids s m h) = refl
  same_end _ _ (SameLife.closes ids s m h) = refl
  same_end _ _ SameLife.ended = refl

  same_ended : (ts : List (Thread S)) (us : List (Thread M)) → Are ts us → (k : ℕ) → thread_ended ts k ≡ thread_ended us k
  same_ended [] [] a k = refl
  same_ended [] (u ∷ us) a k = absurd a
  same_ended (t ∷ ts) [] a k = absurd a
  same_ended (t ∷ ts) (u ∷ us) a zero = same_end t.life u.life a.1
  same_ended (t ∷ ts) (u ∷ us) a (suc k) = same_ended ts us a.2 k

  pub same_all_ended : (ts : List (Thread S)) (us : List (Thread M)) → Are ts us → list_all (λ (t : Thread S). has_ended t) ts ≡ list_all (λ (u : Thread M). has_ended u) us
  same_all_ended [] [] a = refl
  same_all_ended [] (u ∷ us) a = absurd a
  same_all_ended (t ∷ ts) [] a = absurd a
  same_all_ended (t ∷ ts) (u ∷ us) a = ap (λ b. b && list_all (λ (t : Thread S). has_ended t) ts) (same_end t.life u.life a.1) ∙ ap (λ b. is_at_end u.life && b) (same_all_ended ts us a.2)

  module _ (c : Configuration S) (d : Configuration M) (tasks : c.tasks ≡ d.tasks) (a : Are c.threads d.threads) where
    pub same_wait : (ids : List Id) → wait_state c ids ≡ wait_state d ids
    same_wait ids =
        ap (λ b. with_ended b (tasks_waited c.tasks (tasks_in ids))) (all_same (thread_ended c.threads) (thread_ended d.threads) (same_ended c.threads d.threads a) (threads_in ids))
        ∙ ap (λ ts. with_ended (list_all (thread_ended d.threads) (threads_in ids)) (tasks_waited ts (tasks_in ids))) tasks

    same_ready_in : (x : Life S) (y : Life M) → Life_is x y → is_ready_in c x ≡ is_ready_in d y
    same_ready_in _ _ (SameLife.ready s m h) = refl
    same_ready_in _ _ (SameLife.waits ids s m h) = ap is_over (same_wait ids)
    same_ready_in _ _ (SameLife.closes ids s m h) = ap is_over (same_wait ids)
    same_ready_in _ _ SameLife.ended = refl

    same_ready_from : (n : ℕ) (ts : List (Thread S)) (us : List (Thread M)) → Are ts us → threads_from n (λ t. is_ready_in c t.life) ts ≡ threads_from n (λ u. is_ready_in d u.life) us
    same_ready_from n [] [] h = refl
    same_ready_from n [] (u ∷ us) h = absurd h
    same_ready_from n (t ∷ ts) [] h = absurd h
    same_ready_from n (t ∷ ts) (u ∷ us) h =
        ap (λ b. one_where b n ++ threads_from (n + 1) (λ t. is_ready_in c t.life) ts) (same_ready_in t.life u.life h.1)
        ∙ ap (λ l. one_where (is_ready_in d u.life) n ++ l) (same_ready_from (n + 1) ts us h.2)

    pub same_ready : ready c ≡ ready d
    same_ready = same_ready_from 0 c.threads d.threads a

    same_made_from : (n k : ℕ) (ts : List (Thread S)) (us : List (Thread M)) → Are ts us → threads_from n (λ t. nat_eq t.parent k) ts ≡ threads_from n (λ u. nat_eq u.parent k) us
    same_made_from n k [] [] h = refl
    same_made_from n k [] (u ∷ us) h = absurd h
    same_made_from n k (t ∷ ts) [] h = absurd h
    same_made_from n k (t ∷ ts) (u ∷ us) h =
        ap (λ p. one_where (nat_eq p k) n ++ threads_from (n + 1) (λ t. nat_eq t.parent k) ts) h.0
        ∙ ap (λ l. one_where (nat_eq u.parent k) n ++ l) (same_made_from (n + 1) k ts us h.2)

    same_behind : (k : ℕ) (ts : List (Thread S)) (us : List (Thread M)) → Are ts us → threads_behind k ts ≡ threads_behind k us
    same_behind k [] [] h = refl
    same_behind k [] (u ∷ us) h = absurd h
    same_behind k (t ∷ ts) [] h = absurd h
    same_behind k (t ∷ ts) (u ∷ us) h = same_made_from 1 k ts us h.2

    pub same_made : (k : ℕ) → made_by c k ≡ made_by d k
    same_made k =
        ap (λ ts. map of_task (tasks_made_by k ts) ++ map of_thread (threads_behind k c.threads)) tasks
        ∙ ap (λ l. map of_task (tasks_made_by k d.tasks) ++ map of_thread l) (same_behind k c.threads d.threads a)
