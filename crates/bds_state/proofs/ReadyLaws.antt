-- The least ready thread above one is the first that is found from there on.
use Rattle.std.proofs.Common.{◌≡◌, ◌+◌, ◌-◌, ◌<◌, ◌≤◌, ℕ, zero, suc, Bool, true, false, List, [], ◌∷◌, ◌++◌, drop, cond}
use Rattle.std.proofs.Common.{filter, length, slice_get, Option, Some, None, arith, refl, sym, ap, ◌∙◌, subst}
use Rattle.std.proofs.lemmas.Bool.{le-ltb, lt-ltb}
use Rattle.bds_code_frames.specs.declared.thread.Thread.{Thread}
use Rattle.bds_tasks.specs.Starts.{first}
use Rattle.bds_tasks.specs.Tasks.{one_where}
use Rattle.bds_tasks.specs.declared.task.Task.{Task}
use Rattle.bds_state.specs.Held.{AreHeld}
use Rattle.bds_state.specs.Holding.{ArePassed, HasHolder}
use Rattle.bds_state.specs.Parts.{Parts}
use Rattle.bds_state.specs.Ready.{FindsReady, is_above, is_ready, numbers_from}
use Rattle.bds_state.proofs.HeldLaws.{held_waits}
use Rattle.bds_state.proofs.Places.{same_item}

filter_all : (ns : List ℕ) → filter (is_above None) ns ≡ ns
filter_all [] = refl
filter_all (n ∷ ns) = ap (λ ms. n ∷ ms) (filter_all ns)

pub ready_of_all : (test : Thread → Bool) (ts : List Thread)
    → filter (is_above None) (numbers_from 0 test ts) ≡ numbers_from 0 test (drop 0 ts)
ready_of_all test ts = filter_all (numbers_from 0 test ts)

-- numbers that pass stay, and others go
passing : (p : ℕ → Bool) (b : Bool) (n : ℕ) (ns : List ℕ) → p n ≡ true
    → filter p (one_where b n ++ ns) ≡ one_where b n ++ filter p ns
passing p true n ns e = ap (λ c. cond c (n ∷ filter p ns) (filter p ns)) e
passing p false n ns e = refl

failing : (p : ℕ → Bool) (b : Bool) (n : ℕ) (ns : List ℕ) → p n ≡ false → filter p (one_where b n ++ ns) ≡ filter p ns
failing p true n ns e = ap (λ c. cond c (n ∷ filter p ns) (filter p ns)) e
failing p false n ns e = refl

all_above : (test : Thread → Bool) (after i : ℕ) (ts : List Thread) → after < i
    → filter (is_above (Some after)) (numbers_from i test ts) ≡ numbers_from i test ts
all_above test after i [] l = refl
all_above test after i (t ∷ ts) l =
    passing (is_above (Some after)) (test t) i (numbers_from (i + 1) test ts) (lt-ltb after i l)
    ∙ ap (λ ns. one_where (test t) i ++ ns) (all_above test after (i + 1) ts (omega (arith, l)))

above_from : (test : Thread → Bool) (i k : ℕ) (ts : List Thread)
    → filter (is_above (Some (i + k))) (numbers_from i test ts) ≡ numbers_from (i + k + 1) test (drop (k + 1) ts)
above_from test i k [] = let one : k + 1 ≡ suc k = omega arith in rw one refl
above_from test i zero (t ∷ ts) =
    let here : i + zero ≡ i = omega arith in
    rw here (failing (is_above (Some i)) (test t) i (numbers_from (i + 1) test ts) (le-ltb i i (omega arith))
    ∙ all_above test i (i + 1) ts (omega arith))
above_from test i (suc k) (t ∷ ts) =
    let there : i + 1 + k ≡ i + suc k = omega arith in
    let one : suc k + 1 ≡ suc (k + 1) = omega arith in
    rw one (failing (is_above (Some (i + suc k))) (test t) i (numbers_from (i + 1) test ts)
    (le-ltb (i + suc k) i (omega arith))
    ∙ subst (λ j. filter (is_above (Some j)) (numbers_from (i + 1) test ts) ≡ numbers_from (j + 1) test
    (drop (k + 1) ts)) there (above_from test (i + 1) k ts))

pub ready_above : (test : Thread → Bool) (after : ℕ) (ts : List Thread)
    → filter (is_above (Some after)) (numbers_from 0 test ts) ≡ numbers_from (after + 1) test (drop (after + 1) ts)
ready_above test after ts =
    let same : 0 + after ≡ after = omega arith in
    subst (λ j. filter (is_above (Some j)) (numbers_from 0 test ts) ≡ numbers_from (j + 1) test (drop (after + 1) ts))
    same (above_from test 0 after ts)

-- One after the other

none_here : {X : Type 0} (before rest : List X) (k : X) → [] ≡ before ++ k ∷ rest → ⊥
none_here [] rest k e = absurd (cc)
none_here (b ∷ before) rest k e = absurd (cc)

-- a number among those from one on isn't below it, and those above it come behind
module _ (test : Thread → Bool) where
  least_from : (i : ℕ) (ts : List Thread) (before rest : List ℕ) (k : ℕ) → numbers_from i test ts ≡ before ++ k ∷ rest
      → i ≤ k
  least_from i [] before rest k e = absurd (none_here before rest k e)
  least_from i (t ∷ ts) before rest k e =
      least_next i (test t) ts before rest k (λ others d. least_from (i + 1) ts others rest k d) e
    where
      least_next : (i : ℕ) (b : Bool) (ts : List Thread) (before rest : List ℕ) (k : ℕ)
          → ((others : List ℕ) → numbers_from (i + 1) test ts ≡ others ++ k ∷ rest → i + 1 ≤ k)
          → one_where b i ++ numbers_from (i + 1) test ts ≡ before ++ k ∷ rest → i ≤ k
      least_next i false ts before rest k more e = let l = more before e in omega (arith, l)
      least_next i true ts [] rest k more e =
          let both : i ∷ numbers_from (i + 1) test ts ≡ k ∷ rest = e in
          let same : i ≡ k = cc in
          omega (arith, same)
      least_next i true ts (b ∷ before) rest k more e =
          let both : i ∷ numbers_from (i + 1) test ts ≡ b ∷ (before ++ k ∷ rest) = e in
          let others : numbers_from (i + 1) test ts ≡ before ++ k ∷ rest = cc in
          let l = more before others in
          omega (arith, l)

  behind_next : (i : ℕ) (b : Bool) (ts : List Thread) (before rest : List ℕ) (k : ℕ)
      → ((others : List ℕ) → numbers_from (i + 1) test ts ≡ others ++ k ∷ rest
      → filter (is_above (Some k)) (numbers_from (i + 1) test ts) ≡ rest)
      → one_where b i ++ numbers_from (i + 1) test ts ≡ before ++ k ∷ rest
      → filter (is_above (Some k)) (one_where b i ++ numbers_from (i + 1) test ts) ≡ rest
  behind_next i false ts before rest k more e = more before e
  behind_next i true ts [] rest k more e =
      let both : i ∷ numbers_from (i + 1) test ts ≡ k ∷ rest = e in
      let same : i ≡ k = cc in
      let others : numbers_from (i + 1) test ts ≡ rest = cc in
      failing (is_above (Some k)) true i (numbers_from (i + 1) test ts) (le-ltb k i (omega (arith, same)))
      ∙ all_above test k (i + 1) ts (omega (arith, same)) ∙ others
  behind_next i true ts (b ∷ before) rest k more e =
      let both : i ∷ numbers_from (i + 1) test ts ≡ b ∷ (before ++ k ∷ rest) = e in
      let others : numbers_from (i + 1) test ts ≡ before ++ k ∷ rest = cc in
      let l : i + 1 ≤ k = least_from (i + 1) ts before rest k others in
      failing (is_above (Some k)) true i (numbers_from (i + 1) test ts) (le-ltb k i (omega (arith, l)))
      ∙ more before others

  behind_from : (i : ℕ) (ts : List Thread) (before rest : List ℕ) (k : ℕ) → numbers_from i test ts ≡ before ++ k ∷ rest
      → filter (is_above (Some k)) (numbers_from i test ts) ≡ rest
  behind_from i [] before rest k e = absurd (none_here before rest k e)
  behind_from i (t ∷ ts) before rest k e =
      behind_next i (test t) ts before rest k (λ others d. behind_from (i + 1) ts others rest k d) e

-- Threads that are held are passed over

module _ (test : Thread → Bool) where
  passed_one : (i n : ℕ) (ts : List Thread) → ((t : Thread) → slice_get ts n ≡ Some t → test t ≡ false)
      → numbers_from i test (drop n ts) ≡ numbers_from (i + 1) test (drop (suc n) ts)
  passed_one i zero [] h = refl
  passed_one i zero (t ∷ ts) h = ap (λ b. one_where b i ++ numbers_from (i + 1) test ts) (h t refl)
  passed_one i (suc n) [] h = refl
  passed_one i (suc n) (t ∷ ts) h = passed_one i n ts h

  passed_many : (d n : ℕ) (ts : List Thread)
      → ((k : ℕ) (t : Thread) → n ≤ k → k < n + d → slice_get ts k ≡ Some t → test t ≡ false)
      → numbers_from n test (drop n ts) ≡ numbers_from (n + d) test (drop (n + d) ts)
  passed_many zero n ts h =
      let same : n ≡ n + 0 = omega arith in
      subst (λ m. numbers_from n test (drop n ts) ≡ numbers_from m test (drop m ts)) same refl
  passed_many (suc d) n ts h =
      let one : n + 1 ≡ suc n = omega arith in
      let more : suc n + d ≡ n + suc d = omega arith in
      passed_one n n ts (λ t e. h n t (omega arith) (omega arith) e)
      ∙ subst (λ m. numbers_from (n + 1) test (drop (suc n) ts) ≡ numbers_from m test (drop (suc n) ts)) one refl
      ∙ subst (λ m. numbers_from (suc n) test (drop (suc n) ts) ≡ numbers_from m test (drop m ts)) more
      (passed_many d (suc n) ts (λ k t l r e. h k t (omega (arith, l)) (omega (arith, r)) e))

  passed_over : (held : List ℕ) (start end : ℕ) (ts : List Thread)
      → ((k n : ℕ) (t : Thread) → HasHolder held k n → slice_get ts k ≡ Some t → test t ≡ false)
      → ArePassed start end held
      → numbers_from start test (drop start ts) ≡ numbers_from end test (drop end ts)
  passed_over held start end ts waits p =
      let f : start ≤ end = p.further in
      let same : start + (end - start) ≡ end = omega (arith, f) in
      subst (λ m. numbers_from start test (drop start ts) ≡ numbers_from m test (drop m ts)) same
      (passed_many (end - start) start ts (λ k t l r e.
      let within : k < end = omega (arith, r, f) in
      let is = p.each k l within in
      waits k is.0 t is.1 e))

  none_past : (i n : ℕ) (ts : List Thread) → length ts ≤ n → None ≡ first (numbers_from i test (drop n ts))
  none_past i zero [] l = refl
  none_past i zero (t ∷ ts) l = let no : ⊥ = omega (arith, l) in elim no [ ]
  none_past i (suc n) [] l = refl
  none_past i (suc n) (t ∷ ts) l = none_past i n ts (omega (arith, l))

  one_there : (i n : ℕ) (ts : List Thread) (t : Thread) → slice_get ts n ≡ Some t → test t ≡ true
      → Some i ≡ first (numbers_from i test (drop n ts))
  one_there i n [] t e p = absurd (let none : ◌≡◌ {A = Option Thread} None (Some t) = nothing n ∙ e in cc)
    where
      nothing : (j : ℕ) → None ≡ slice_get {X = Thread} [] j
      nothing zero = refl
      nothing (suc j) = refl
  one_there i zero (u ∷ ts) t e p =
      let same : u ≡ t = cc in
      ap (λ b. first (one_where b i ++ numbers_from (i + 1) test ts)) (sym (ap test same ∙ p))
  one_there i (suc n) (u ∷ ts) t e p = one_there i n ts t e p

module _ (threads : List Thread) (tasks : List Task) where
  abbrev pub first_from : ℕ → Option ℕ
  first_from n = first (numbers_from n (λ (t : Thread). is_ready threads tasks t.status) (drop n threads))

  pub first_passed : (held : List ℕ) (start end : ℕ) → AreHeld threads tasks held → ArePassed start end held
      → first_from end ≡ first_from start
  first_passed held start end are p =
      ap first (sym (passed_over (λ t. is_ready threads tasks t.status) held start end threads
      (λ k n t h e. held_waits threads tasks held k n t are h e) p))

  -- one that isn't ready is passed over, and those behind it that are held
  pub first_next : (held : List ℕ) (n end : ℕ) (t : Thread) → slice_get threads n ≡ Some t
      → is_ready threads tasks t.status ≡ false → AreHeld threads tasks held → ArePassed (n + 1) end held
      → first_from end ≡ first_from n
  first_next held n end t e f are p =
      let one : n + 1 ≡ suc n = omega arith in
      first_passed held (n + 1) end are p
      ∙ ap first (subst (λ m. numbers_from (n + 1) (λ (x : Thread). is_ready threads tasks x.status) (drop m threads)
      ≡ numbers_from n (λ (x : Thread). is_ready threads tasks x.status) (drop n threads)) (sym one)
      (sym (passed_one (λ x. is_ready threads tasks x.status) n n threads (λ x d.
      ap (λ (y : Thread). is_ready threads tasks y.status) (same_item (slice_get threads n) x t d e) ∙ f))))

  pub first_there : (n : ℕ) (t : Thread) → slice_get threads n ≡ Some t → is_ready threads tasks t.status ≡ true
      → Some n ≡ first_from n
  first_there n t e p = one_there (λ x. is_ready threads tasks x.status) n n threads t e p

  pub first_none : (n : ℕ) → length threads ≤ n → None ≡ first_from n
  first_none n l = none_past (λ x. is_ready threads tasks x.status) n n threads l

pub finds_ready : (s : Parts) → FindsReady s
finds_ready s =
    let test = λ (t : Thread). is_ready s.threads s.tasks t.status in
    record {
      start = ap first (filter_all (numbers_from 0 test s.threads));
      next = λ before rest k e. ap first (behind_from test 0 s.threads before rest k e);
    }
