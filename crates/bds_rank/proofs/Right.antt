-- A turn is that of a thread that is there and ready: what the choice of a thread, and a thread that goes on, give.
use Rattle.std.proofs.Common.{◌≡◌, ◌∙◌, ◌⊎◌, inl, inr, ℕ, zero, suc, ◌+◌, Bool, true, false, ◌||◌, List, [], ◌∷◌, ◌++◌}
use Rattle.std.proofs.Common.{Some, sym, ap, refl, subst, arith, if◌then◌else◌}
use Rattle.std.specs.Prelude.{slice_get, nat_eq}
use Rattle.std.proofs.lemmas.Bool.{eq-eqb, eqb-true, or_cases, false≢true}
use Rattle.bds_value.specs.declared.value.Stamp.{Stamp}
use Rattle.bds_host.specs.Asks.{has}
use Rattle.bds_tasks.specs.Tasks.{one_where}
use Rattle.bds_schedule.specs.Configuration.{Life, Ready, Thread, Configuration, Mode, turn_of, in_mode, lives}
use Rattle.bds_schedule.specs.Configuration.{with_life_from, becomes}
use Rattle.bds_schedule.specs.Waiting.{is_ready_in, ready, threads_from}
use Rattle.bds_goal.proofs.MakerLaws.{some_is}
use Rattle.bds_rank.specs.Keeping.{IsTurnOfReady}
use Rattle.bds_rank.specs.Lessening.{IsNoTurn}

abbrev turn_number : Mode → ℕ
turn_number (turn_of k stamps) = k
turn_number m = 0

module _ {S : Type 0} where
  -- where it is no turn
  pub no_turn : (c : Configuration S) → IsNoTurn c.mode → IsTurnOfReady c
  no_turn c none k stamps is = absurd (subst IsNoTurn is none)

  at_turn : (c : Configuration S) (k : ℕ) (t : Thread S) → slice_get c.threads k ≡ Some t
      → is_ready_in c t.life ≡ true → turn_number c.mode ≡ k → IsTurnOfReady c
  at_turn c k t there right number k' stamps is =
      let e : k ≡ k' = sym number
      ∙ ap turn_number is in (t, subst (λ j. slice_get c.threads j ≡ Some t) e there, right)

  set_there : (n i k : ℕ) (life : Life S) (ts : List (Thread S)) (t : Thread S) → k ≡ n + i
      → slice_get ts i ≡ Some t → slice_get (with_life_from n k life ts) i ≡ Some (lives life t)
  set_there n i k life [] t is there = absurd (cc there)
  set_there n zero k life (y ∷ ys) t is there =
      ap (λ b. Some (if b then lives life y else y)) (eq-eqb n k (omega arith))
      ∙ ap (λ x. Some (lives life x)) (some_is y t there)
  set_there n (suc i) k life (y ∷ ys) t is there = set_there (n + 1) i k life ys t (omega arith) there

  -- a thread that goes on in its turn
  pub goes_right : (k : ℕ) (s : S) (c : Configuration S) (t : Thread S) → slice_get c.threads k ≡ Some t
      → IsTurnOfReady (becomes k (Ready s) (turn_of k []) c)
  goes_right k s c t there =
      at_turn (becomes k (Ready s) (turn_of k []) c) k (lives (Ready s) t)
      (set_there 0 k k (Ready s) c.threads t (omega arith) there) refl refl

  -- one stamp more
  pub stamp_right : (k : ℕ) (stamps more : List Stamp) (c : Configuration S) → c.mode ≡ turn_of k stamps
      → IsTurnOfReady c → IsTurnOfReady (in_mode (turn_of k more) c)
  stamp_right k stamps more c is right =
      let w = right k stamps is in at_turn (in_mode (turn_of k more) c) k w.0 w.1 w.2 refl

  -- a thread of a list of numbers
  record Found (n : ℕ) (test : Thread S → Bool) (ts : List (Thread S)) (k : ℕ) : Type 0 where
    place : ℕ
    thread : Thread S
    number : k ≡ n + place
    there : slice_get ts place ≡ Some thread
    passed : test thread ≡ true

  behind : (n k : ℕ) (test : Thread S → Bool) (t : Thread S) (ts : List (Thread S)) → Found (n + 1) test ts k
      → Found n test (t ∷ ts) k
  behind n k test t ts f =
      record {
        place = suc f.place;
        thread = f.thread;
        number = let e = f.number in omega arith;
        there = f.there;
        passed = f.passed;
      }

  found : (n k : ℕ) (test : Thread S → Bool) (ts : List (Thread S)) → has (threads_from n test ts) k ≡ true
      → Found n test ts k
  found n k test [] h = absurd (false≢true h)
  found n k test (t ∷ ts) h = go (λ h. behind n k test t ts (found (n + 1) k test ts h)) (test t) refl h
    where
      here : (has (threads_from (n + 1) test ts) k ≡ true → Found n test (t ∷ ts) k) → test t ≡ true
          → (nat_eq n k ≡ true) ⊎ (has (threads_from (n + 1) test ts) k ≡ true) → Found n test (t ∷ ts) k
      here rest is (inl same) =
          record {
            place = 0;
            thread = t;
            number = let e : n ≡ k = eqb-true n k same in omega arith;
            there = refl;
            passed = is;
          }
      here rest is (inr h) = rest h

      go : (has (threads_from (n + 1) test ts) k ≡ true → Found n test (t ∷ ts) k) → (b : Bool) → test t ≡ b
          → has (one_where b n ++ threads_from (n + 1) test ts) k ≡ true → Found n test (t ∷ ts) k
      go rest true is h = here rest is (or_cases (nat_eq n k) _ h)
      go rest false is h = rest h

  -- a thread that was chosen among the ready ones
  pub chosen_right : (k : ℕ) (c : Configuration S) → has (ready c) k ≡ true → IsTurnOfReady (in_mode (turn_of k []) c)
  chosen_right k c h =
      let f = found 0 k (λ t. is_ready_in c t.life) c.threads h in
      let same : f.place ≡ k = let e = f.number in omega arith in
      at_turn (in_mode (turn_of k []) c) k f.thread
      (subst (λ j. slice_get c.threads j ≡ Some f.thread) same f.there) f.passed refl

  -- one that is ready alone
  pub one_ready : (k : ℕ) (c : Configuration S) → k ∷ [] ≡ ready c → has (ready c) k ≡ true
  one_ready k c is = subst (λ l. has l k ≡ true) is (ap (λ b. b || false) (eq-eqb k k refl))
