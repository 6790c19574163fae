-- Steps without an ask: how far they lead, and a turn's steps as steps of a configuration.
use Rattle.std.proofs.Common.{◌≡◌, ℕ, zero, suc, ◌+◌, ◌-◌, ◌≤◌, true, List, [], Some, slice_get, refl, sym, ap, ◌∙◌, subst, arith}
use Rattle.std.specs.Prelude.{nat_lt}
use Rattle.bds_schedule.specs.Configuration.{Ready, Thread, Configuration, turn_of, with_life_from}
use Rattle.bds_schedule.specs.Moves.{move}
use Rattle.bds_schedule.specs.Requests.{ThreadAct}
use Rattle.bds_schedule.specs.Stages.{End}
use Rattle.bds_schedule.specs.Steps.{Step, Asks, Ends}
use Rattle.bds_schedule.specs.Steps.{Goes as Moves}
use Rattle.bds_schedule.specs.Turns.{taken, ticked, turn_at}
use Rattle.bds_sim.specs.schedule.Agree.{Walks}
use Rattle.bds_sim.specs.schedule.Related.{Plain}
use Rattle.bds_sim.specs.schedule.Runs.{onward, upto, IsSettled}
use Rattle.bds_sim.proofs.schedule.Taken.{conf}
use Rattle.bds_sim.proofs.schedule.Threads.{twice, idle, at_life}

module _ {C E : Type 0} (next : C → Step C E) where
  longer_by : (x : Step C E) (n k : ℕ) → ((c : C) → IsSettled (upto next n c) → upto next (n + k) c ≡ upto next n c) → IsSettled (onward (upto next n) x) → onward (upto next (n + k)) x ≡ onward (upto next n) x
  longer_by (Moves c) n k rec h = rec c h
  longer_by (Asks a f) n k rec h = refl
  longer_by (Ends e) n k rec h = refl

  -- more steps change nothing of what is settled
  pub longer : (n k : ℕ) (c : C) → IsSettled (upto next n c) → upto next (n + k) c ≡ upto next n c
  longer zero k c h = absurd h
  longer (suc n) k c h = subst (λ m. upto next m c ≡ upto next (suc n) c) (let q : suc (n + k) ≡ suc n + k = omega arith in q) (longer_by (next c) n k (longer n k) h)

  -- steps lead from one to another
  pub record Silent (c d : C) : Type 0 where
    pub count : ℕ
    pub same : (n : ℕ) → upto next (count + n) c ≡ upto next n d

  pub stays : (c : C) → Silent c c
  stays c = record { count = 0; same = λ n. ap (λ m. upto next m c) (let q : 0 + n ≡ n = omega arith in q) }

  pub one_more : (c d e : C) → next c ≡ Moves d → Silent d e → Silent c e
  one_more c d e is s = record {
    count = suc s.count;
    same = λ n. ap (λ m. upto next m c) (let q : suc s.count + n ≡ suc (s.count + n) = omega arith in q) ∙ ap (onward (upto next (s.count + n))) is ∙ s.same n;
  }

  pub joined : (c d e : C) → Silent c d → Silent d e → Silent c e
  joined c d e s t = record {
    count = s.count + t.count;
    same = λ n. ap (λ m. upto next m c) (let q : s.count + t.count + n ≡ s.count + (t.count + n) = omega arith in q) ∙ s.same (t.count + n) ∙ t.same n;
  }

  -- what is settled behind such steps
  pub settled_on : (c d : C) → Silent c d → (n : ℕ) → IsSettled (upto next n c) → upto next n d ≡ upto next n c
  settled_on c d s n h = sym (s.same n) ∙ ap (λ m. upto next m c) (let q : s.count + n ≡ n + s.count = omega arith in q) ∙ longer n s.count c h

module _ {S : Type 0} (files : List (List ℕ)) (image : Configuration S → List ℕ) (step : S → ThreadAct S) where
  abbrev pub moves : Configuration S → Step (Configuration S) End
  moves c = move files image step c

  -- in the turn of thread k, with so many ticks used
  abbrev pub in_turn : ℕ → ℕ → Plain → Plain
  in_turn k used p = record { path = p.path; cpus = p.cpus; budget = p.budget; used = used; tasks = p.tasks; rules = p.rules; mode = turn_of k [] }

  -- the turn of a thread that goes on
  pub taken_at : (k used parent : ℕ) (s : S) (p : Plain) (ts : List (Thread S)) → slice_get ts k ≡ Some (record { parent = parent; life = Ready s })
      → moves (conf (in_turn k used p) ts) ≡ taken files image step k [] (conf (in_turn k used p) ts) (step s)
  taken_at k used parent s p ts is = ap (turn_at files image step k [] (conf (in_turn k used p) ts)) is

  -- a thread's steps in its turn are steps of the configuration
  pub walked : (k used parent : ℕ) (p : Plain) (ts : List (Thread S)) (s : S) (t : ℕ) (s' : S) → t ≤ p.budget - used → slice_get ts k ≡ Some (record { parent = parent; life = Ready s }) → Walks step s t s'
      → Silent moves (conf (in_turn k used p) ts) (conf (in_turn k (used + t) p) (with_life_from 0 k (Ready s') ts))
  walked k used parent p ts _ _ _ le is (Walks.here s) =
      subst (λ us. Silent moves (conf (in_turn k used p) ts) (conf (in_turn k (used + 0) p) us)) (sym (idle k (Ready s) parent ts is))
      (subst (λ n. Silent moves (conf (in_turn k used p) ts) (conf (in_turn k n p) ts)) (let q : used ≡ used + 0 = omega arith in q) (stays moves _))
  walked k used parent p ts _ _ _ le is (Walks.inner s n t s' e w) =
      let us : List (Thread S) = with_life_from 0 k (Ready n) ts in
      one_more moves _ (conf (in_turn k used p) us) _ (taken_at k used parent s p ts is ∙ ap (taken files image step k [] (conf (in_turn k used p) ts)) e)
      (subst (λ vs. Silent moves (conf (in_turn k used p) us) (conf (in_turn k (used + t) p) vs)) (twice 0 k (Ready n) (Ready s') ts)
      (walked k used parent p us n t s' le (at_life k (Ready n) parent (Ready s) ts is) w))
  walked k used parent p ts _ _ _ le is (Walks.tick s n t s' e w) =
      let us : List (Thread S) = with_life_from 0 k (Ready n) ts in
      let room : nat_lt used p.budget ≡ true = Rattle.std.proofs.lemmas.Bool.lt-ltb used p.budget (omega (arith, le)) in
      one_more moves _ (conf (in_turn k (used + 1) p) us) _
      (taken_at k used parent s p ts is ∙ ap (taken files image step k [] (conf (in_turn k used p) ts)) e ∙ ap (λ b. ticked b k (conf (in_turn k used p) ts) n) room)
      (subst (λ vs. Silent moves (conf (in_turn k (used + 1) p) us) (conf (in_turn k (used + suc t) p) vs)) (twice 0 k (Ready n) (Ready s') ts)
      (subst (λ m. Silent moves (conf (in_turn k (used + 1) p) us) (conf (in_turn k m p) (with_life_from 0 k (Ready s') us))) (let q : used + 1 + t ≡ used + suc t = omega arith in q)
      (walked k (used + 1) parent p us n t s' (omega (arith, le)) (at_life k (Ready n) parent (Ready s) ts is) w)))
