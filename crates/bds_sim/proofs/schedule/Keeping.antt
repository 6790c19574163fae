-- A run of one of two related configurations is a run of the other.
use Rattle.std.proofs.Common.{◌≡◌, ℕ, zero, suc, ◌+◌, true, List, [], ◌∷◌, ◌++◌, refl, sym, ap, ◌∙◌, subst, arith}
use Rattle.std.specs.Prelude.{map}
use Rattle.bds_host.specs.declared.asks.Ask.{Ask}
use Rattle.bds_host.specs.declared.asks.Reply.{Reply}
use Rattle.bds_host.specs.Asks.{fits}
use Rattle.bds_host.specs.Host.{Log}
use Rattle.bds_tasks.specs.Tasks.{revived_task}
use Rattle.bds_schedule.specs.Configuration.{Configuration, Mode, at_point, turn_of, stopping, saving, faulted, fault_told, done, IsOnWay}
use Rattle.bds_schedule.specs.Moves.{move}
use Rattle.bds_schedule.specs.Requests.{ThreadAct}
use Rattle.bds_schedule.specs.Revive.{revived}
use Rattle.bds_schedule.specs.Stages.{End}
use Rattle.bds_schedule.specs.Steps.{Step, Goes, Asks, Ends, Leads}
use Rattle.bds_sim.specs.schedule.Agree.{Agree}
use Rattle.bds_sim.specs.schedule.Related.{Plain, plain, Related, SameAsk, SameStep}
use Rattle.bds_sim.specs.schedule.Runs.{onward, upto, IsSettled}
use Rattle.bds_sim.specs.schedule.Law.{Any, Its, without_images, BothAsk, Only, HasDone, Does, Law}
use Rattle.bds_sim.proofs.schedule.Walking.{Silent, stays, one_more, joined}
use Rattle.bds_sim.proofs.schedule.Settled.{does_settle, only_settle, Comes, leads_upto, equal_asks, equal_without, equal_fits, same_grown, image_in}
use Rattle.bds_sim.proofs.schedule.Bytes.{same_go}

module _ {C E : Type 0} (next : C → Step C E) where
  -- what is next behind silent steps
  pub comes_to : (c d : C) (x : Step C E) → Silent next c d → IsSettled x → next d ≡ x → (n : ℕ) × (upto next n c ≡ x)
  comes_to c d x s h e = (s.count + 1, s.same 1 ∙ ap (onward (λ c. Goes c)) e ∙ at_once x h)
    where
      at_once : (x : Step C E) → IsSettled x → onward (λ c. Goes c) x ≡ x
      at_once (Goes c) h = absurd h
      at_once (Asks a f) h = refl
      at_once (Ends v) h = refl

  pub one : (c d : C) → next c ≡ Goes d → Silent next c d
  one c d e = one_more next c d d e (stays next d)

-- whoever is at its end stays there
ended_stays : {C E : Type 0} (next : C → Step C E) (c d : C) (e : E) → next c ≡ Ends e → Silent next c d → d ≡ c
ended_stays next c d e is s = go s.count (ap (λ m. upto next m c) (let q : s.count ≡ s.count + 0 = omega arith in q) ∙ s.same 0)
  where
    go : (n : ℕ) → upto next n c ≡ Goes d → d ≡ c
    go zero q = cc q
    go (suc n) q = absurd (cc (sym (ap (onward (upto next n)) is) ∙ q))

module _ {S M : Type 0} (R F : S → M → Type 0) (source : S → ThreadAct S) (machine : M → ThreadAct M) (files : List (List ℕ)) (image : Configuration M → List ℕ) (law : Agree R F source machine) where
  abbrev Rel : Configuration S → Configuration M → Type 0
  Rel c d = Related R F source machine c d

  abbrev next_s : List ℕ → Configuration S → Step (Configuration S) End
  next_s bytes c = move files (λ saved. bytes) source c

  abbrev next_m : Configuration M → Step (Configuration M) End
  next_m d = move files image machine d

  abbrev SourceLeads : Configuration S → Log → Configuration S → Log → Type 0
  SourceLeads c before c' after = Leads (Any files source) c before c' after

  abbrev MachineLeads : Configuration M → Log → Configuration M → Log → Type 0
  MachineLeads d before d' after = Leads (Its files image machine) d before d' after

  -- the source's steps to what it comes to
  source_comes : (bytes : List ℕ) (n : ℕ) (from c : Configuration S) (before log : Log) (x : Step (Configuration S) End) → IsSettled x → upto (next_s bytes) n c ≡ x → SourceLeads from before c log → Comes (next_s bytes) (Any files source) (λ c s e. (bytes, e)) from before log x
  source_comes bytes n from c before log x h e l = leads_upto (next_s bytes) (Any files source) (λ c s e. (bytes, e)) n from c before log x h e l

  machine_comes : (n : ℕ) (from d : Configuration M) (before log : Log) (x : Step (Configuration M) End) → IsSettled x → upto next_m n d ≡ x → MachineLeads from before d log → Comes next_m (Its files image machine) (λ d s e. e) from before log x
  machine_comes n from d before log x h e l = leads_upto next_m (Its files image machine) (λ d s e. e) n from d before log x h e l

  on_way : (m : Mode) (c : Configuration S) (d d' : Configuration M) → plain c ≡ plain d → c.mode ≡ m → Silent next_m d d' → IsOnWay d'.mode → IsOnWay c.mode
  on_way m c d d' e is s h = go m is
    where
      mode_of : c.mode ≡ d.mode
      mode_of = ap (λ (p : Plain). p.mode) e

      back : (f : End) → next_m d ≡ Ends f → IsOnWay c.mode
      back f q = subst IsOnWay (sym mode_of) (subst (λ (x : Configuration M). IsOnWay x.mode) (ended_stays next_m d d' f q s) h)

      go : (m : Mode) → c.mode ≡ m → IsOnWay c.mode
      go at_point is = subst IsOnWay (sym is) tt
      go (turn_of k stamps) is = subst IsOnWay (sym is) tt
      go (stopping cause) is = subst IsOnWay (sym is) tt
      go saving is = subst IsOnWay (sym is) tt
      go faulted is = subst IsOnWay (sym is) tt
      go fault_told is = back _ (ap (λ m. Rattle.bds_schedule.specs.Moves.move_in files image machine d m) (sym mode_of ∙ is))
      go (done status) is = back _ (ap (λ m. Rattle.bds_schedule.specs.Moves.move_in files image machine d m) (sym mode_of ∙ is))

  -- the machine's steps, followed

  record Followed (c : Configuration S) (before after : Log) (d' : Configuration M) : Type 0 where
    c1 : Configuration S
    d1 : Configuration M
    leads : SourceLeads c before c1 after
    related : Rel c1 d1
    silent : Silent next_m d1 d'

  -- what the source comes to where the machine makes an ask
  record Asked (c : Configuration S) (before after : Log) (a : Ask) (g : Reply → Configuration M) : Type 0 where
    at : Configuration S
    next : Reply → Configuration S
    leads : SourceLeads c before at after
    both : BothAsk R F source machine files image at a next a g

  asked_at : (c : Configuration S) (c1 : Configuration S) (d1 : Configuration M) (before after : Log) (a : Ask) (g : Reply → Configuration M) → SourceLeads c before c1 after
      → (k : ℕ) (x : Step (Configuration S) End) (y : Step (Configuration M) End) → upto (next_s (image_in a)) k c1 ≡ x → y ≡ Asks a g → SameStep R F source machine (image_in a) image x y → Asked c before after a g
  asked_at c c1 d1 before after a g leads k _ _ e q (SameStep.go c2 d2 r) = absurd (cc q)
  asked_at c c1 d1 before after a g leads k _ _ e q (SameStep.end v) = absurd (cc q)
  asked_at c c1 d1 before after a g leads k _ _ e q (SameStep.make a' b f g' same behind) =
      let eb : b ≡ a = cc q in
      let eg : g' ≡ g = cc q in
      let ea : a' ≡ b = equal_asks R F source machine (image_in a) image a' b f g' same (ap image_in (sym eb)) in
      let w = source_comes (image_in a) k c c1 before after (Asks a' f) tt e leads in
      record {
        at = w.at;
        next = f;
        leads = w.leads;
        both = record {
          bytes = image_in a;
          asks = w.does ∙ ap (λ z. Asks z f) (ea ∙ eb);
          same = subst (λ z. SameAsk R F source machine (image_in a) image z a f g) (ea ∙ eb) (subst (λ z. SameAsk R F source machine (image_in a) image a' z f g) eb (subst (λ z. SameAsk R F source machine (image_in a) image a' b f z) eg same));
          related = λ r fit n. subst (λ (z : Reply → Configuration M). Rel (f r) (z r)) eg (behind r (subst (λ z. fits z r ≡ true) (sym (ea ∙ eb)) fit) n);
        };
      }

  asked : (c : Configuration S) (before after : Log) (d' : Configuration M) (a : Ask) (g : Reply → Configuration M) → Followed c before after d' → next_m d' ≡ Asks a g → Asked c before after a g
  asked c before after d' a g w e =
      let n = comes_to next_m w.d1 d' (Asks a g) w.silent tt e in
      let k = only_settle R F source machine files (image_in a) image law n.0 w.c1 w.d1 w.related (subst (λ x. IsSettled x) (sym n.1) tt) in
      asked_at c w.c1 w.d1 before after a g w.leads k.0 _ _ refl n.1 k.1

  follow : (c : Configuration S) (d : Configuration M) (before : Log) → Rel c d → (after : Log) (d' : Configuration M) → MachineLeads d before d' after → Followed c before after d'
  follow c d before r _ _ Leads.here = record { c1 = c; d1 = d; leads = Leads.here; related = r; silent = stays next_m d }
  follow c d before r _ _ (Leads.goes s t log l is) =
      let w = follow c d before r log s l in
      record { c1 = w.c1; d1 = w.d1; leads = w.leads; related = w.related; silent = joined next_m w.d1 s t w.silent (one next_m s t is) }
  follow c d before r _ _ (Leads.asks s log after a g reply l is answered) =
      let w = asked c before log s a g (follow c d before r log s l) is in
      record {
        c1 = w.next reply;
        d1 = g reply;
        leads = Leads.asks w.at log after a w.next reply w.leads (w.both.bytes, w.both.asks) answered;
        related = w.both.related reply answered.fitting answered.told;
        silent = stays next_m (g reply);
      }

  ended_at : (c c1 : Configuration S) (before after : Log) (e : End) → SourceLeads c before c1 after → (k : ℕ) (x : Step (Configuration S) End) (y : Step (Configuration M) End) → upto (next_s []) k c1 ≡ x → y ≡ Ends e → SameStep R F source machine [] image x y
      → (c' : Configuration S) × SourceLeads c before c' after × Any files source c' (Ends e)
  ended_at c c1 before after e leads k _ _ q is (SameStep.go c2 d2 r) = absurd (cc is)
  ended_at c c1 before after e leads k _ _ q is (SameStep.make a' b f g' same behind) = absurd (cc is)
  ended_at c c1 before after e leads k _ _ q is (SameStep.end v) =
      let w = source_comes [] k c c1 before after (Ends v) tt q leads in
      (w.at, w.leads, ([], w.does ∙ ap (λ z. Ends z) (let q : v ≡ e = cc is in q)))

  pub only : (c : Configuration S) (d : Configuration M) → Rel c d → Only R F source machine files image c d
  only c d r = record {
    goes = λ before after d' l. let w = follow c d before r after d' l in (w.c1, w.leads, on_way w.c1.mode w.c1 w.d1 d' w.related.same refl w.silent);
    asks = λ before after d' a g l e. let w = asked c before after d' a g (follow c d before r after d' l) e in (w.at, (w.next, w.leads, w.both));
    ends = λ before after d' e l is. end before after d' e (follow c d before r after d' l) is;
  }
    where
      end : (before after : Log) (d' : Configuration M) (e : End) → Followed c before after d' → next_m d' ≡ Ends e → (c' : Configuration S) × SourceLeads c before c' after × Any files source c' (Ends e)
      end before after d' e w is =
          let n = comes_to next_m w.d1 d' (Ends e) w.silent tt is in
          let k = only_settle R F source machine files [] image law n.0 w.c1 w.d1 w.related (subst (λ x. IsSettled x) (sym n.1) tt) in
          ended_at c w.c1 before after e w.leads k.0 _ _ refl n.1 k.1

  -- the source's steps, followed

  record Ahead (c' : Configuration S) (d : Configuration M) (before' after : Log) : Type 0 where
    c1 : Configuration S
    d1 : Configuration M
    after' : Log
    leads : MachineLeads d before' d1 after'
    same : without_images after ≡ without_images after'
    related : Rel c1 d1
    silent : (bytes : List ℕ) → Silent (next_s bytes) c1 c'

  record Answers (c' : Configuration S) (d : Configuration M) (before' after : Log) (a : Ask) (f : Reply → Configuration S) : Type 0 where
    at : Configuration M
    after' : Log
    ask : Ask
    next : Reply → Configuration M
    leads : MachineLeads d before' at after'
    same : without_images after ≡ without_images after'
    asks : next_m at ≡ Asks ask next
    both : BothAsk R F source machine files image c' a f ask next

  answers_at : (c' : Configuration S) (d d1 : Configuration M) (before' after after' : Log) (bytes : List ℕ) (a : Ask) (f : Reply → Configuration S) → next_s bytes c' ≡ Asks a f → MachineLeads d before' d1 after' → without_images after ≡ without_images after'
      → (k : ℕ) (x : Step (Configuration S) End) (y : Step (Configuration M) End) → x ≡ Asks a f → upto next_m k d1 ≡ y → SameStep R F source machine bytes image x y → Answers c' d before' after a f
  answers_at c' d d1 before' after after' bytes a f is leads same k _ _ e q (SameStep.go c2 d2 r) = absurd (cc e)
  answers_at c' d d1 before' after after' bytes a f is leads same k _ _ e q (SameStep.end v) = absurd (cc e)
  answers_at c' d d1 before' after after' bytes a f is leads same k _ _ e q (SameStep.make a' b f' g alike behind) =
      let ea : a' ≡ a = cc e in
      let ef : f' ≡ f = cc e in
      let w = machine_comes k d d1 before' after' (Asks b g) tt q leads in
      record {
        at = w.at;
        after' = after';
        ask = b;
        next = g;
        leads = w.leads;
        same = same;
        asks = w.does;
        both = record {
          bytes = bytes;
          asks = is;
          same = subst (λ z. SameAsk R F source machine bytes image z b f g) ea (subst (λ z. SameAsk R F source machine bytes image a' b z g) ef alike);
          related = λ r fit n. subst (λ (z : Reply → Configuration S). Rel (z r) (g r)) ef (behind r (subst (λ z. fits z r ≡ true) (sym ea) fit) n);
        };
      }

  answers : (c' : Configuration S) (d : Configuration M) (before' after : Log) (bytes : List ℕ) (a : Ask) (f : Reply → Configuration S) → Ahead c' d before' after → next_s bytes c' ≡ Asks a f → Answers c' d before' after a f
  answers c' d before' after bytes a f w is =
      let n = comes_to (next_s bytes) w.c1 c' (Asks a f) (w.silent bytes) tt is in
      let k = does_settle R F source machine files bytes image law n.0 w.c1 w.d1 w.related (subst (λ x. IsSettled x) (sym n.1) tt) in
      answers_at c' d w.d1 before' after w.after' bytes a f is w.leads w.same k.0 _ _ n.1 refl k.1

  lead : (c : Configuration S) (d : Configuration M) (before before' : Log) → Rel c d → without_images before ≡ without_images before' → (after : Log) (c' : Configuration S) → SourceLeads c before c' after → Ahead c' d before' after
  lead c d before before' r e _ _ Leads.here = record { c1 = c; d1 = d; after' = before'; leads = Leads.here; same = e; related = r; silent = λ bytes. stays (next_s bytes) c }
  lead c d before before' r e _ _ (Leads.goes s t log l is) =
      let w = lead c d before before' r e log s l in
      record {
        c1 = w.c1;
        d1 = w.d1;
        after' = w.after';
        leads = w.leads;
        same = w.same;
        related = w.related;
        silent = λ bytes. joined (next_s bytes) w.c1 s t (w.silent bytes) (one (next_s bytes) s t (same_go files source is.0 bytes s t is.1));
      }
  lead c d before before' r e _ _ (Leads.asks s log after a f reply l is answered) =
      let w = answers s d before' log is.0 a f (lead c d before before' r e log s l) is.1 in
      let fit : fits w.ask reply ≡ true = sym (equal_fits R F source machine w.both.bytes image a w.ask f w.next w.both.same reply) ∙ answered.fitting in
      record {
        c1 = f reply;
        d1 = w.next reply;
        after' = w.after' ++ (w.ask, reply) ∷ [];
        leads = Leads.asks w.at w.after' (w.after' ++ (w.ask, reply) ∷ []) w.ask w.next reply w.leads w.asks (record { grown = refl; fitting = fit; told = answered.told });
        same = ap (λ l. without_images l) answered.grown ∙ same_grown log w.after' a w.ask reply w.same (equal_without R F source machine w.both.bytes image a w.ask f w.next w.both.same);
        related = w.both.related reply answered.fitting answered.told;
        silent = λ bytes. stays (next_s bytes) (f reply);
      }

  -- the machine's end where the source's steps end
  ends_at : (c' : Configuration S) (d d1 : Configuration M) (before' after after' : Log) (bytes : List ℕ) (e : End) → MachineLeads d before' d1 after' → without_images after ≡ without_images after'
      → (k : ℕ) (x : Step (Configuration S) End) (y : Step (Configuration M) End) → x ≡ Ends e → upto next_m k d1 ≡ y → SameStep R F source machine bytes image x y
      → (w : HasDone R F source machine files image c' d before' after) × (next_m w.d' ≡ Ends e)
  ends_at c' d d1 before' after after' bytes e leads same k _ _ is q (SameStep.go c2 d2 r) = absurd (cc is)
  ends_at c' d d1 before' after after' bytes e leads same k _ _ is q (SameStep.make a' b f' g alike behind) = absurd (cc is)
  ends_at c' d d1 before' after after' bytes e leads same k _ _ is q (SameStep.end v) =
      let w = machine_comes k d d1 before' after' (Ends v) tt q leads in
      (record { d' = w.at; after' = after'; leads = w.leads; same = same }, w.does ∙ ap (λ z. Ends z) (let p : v ≡ e = cc is in p))

  pub does : (c : Configuration S) (d : Configuration M) → Rel c d → Does R F source machine files image c d
  does c d r = record {
    goes = λ before after before' c' l e. let w = lead c d before before' r e after c' l in record { d' = w.d1; after' = w.after'; leads = w.leads; same = w.same };
    asks = λ before after before' c' a f l e is. let w = answers c' d before' after is.0 a f (lead c d before before' r e after c' l) is.1 in (record { d' = w.at; after' = w.after'; leads = w.leads; same = w.same }, (w.ask, (w.next, w.asks, w.both)));
    ends = λ before after before' c' e l same is. end before after before' c' e (lead c d before before' r same after c' l) is;
  }
    where
      end : (before after before' : Log) (c' : Configuration S) (e : End) → Ahead c' d before' after → Any files source c' (Ends e) → (w : HasDone R F source machine files image c' d before' after) × (next_m w.d' ≡ Ends e)
      end before after before' c' e w is =
          let n = comes_to (next_s is.0) w.c1 c' (Ends e) (w.silent is.0) tt is.1 in
          let k = does_settle R F source machine files is.0 image law n.0 w.c1 w.d1 w.related (subst (λ x. IsSettled x) (sym n.1) tt) in
          ends_at c' d w.d1 before' after w.after' is.0 e w.leads w.same k.0 _ _ n.1 refl k.1

  -- a restart keeps the relation
  pub revives : (c : Configuration S) (d : Configuration M) → Rel c d → (cpus budget : ℕ) → Rel (revived c cpus budget) (revived d cpus budget)
  revives c d r cpus budget = record {
    same = ap (λ (p : Plain). record { path = p.path; cpus = cpus; budget = budget; used = 0; tasks = map revived_task p.tasks; rules = p.rules; mode = at_point }) r.same;
    threads = r.threads;
    needing = tt;
  }

  pub laws : (c : Configuration S) (d : Configuration M) → Rel c d → Law R F source machine files image c d
  laws c d r = record { only = only c d r; does = does c d r; revives = revives c d r }
