-- What histories say of tasks, one event behind another.
use Rattle.std.proofs.Common.{◌≡◌, ◌∙◌, ℕ, suc, ◌-◌, Bool, true, false, ◌||◌, List, [], ◌∷◌, ◌++◌, fold, Some, sym, ap, refl, subst, append_assoc, ◌⊎◌, inl, inr, if◌then◌else◌}
use Rattle.std.specs.Prelude.{slice_get}
use Rattle.std.specs.List.{AllByRecursion, list_any}
use Rattle.std.proofs.lemmas.Bool.{eq-eqb, false≢true, or_from}
use Rattle.std.proofs.lemmas.List.Folds.{list_any-append}
use Rattle.bds_host.specs.declared.asks.Ask.{Ask}
use Rattle.bds_host.specs.declared.asks.Ask.TheVariants as ask
use Rattle.bds_host.specs.declared.asks.Reply.{Reply}
use Rattle.bds_tasks.specs.declared.task.Task.{Task}
use Rattle.bds_tasks.specs.declared.task.TaskNew.{TaskNew}
use Rattle.bds_tasks.specs.Tasks.{is_good, runs}
use Rattle.bds_meaning.specs.History.{Event, pair, restart, History}
use Rattle.bds_meaning_laws.specs.Events.{attempt_behind, attempt_by, attempt_in, ends, is_start, starts}
use Rattle.bds_meaning_laws.specs.Histories.{HasEndedWell, HasItsNeeds, IsMet, StartsBehindNeeds}

-- Histories

pub fold_end : {B : Type 0} (f : B → Event → B) (a : B) (h : History) (e : Event) → fold f a (h ++ e ∷ []) ≡ f (fold f a h) e
fold_end f a [] e = refl
fold_end f a (x ∷ h) e = fold_end f (f a x) h e

abbrev first_or : Event → History → Event
first_or e [] = e
first_or e (x ∷ h) = x

abbrev rest_of : History → History
rest_of [] = []
rest_of (x ∷ h) = h

abbrev is_there : History → Bool
is_there [] = false
is_there (x ∷ h) = true

pub no_split : (before : History) (x : Event) (behind : History) → [] ≡ before ++ x ∷ behind → ⊥
no_split [] x behind is = false≢true (ap is_there is)
no_split (b ∷ before) x behind is = false≢true (ap is_there is)

-- a split of a history with one more event is behind that event, or one of the history
pub split_last : (h before behind : History) (e x : Event) → h ++ e ∷ [] ≡ before ++ x ∷ behind
    → ((behind ≡ []) × (h ≡ before) × (e ≡ x)) ⊎ ((rest : History) × (behind ≡ rest ++ e ∷ []) × (h ≡ before ++ x ∷ rest))
split_last [] [] behind e x is = inl (sym (ap rest_of is), refl, ap (first_or x) is)
split_last [] (b ∷ before) behind e x is = absurd (no_split before x behind (ap rest_of is))
split_last (y ∷ h) [] behind e x is = inr (h, sym (ap rest_of is), ap (λ z. z ∷ h) (ap (first_or y) is))
split_last (y ∷ h) (b ∷ before) behind e x is = go (split_last h before behind e x (ap rest_of is))
  where
    go : ((behind ≡ []) × (h ≡ before) × (e ≡ x)) ⊎ ((rest : History) × (behind ≡ rest ++ e ∷ []) × (h ≡ before ++ x ∷ rest))
        → ((behind ≡ []) × (y ∷ h ≡ b ∷ before) × (e ≡ x)) ⊎ ((rest : History) × (behind ≡ rest ++ e ∷ []) × (y ∷ h ≡ b ∷ before ++ x ∷ rest))
    go (inl l) = inl (l.0, ap (λ z. z ∷ h) (ap (first_or y) is) ∙ ap (λ l. b ∷ l) l.1, l.2)
    go (inr o) = inr (o.0, o.1, ap (λ z. z ∷ h) (ap (first_or y) is) ∙ ap (λ l. b ∷ l) o.2)

-- Starts and ends

same_attempt_by : (n last : ℕ) (a : Ask) → is_start n a ≡ false → attempt_by n last a ≡ last
same_attempt_by n last (ask.Read path) is = refl
same_attempt_by n last (ask.Stamp path) is = refl
same_attempt_by n last (ask.Write path text) is = refl
same_attempt_by n last (ask.Remove path) is = refl
same_attempt_by n last (ask.Out text) is = refl
same_attempt_by n last (ask.Err text) is = refl
same_attempt_by n last (ask.Sys command) is = refl
same_attempt_by n last (ask.Start task attempt command) is = ap (λ b. if b then attempt else last) is
same_attempt_by n last (ask.Next ks ns) is = refl
same_attempt_by n last (ask.Save path image) is = refl

same_attempt : (n last : ℕ) (e : Event) → starts n e ≡ false → attempt_behind n last e ≡ last
same_attempt n last (pair a r) is = same_attempt_by n last a is
same_attempt n last (restart cpus budget) is = refl

pub attempt_still : (n : ℕ) (h : History) (e : Event) → starts n e ≡ false → attempt_in n (h ++ e ∷ []) ≡ attempt_in n h
attempt_still n h e is = fold_end (attempt_behind n) 0 h e ∙ same_attempt n (attempt_in n h) e is

pub attempt_new : (n attempt : ℕ) (command : List ℕ) (r : Reply) (h : History) → attempt_in n (h ++ pair (ask.Start n attempt command) r ∷ []) ≡ attempt
attempt_new n attempt command r h = fold_end (attempt_behind n) 0 h _ ∙ ap (λ b. if b then attempt else attempt_in n h) (eq-eqb n n refl)

pub none_more : (test : Event → Bool) (h : History) (e : Event) → list_any test h ≡ false → test e ≡ false → list_any test (h ++ e ∷ []) ≡ false
none_more test h e none not_it = list_any-append test h (e ∷ []) ∙ or_from _ _ none (or_from _ _ not_it refl)

pub ended_still : (made : TaskNew) (n : ℕ) (h : History) (e : Event) → starts n e ≡ false → ends n e ≡ false → HasEndedWell made n h → HasEndedWell made n (h ++ e ∷ [])
ended_still made n h e no_start no_end w = record {
  before = w.before;
  ready = w.ready;
  running = w.running;
  code = w.code;
  behind = w.behind ++ e ∷ [];
  split = ap (λ l. l ++ e ∷ []) w.split ∙ append_assoc w.before (_ ∷ w.behind) (e ∷ []);
  good = w.good;
  since = none_more (λ e. starts n e || ends n e) w.behind e w.since (or_from _ _ no_start no_end);
}

-- what is told of the task at a place: it runs in the attempt that was started last; or it has ended well, and that is its last event
pub record IsTold (h : History) (i : ℕ) (t : Task) : Type 0 where
  pub runs : runs t.state ≡ true → attempt_in (suc i) h ≡ t.attempt
  pub good : is_good t ≡ true → HasEndedWell t.made (suc i) h

pub told_idle : (h : History) (i : ℕ) (t : Task) → runs t.state ≡ false → is_good t ≡ false → IsTold h i t
told_idle h i t idle bad = record { runs = λ r. absurd (false≢true (sym idle ∙ r)); good = λ g. absurd (false≢true (sym bad ∙ g)) }

pub told_still : (h : History) (e : Event) (i : ℕ) (t : Task) → starts (suc i) e ≡ false → ends (suc i) e ≡ false → IsTold h i t → IsTold (h ++ e ∷ []) i t
told_still h e i t no_start no_end is = record {
  runs = λ r. attempt_still (suc i) h e no_start ∙ is.runs r;
  good = λ g. ended_still t.made (suc i) h e no_start no_end (is.good g);
}

-- Lists of which each task is there behind a step

pub record IsKept (t u : Task) : Type 0 where
  pub made : u.made ≡ t.made
  pub needs : u.needs ≡ t.needs
  pub good : is_good t ≡ true → is_good u ≡ true

abbrev pub AreKept : List Task → List Task → Type 0
AreKept ts us = (i : ℕ) (t : Task) → slice_get ts i ≡ Some t → (u : Task) × (slice_get us i ≡ Some u) × IsKept t u

pub each_with : (P Q : ℕ → Type 0) (ns : List ℕ) → ((n : ℕ) → P n → Q n) → AllByRecursion P ns → AllByRecursion Q ns
each_with P Q [] f are = tt
each_with P Q (n ∷ ns) f are = (f n are.0, each_with P Q ns f are.1)

module _ (ts us : List Task) (kept : AreKept ts us) where
  pub met_kept : (h : History) (n : ℕ) → IsMet ts h n → IsMet us h n
  met_kept h n m =
      let k = kept (n - 1) m.task m.there.there in
      record { task = k.0; there = record { low = m.there.low; there = k.1 }; ended = subst (λ made. HasEndedWell made n h) (sym k.2.made) m.ended }

  needs_kept : (h : History) (n : ℕ) → HasItsNeeds ts h n → HasItsNeeds us h n
  needs_kept h n a =
      let k = kept (n - 1) a.task a.there.there in
      record {
        task = k.0;
        there = record { low = a.there.low; there = k.1 };
        needs = subst (λ ns. AllByRecursion (IsMet us h) ns) (sym k.2.needs) (each_with (IsMet ts h) (IsMet us h) a.task.needs (met_kept h) a.needs);
      }

  pub starts_kept : (h : History) → StartsBehindNeeds ts h → StartsBehindNeeds us h
  starts_kept h all before behind n attempt command r is = needs_kept before n (all before behind n attempt command r is)

  pub starts_more : (h : History) (e : Event) → StartsBehindNeeds ts h
      → ((n attempt : ℕ) (command : List ℕ) (r : Reply) → e ≡ pair (ask.Start n attempt command) r → HasItsNeeds us h n) → StartsBehindNeeds us (h ++ e ∷ [])
  starts_more h e all new before behind n attempt command r is = go (split_last h before behind e _ is)
    where
      go : ((behind ≡ []) × (h ≡ before) × (e ≡ pair (ask.Start n attempt command) r)) ⊎ ((rest : History) × (behind ≡ rest ++ e ∷ []) × (h ≡ before ++ pair (ask.Start n attempt command) r ∷ rest)) → HasItsNeeds us before n
      go (inl l) = subst (λ b. HasItsNeeds us b n) l.1 (new n attempt command r l.2)
      go (inr o) = needs_kept before n (all before o.0 n attempt command r o.2)
