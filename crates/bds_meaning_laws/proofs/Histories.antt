-- Tasks start behind their needs, and not again behind a good end.
use Rattle.std.proofs.Common.{◌≡◌, ◌∙◌, ℕ, zero, suc, ◌+◌, ◌≤◌, Bool, true, false, List, [], ◌∷◌, ◌++◌, map, Option, Some, sym, ap, refl, subst, arith, append_assoc, ◌⊎◌, inl, inr, if◌then◌else◌}
use Rattle.std.specs.Prelude.{slice_get, slice_set, nat_eq}
use Rattle.std.specs.List.{AllByRecursion, list_any, list_all}
use Rattle.std.specs.Option.{option_map}
use Rattle.std.proofs.lemmas.Bool.{and_parts, eq-eqb, eqb-true, false≢true}
use Rattle.std.proofs.lemmas.Option.{slice_get-map}
use Rattle.bds_host.specs.declared.asks.Ask.{Ask}
use Rattle.bds_host.specs.declared.asks.Ask.TheVariants as ask
use Rattle.bds_host.specs.declared.asks.Reply.{Reply}
use Rattle.bds_host.specs.declared.asks.Reply.TheVariants as reply
use Rattle.bds_host.specs.Host.{is_fault}
use Rattle.bds_tasks.specs.declared.task.Task.{Task}
use Rattle.bds_tasks.specs.declared.task.TaskState.{TaskState}
use Rattle.bds_tasks.specs.declared.task.TaskState.TheVariants.{Waits, Runs, Ended, Cancelled}
use Rattle.bds_tasks.specs.Ends.{ended, ended_task}
use Rattle.bds_tasks.specs.Starts.{may_start, started}
use Rattle.bds_tasks.specs.Tasks.{in_state, is_good, is_well, passes, revived_task, running, runs, task_at, waits}
use Rattle.bds_schedule.specs.Earlier.{AreEarlier, NeedEarlier, needs_of}
use Rattle.bds_meaning.specs.History.{Event, pair, restart, History, Lives}
use Rattle.bds_meaning.specs.Run.{Program, Conf}
use Rattle.bds_schedule.specs.Steps.{Goes, Asks}
use Rattle.bds_meaning.proofs.Earlier.{needs_are_earlier}
use Rattle.bds_meaning_laws.specs.Events.{attempt_in, ends, is_end, starts}
use Rattle.bds_meaning_laws.specs.Histories.{GoodEndsAreLast, HasEndedWell, HasItsNeeds, InEachHistory, IsGoodEnd, IsMet, StartsBehindNeeds}
use Rattle.bds_meaning_laws.proofs.Changes.{Each, Stays, at_number, each_ended, each_from, each_to, ended_good, ended_idle, ended_made, good_ended, has_first, none_some, number_at, other_place, passed_at, set_from, set_here, set_to, some_same, with_is}
use Rattle.bds_meaning_laws.proofs.Room.{quiet, waits_idle}
use Rattle.bds_meaning_laws.proofs.Steps.{AreMore, Begins, EndsOne, Follows, Rests, keeps_source}
use Rattle.bds_meaning_laws.proofs.Told.{AreKept, IsKept, IsTold, attempt_new, each_with, met_kept, no_split, none_more, split_last, starts_kept, starts_more, told_idle, told_still}

-- the end of task n is of a task that is there; where it is good, the task has ended well still and did not start again
record IsSettled (ts : List Task) (before : History) (n code : ℕ) (behind : History) : Type 0 where
  place : ℕ
  number : n ≡ suc place
  task : Task
  there : slice_get ts place ≡ Some task
  good : IsGoodEnd task.made (attempt_in n before) code → (is_good task ≡ true) × (list_any (starts n) behind ≡ false)

abbrev AreSettled : List Task → History → Type 0
AreSettled ts h =
    (before behind : History) (waiting running : List ℕ) (n code : ℕ)
    → h ≡ before ++ pair (ask.Next waiting running) (reply.Ended n code) ∷ behind → IsSettled ts before n code behind

-- what a history says of the tasks
record Fits (ts : List Task) (h : History) : Type 0 where
  told : (i : ℕ) (t : Task) → slice_get ts i ≡ Some t → IsTold h i t
  starts : StartsBehindNeeds ts h
  ends : AreSettled ts h

-- Ends

settled_kept : (ts us : List Task) → AreKept ts us → (before : History) (n code : ℕ) (behind : History) → IsSettled ts before n code behind → IsSettled us before n code behind
settled_kept ts us kept before n code behind s =
    let k = kept s.place s.task s.there in
    record {
      place = s.place;
      number = s.number;
      task = k.0;
      there = k.1;
      good = λ g. let old = s.good (subst (λ made. IsGoodEnd made (attempt_in n before) code) k.2.made g) in (k.2.good old.0, old.1);
    }

ends_kept : (ts us : List Task) → AreKept ts us → (h : History) → AreSettled ts h → AreSettled us h
ends_kept ts us kept h all before behind waiting running n code is = settled_kept ts us kept before n code behind (all before behind waiting running n code is)

settled_still : (ts : List Task) (before : History) (n code : ℕ) (behind : History) (e : Event) → ((i : ℕ) (t : Task) → slice_get ts i ≡ Some t → is_good t ≡ true → starts (suc i) e ≡ false)
    → IsSettled ts before n code behind → IsSettled ts before n code (behind ++ e ∷ [])
settled_still ts before n code behind e quiet s = record {
  place = s.place;
  number = s.number;
  task = s.task;
  there = s.there;
  good = λ g. let old = s.good g in (old.0, none_more (starts n) behind e old.1 (subst (λ m. starts m e ≡ false) (sym s.number) (quiet s.place s.task s.there old.0)));
}

ends_more : (ts us : List Task) → AreKept ts us → (h : History) (e : Event) → ((i : ℕ) (t : Task) → slice_get ts i ≡ Some t → is_good t ≡ true → starts (suc i) e ≡ false)
    → ((waiting running : List ℕ) (n code : ℕ) → e ≡ pair (ask.Next waiting running) (reply.Ended n code) → IsSettled us h n code []) → AreSettled ts h → AreSettled us (h ++ e ∷ [])
ends_more ts us kept h e quiet new all before behind waiting running n code is = go (split_last h before behind e _ is)
  where
    go : ((behind ≡ []) × (h ≡ before) × (e ≡ pair (ask.Next waiting running) (reply.Ended n code))) ⊎ ((rest : History) × (behind ≡ rest ++ e ∷ []) × (h ≡ before ++ pair (ask.Next waiting running) (reply.Ended n code) ∷ rest)) → IsSettled us before n code behind
    go (inl l) = subst (λ b. IsSettled us before n code b) (sym l.0) (subst (λ b. IsSettled us b n code []) l.1 (new waiting running n code l.2))
    go (inr o) =
        subst (λ b. IsSettled us before n code b) (sym o.1)
        (settled_kept ts us kept before n code (o.0 ++ e ∷ []) (settled_still ts before n code o.0 e quiet (all before o.0 waiting running n code o.2)))

-- Tasks are added

at_more : (ts us : List Task) (i : ℕ) (t : Task) → slice_get ts i ≡ Some t → slice_get (ts ++ us) i ≡ Some t
at_more [] us i t is = absurd (none_some t is)
at_more (x ∷ ts) us zero t is = is
at_more (x ∷ ts) us (suc i) t is = at_more ts us i t is

more_at : (ts us : List Task) → AllByRecursion (λ t. waits t.state ≡ true) us → (i : ℕ) (u : Task) → slice_get (ts ++ us) i ≡ Some u → (slice_get ts i ≡ Some u) ⊎ (waits u.state ≡ true)
more_at [] [] are i u is = absurd (none_some u is)
more_at [] (x ∷ us) are zero u is = inr (subst (λ (t : Task). waits t.state ≡ true) (some_same x u is) are.0)
more_at [] (x ∷ us) are (suc i) u is = inr (go (more_at [] us are.1 i u is))
  where
    go : (slice_get [] i ≡ Some u) ⊎ (waits u.state ≡ true) → waits u.state ≡ true
    go (inl none) = absurd (none_some u none)
    go (inr h) = h
more_at (x ∷ ts) us are zero u is = inl is
more_at (x ∷ ts) us are (suc i) u is = more_at ts us are i u is

waits_bad : (can_fail : Bool) (s : TaskState) → waits s ≡ true → is_well can_fail s ≡ false
waits_bad can_fail Waits h = refl
waits_bad can_fail Runs h = refl
waits_bad can_fail (Ended code) h = absurd (false≢true h)
waits_bad can_fail (Cancelled n) h = refl

told_waits : (h : History) (i : ℕ) (t : Task) → waits t.state ≡ true → IsTold h i t
told_waits h i t is = told_idle h i t (waits_idle t.state is) (waits_bad t.made.can_fail t.state is)

same_kept : (t : Task) → IsKept t t
same_kept t = record { made = refl; needs = refl; good = λ g. g }

fits_more : (ts us : List Task) (h : History) → AreMore ts us → Fits ts h → Fits us h
fits_more ts us h m f =
    let kept : AreKept ts us = λ i t is. (t, ap (λ l. slice_get l i) m.are ∙ at_more ts m.more i t is, same_kept t) in
    record {
      told = λ i u is. go i u (more_at ts m.more m.each i u (sym (ap (λ l. slice_get l i) m.are) ∙ is));
      starts = starts_kept ts us kept h f.starts;
      ends = ends_kept ts us kept h f.ends;
    }
  where
    go : (i : ℕ) (u : Task) → (slice_get ts i ≡ Some u) ⊎ (waits u.state ≡ true) → IsTold h i u
    go i u (inl is) = f.told i u is
    go i u (inr is) = told_waits h i u is

-- Nothing starts or ends

fits_rest : (ts us : List Task) (h : History) (e : Event) → AreKept ts us → ((i : ℕ) (u : Task) → slice_get us i ≡ Some u → (slice_get ts i ≡ Some u) ⊎ (waits u.state ≡ true))
    → ((n : ℕ) → starts n e ≡ false) → ((n : ℕ) → ends n e ≡ false) → Fits ts h → Fits us (h ++ e ∷ [])
fits_rest ts us h e kept from no_start no_end f = record {
  told = λ i u is. go i u (from i u is);
  starts = starts_more ts us kept h e f.starts (λ n attempt command r is. absurd (false≢true (sym (no_start n) ∙ ap (starts n) is ∙ eq-eqb n n refl)));
  ends = ends_more ts us kept h e (λ i t at good. no_start (suc i)) (λ waiting running n code is. absurd (false≢true (sym (no_end n) ∙ ap (ends n) is ∙ eq-eqb n n refl))) f.ends;
}
  where
    go : (i : ℕ) (u : Task) → (slice_get ts i ≡ Some u) ⊎ (waits u.state ≡ true) → IsTold (h ++ e ∷ []) i u
    go i u (inl is) = told_still h e i u (no_start (suc i)) (no_end (suc i)) (f.told i u is)
    go i u (inr is) = told_waits (h ++ e ∷ []) i u is

same_are_kept : (ts us : List Task) → us ≡ ts → AreKept ts us
same_are_kept ts us same i t is = (t, ap (λ l. slice_get l i) same ∙ is, same_kept t)

-- a restart

revived_kept : (ts : List Task) → AreKept ts (map revived_task ts)
revived_kept ts i t is = (revived_task t, slice_get-map revived_task ts i ∙ ap (option_map revived_task) is, go (is_good t) refl)
  where
    go : (b : Bool) → is_good t ≡ b → IsKept t (if b then t else record { made = t.made; needs = t.needs; attempt = t.attempt; state = Waits })
    go true is = same_kept t
    go false is = record { made = refl; needs = refl; good = λ g. absurd (false≢true (sym is ∙ g)) }

revived_from : (ts : List Task) (i : ℕ) (u : Task) → slice_get (map revived_task ts) i ≡ Some u → (slice_get ts i ≡ Some u) ⊎ (waits u.state ≡ true)
revived_from [] i u is = absurd (none_some u is)
revived_from (t ∷ ts) zero u is = go (is_good t) is
  where
    go : (b : Bool) → Some (if b then t else record { made = t.made; needs = t.needs; attempt = t.attempt; state = Waits }) ≡ Some u → (◌≡◌ {A = Option Task} (Some t) (Some u)) ⊎ (waits u.state ≡ true)
    go true is = inl is
    go false is = inr (ap (λ (t : Task). waits t.state) (sym (some_same _ u is)))
revived_from (t ∷ ts) (suc i) u is = revived_from ts i u is

fits_restart : (ts : List Task) (h : History) (cpus budget : ℕ) → Fits ts h → Fits (map revived_task ts) (h ++ restart cpus budget ∷ [])
fits_restart ts h cpus budget f = fits_rest ts (map revived_task ts) h (restart cpus budget) (revived_kept ts) (revived_from ts) (λ n. refl) (λ n. refl) f

-- A task starts

needs_low : (k : ℕ) (ts : List Task) (i : ℕ) (t : Task) → AreEarlier k (needs_of ts) → slice_get ts i ≡ Some t → AllByRecursion (λ n. 1 ≤ n) t.needs
needs_low k [] i t are is = absurd (none_some t is)
needs_low k (x ∷ ts) zero t are is = subst (λ (t : Task). AllByRecursion (λ n. 1 ≤ n) t.needs) (some_same x t is) (each_with _ _ x.needs (λ n both. both.0) are.0)
needs_low k (x ∷ ts) (suc i) t are is = needs_low (k + 1) ts i t are.1 is

waits_only : (t : Task) → waits t.state ≡ true → is_good t ≡ true → ⊥
waits_only t waiting good = false≢true (sym (waits_bad t.made.can_fail t.state waiting) ∙ good)

module _ (ts us : List Task) (h : History) (i : ℕ) (t : Task) (command : List ℕ) (r : Reply) (none : (n : ℕ) → is_end n r ≡ false) (there : slice_get ts i ≡ Some t) (f : Fits ts h) where
  abbrev starts_now : Event
  starts_now = pair (ask.Start (suc i) t.attempt command) r

  start_elsewhere : (j : ℕ) → (j ≡ i → ⊥) → starts (suc j) starts_now ≡ false
  start_elsewhere j differ = other_place i j differ

  is_here : (j : ℕ) (u : Task) → slice_get ts j ≡ Some u → j ≡ i → u ≡ t
  is_here j u is same = some_same u t (sym is ∙ ap (slice_get ts) same ∙ there)

  need_met : (m : ℕ) → 1 ≤ m → passes is_good ts m ≡ true → IsMet ts h m
  need_met zero low good = absurd (omega arith)
  need_met (suc k) low good =
      let at = passed_at is_good ts k good in
      record { task = at.0; there = record { low = low; there = at_number ts k ∙ at.1 }; ended = (f.told k at.0 at.1).good at.2 }

  needs_met : (ns : List ℕ) → AllByRecursion (λ n. 1 ≤ n) ns → list_all (passes is_good ts) ns ≡ true → AllByRecursion (IsMet ts h) ns
  needs_met [] low good = tt
  needs_met (n ∷ ns) low good = let both = and_parts (passes is_good ts n) _ good in (need_met n low.0 both.0, needs_met ns low.1 both.1)

  module _ (waiting : waits t.state ≡ true) (needs : AllByRecursion (IsMet ts h) t.needs) (kept : AreKept ts us) (from : (j : ℕ) (u : Task) → slice_get us j ≡ Some u → ((j ≡ i) × (u ≡ in_state Runs t)) ⊎ (slice_get ts j ≡ Some u)) where
    told_start : (j : ℕ) (u : Task) → ((j ≡ i) × (u ≡ in_state Runs t)) ⊎ (slice_get ts j ≡ Some u) → IsTold (h ++ starts_now ∷ []) j u
    told_start j u (inl new) =
        subst (λ (u : Task). IsTold (h ++ starts_now ∷ []) j u) (sym new.1)
        (subst (λ k. IsTold (h ++ starts_now ∷ []) k (in_state Runs t)) (sym new.0)
        (record { runs = λ running. attempt_new (suc i) t.attempt command r h; good = λ good. absurd (false≢true good) }))
    told_start j u (inr is) = go (nat_eq j i) refl
      where
        go : (b : Bool) → nat_eq j i ≡ b → IsTold (h ++ starts_now ∷ []) j u
        go true same = told_waits (h ++ starts_now ∷ []) j u (subst (λ (u : Task). waits u.state ≡ true) (sym (is_here j u is (eqb-true j i same))) waiting)
        go false differ = told_still h starts_now j u (start_elsewhere j (λ e. false≢true (sym differ ∙ eq-eqb j i e))) (none (suc j)) (f.told j u is)

    not_again : (j : ℕ) (u : Task) → slice_get ts j ≡ Some u → is_good u ≡ true → starts (suc j) starts_now ≡ false
    not_again j u is good = start_elsewhere j (λ same. waits_only t waiting (subst (λ (u : Task). is_good u ≡ true) (is_here j u is same) good))

    has_needs : (n attempt : ℕ) (other : List ℕ) (r' : Reply) → starts_now ≡ pair (ask.Start n attempt other) r' → HasItsNeeds us h n
    has_needs n attempt other r' is =
        let same : suc i ≡ n = eqb-true (suc i) n (ap (starts n) is ∙ eq-eqb n n refl) in
        let k = kept i t there in
        subst (λ n. HasItsNeeds us h n) same
        (record {
          task = k.0;
          there = record { low = omega arith; there = at_number us i ∙ k.1 };
          needs = subst (λ ns. AllByRecursion (IsMet us h) ns) (sym k.2.needs) (each_with (IsMet ts h) (IsMet us h) t.needs (met_kept ts us kept h) needs);
        })

    fits_begun : Fits us (h ++ starts_now ∷ [])
    fits_begun = record {
      told = λ j u is. told_start j u (from j u is);
      starts = starts_more ts us kept h starts_now f.starts has_needs;
      ends = ends_more ts us kept h starts_now not_again (λ waiting running n code is. absurd (false≢true (sym (none n) ∙ ap (ends n) is ∙ eq-eqb n n refl))) f.ends;
    }

-- where the start is answered by a fault, the tasks stay
fits_asked : (ts : List Task) (h : History) (i : ℕ) (t : Task) (command : List ℕ) (r : Reply) → ((n : ℕ) → is_end n r ≡ false) → slice_get ts i ≡ Some t → Fits ts h → waits t.state ≡ true → AllByRecursion (IsMet ts h) t.needs
    → Fits ts (h ++ pair (ask.Start (suc i) t.attempt command) r ∷ [])
fits_asked ts h i t command r none there f waiting needs = fits_begun ts ts h i t command r none there f waiting needs (same_are_kept ts ts refl) (λ j u is. inr is)

fits_started : (ts : List Task) (h : History) (i : ℕ) (t : Task) (command : List ℕ) (r : Reply) → ((n : ℕ) → is_end n r ≡ false) → slice_get ts i ≡ Some t → Fits ts h → waits t.state ≡ true → AllByRecursion (IsMet ts h) t.needs
    → Fits (started (suc i) ts) (h ++ pair (ask.Start (suc i) t.attempt command) r ∷ [])
fits_started ts h i t command r none there f waiting needs =
    subst (λ us. Fits us (h ++ pair (ask.Start (suc i) t.attempt command) r ∷ [])) (sym (with_is (in_state Runs) ts i t there))
    (fits_begun ts (slice_set ts i (in_state Runs t)) h i t command r none there f waiting needs kept from)
  where
    kept : AreKept ts (slice_set ts i (in_state Runs t))
    kept j u is = go (set_to ts i j (in_state Runs t) u is)
      where
        go : ((j ≡ i) × (slice_get (slice_set ts i (in_state Runs t)) j ≡ Some (in_state Runs t))) ⊎ (slice_get (slice_set ts i (in_state Runs t)) j ≡ Some u) → (v : Task) × (slice_get (slice_set ts i (in_state Runs t)) j ≡ Some v) × IsKept u v
        go (inl new) =
            let same : u ≡ t = some_same u t (sym is ∙ ap (slice_get ts) new.0 ∙ there) in
            (in_state Runs t, new.1, record { made = ap (λ (x : Task). x.made) (sym same); needs = ap (λ (x : Task). x.needs) (sym same); good = λ g. absurd (waits_only t waiting (subst (λ (x : Task). is_good x ≡ true) same g)) })
        go (inr old) = (u, old, same_kept u)

    from : (j : ℕ) (u : Task) → slice_get (slice_set ts i (in_state Runs t)) j ≡ Some u → ((j ≡ i) × (u ≡ in_state Runs t)) ⊎ (slice_get ts j ≡ Some u)
    from j u is = go (set_from ts i j (in_state Runs t) u is)
      where
        go : ((j ≡ i) × (u ≡ in_state Runs t)) ⊎ ((slice_get ts j ≡ Some u) × (j ≡ i → ⊥)) → ((j ≡ i) × (u ≡ in_state Runs t)) ⊎ (slice_get ts j ≡ Some u)
        go (inl new) = inl new
        go (inr old) = inr old.0

-- A task ends

runs_only : (can_fail : Bool) (s : TaskState) → runs s ≡ true → is_well can_fail s ≡ true → ⊥
runs_only can_fail Waits running good = false≢true running
runs_only can_fail Runs running good = false≢true good
runs_only can_fail (Ended code) running good = false≢true running
runs_only can_fail (Cancelled n) running good = false≢true running

stays_kept : (n : ℕ) (t u : Task) → Stays n t u → IsKept t u
stays_kept n t u (inl same) = subst (IsKept t) (sym same) (same_kept t)
stays_kept n t u (inr lost) = subst (IsKept t) (sym lost.1) (record { made = refl; needs = refl; good = λ g. absurd (waits_only t lost.0 g) })

module _ (ts : List Task) (h : History) (i : ℕ) (t : Task) (code : ℕ) (ready running : List ℕ) (there : slice_get ts i ≡ Some t) (runs_now : runs t.state ≡ true) (f : Fits ts h) where
  abbrev ends_now : Event
  ends_now = pair (ask.Next ready running) (reply.Ended (suc i) code)

  abbrev mid : List Task
  mid = slice_set ts i (ended_task code t)

  abbrev new : List Task
  new = ended (suc i) code ts

  mid_new : Each (Stays (suc i)) mid new
  mid_new = subst (λ l. Each (Stays (suc i)) l new) (with_is (ended_task code) ts i t there) (each_ended (suc i) code ts)

  attempt_now : attempt_in (suc i) h ≡ t.attempt
  attempt_now = (f.told i t there).runs runs_now

  same_here : (j : ℕ) (u : Task) → slice_get ts j ≡ Some u → j ≡ i → u ≡ t
  same_here j u is same = some_same u t (sym is ∙ ap (slice_get ts) same ∙ there)

  mid_kept : AreKept ts mid
  mid_kept j u is = go (set_to ts i j (ended_task code t) u is)
    where
      go : ((j ≡ i) × (slice_get mid j ≡ Some (ended_task code t))) ⊎ (slice_get mid j ≡ Some u) → (v : Task) × (slice_get mid j ≡ Some v) × IsKept u v
      go (inl here) =
          let same = same_here j u is here.0 in
          let made = ended_made code t in (
            ended_task code t,
            here.1,
            record {
              made = made.0 ∙ ap (λ (x : Task). x.made) (sym same);
              needs = made.1 ∙ ap (λ (x : Task). x.needs) (sym same);
              good = λ g. absurd (runs_only t.made.can_fail t.state runs_now (subst (λ (x : Task). is_good x ≡ true) same g));
            },
          )
      go (inr old) = (u, old, same_kept u)

  kept_join : (t u v : Task) → IsKept t u → IsKept u v → IsKept t v
  kept_join t u v a b = record { made = b.made ∙ a.made; needs = b.needs ∙ a.needs; good = λ g. b.good (a.good g) }

  ended_kept : AreKept ts new
  ended_kept j u is =
      let a = mid_kept j u is in
      let b = each_to (Stays (suc i)) mid new j a.0 mid_new a.1 in
      (b.0, b.1, kept_join u a.0 b.0 a.2 (stays_kept (suc i) a.0 b.0 b.2))

  ended_well : (made : _) → made ≡ t.made → IsGoodEnd made t.attempt code → HasEndedWell made (suc i) (h ++ ends_now ∷ [])
  ended_well made same good = record {
    before = h;
    ready = ready;
    running = running;
    code = code;
    behind = [];
    split = refl;
    good = subst (λ n. IsGoodEnd made n code) (sym attempt_now) good;
    since = refl;
  }

  told_mid : (j : ℕ) (v : Task) → slice_get mid j ≡ Some v → IsTold (h ++ ends_now ∷ []) j v
  told_mid j v is = go (set_from ts i j (ended_task code t) v is)
    where
      go : ((j ≡ i) × (v ≡ ended_task code t)) ⊎ ((slice_get ts j ≡ Some v) × (j ≡ i → ⊥)) → IsTold (h ++ ends_now ∷ []) j v
      go (inl here) =
          subst (λ (v : Task). IsTold (h ++ ends_now ∷ []) j v) (sym here.1)
          (subst (λ k. IsTold (h ++ ends_now ∷ []) k (ended_task code t)) (sym here.0)
          (record {
            runs = λ running. absurd (false≢true (sym (ended_idle code t) ∙ running));
            good = λ good. let made = (ended_made code t).0 in ended_well (ended_task code t).made made (subst (λ m. IsGoodEnd m t.attempt code) (sym made) (ended_good code t good));
          }))
      go (inr old) = told_still h ends_now j v refl (other_place i j old.1) (f.told j v old.0)

  told_end : (j : ℕ) (u : Task) → slice_get new j ≡ Some u → IsTold (h ++ ends_now ∷ []) j u
  told_end j u is = go (each_from (Stays (suc i)) mid new j u mid_new is)
    where
      go : (v : Task) × (slice_get mid j ≡ Some v) × Stays (suc i) v u → IsTold (h ++ ends_now ∷ []) j u
      go a = by a.0 a.1 a.2
        where
          by : (v : Task) → slice_get mid j ≡ Some v → Stays (suc i) v u → IsTold (h ++ ends_now ∷ []) j u
          by v at (inl same) = subst (λ (x : Task). IsTold (h ++ ends_now ∷ []) j x) (sym same) (told_mid j v at)
          by v at (inr lost) = subst (λ (x : Task). IsTold (h ++ ends_now ∷ []) j x) (sym lost.1) (told_idle (h ++ ends_now ∷ []) j (in_state (Cancelled (suc i)) v) refl refl)

  settled : (waiting others : List ℕ) (n code' : ℕ) → ends_now ≡ pair (ask.Next waiting others) (reply.Ended n code') → IsSettled new h n code' []
  settled waiting others n code' is =
      let same : suc i ≡ n = eqb-true (suc i) n (ap (ends n) is ∙ eq-eqb n n refl) in
      let same_code : code ≡ code' = ap code_of is in
      let k = ended_kept i t there in
      subst (λ n. IsSettled new h n code' []) same
      (record {
        place = i;
        number = refl;
        task = k.0;
        there = k.1;
        good = λ g. (good_now k.0 k.1 (subst (λ c. IsGoodEnd t.made t.attempt c) (sym same_code) (subst (λ a. IsGoodEnd t.made a code') attempt_now (subst (λ m. IsGoodEnd m (attempt_in (suc i) h) code') k.2.made g))), refl);
      })
    where
      code_of : Event → ℕ
      code_of (pair a (reply.Ended n c)) = c
      code_of e = 0

      good_now : (u : Task) → slice_get new i ≡ Some u → IsGoodEnd t.made t.attempt code → is_good u ≡ true
      good_now u at good =
          let here = set_here ts i (ended_task code t) t there in
          let b = each_to (Stays (suc i)) mid new i (ended_task code t) mid_new here in
          let same : b.0 ≡ u = some_same b.0 u (sym b.1 ∙ at) in
          subst (λ (x : Task). is_good x ≡ true) same ((stays_kept (suc i) (ended_task code t) b.0 b.2).good (good_ended code t good))

  fits_ended : Fits new (h ++ ends_now ∷ [])
  fits_ended = record {
    told = told_end;
    starts = starts_more ts new ended_kept h ends_now f.starts (λ n attempt command r is. absurd (false≢true (ap (starts n) is ∙ eq-eqb n n refl)));
    ends = ends_more ts new ended_kept h ends_now (λ j u is good. refl) settled f.ends;
  }

-- Where a history leads

fits_pair : (c d : Conf) (h : History) (a : Ask) (r : Reply) → NeedEarlier c.tasks → Follows c a r d → Fits c.tasks h → Fits d.tasks (h ++ pair a r ∷ [])
fits_pair c d h a r earlier follows f = go follows.effect
  where
    begun : Begins c a r d → Fits d.tasks (h ++ pair a r ∷ [])
    begun b =
        let at = number_at 1 b.number (may_start c.cpus c.tasks) c.tasks (has_first _ b.number b.next) in
        let number : b.number ≡ suc at.place = let e = at.number in omega arith in
        let same : b.task ≡ at.task = some_same b.task at.task (sym b.there ∙ ap (task_at c.tasks) number ∙ at_number c.tasks at.place ∙ at.there) in
        let may = and_parts (waits at.task.state) _ at.passed in
        let good = (and_parts (list_all (passes is_good c.tasks) at.task.needs) _ may.1).0 in
        let needs = needs_met c.tasks d.tasks h at.place at.task at.task.made.command r b.none_ends at.there f at.task.needs (needs_low 0 c.tasks at.place at.task earlier at.there) good in
        let asked : a ≡ ask.Start (suc at.place) at.task.attempt at.task.made.command =
        b.asked ∙ ap (λ n. ask.Start n b.task.attempt b.task.made.command) number ∙ ap (λ (t : Task). ask.Start (suc at.place) t.attempt t.made.command) same in
        subst (λ x. Fits d.tasks (h ++ pair x r ∷ [])) (sym asked) (by at.place number at.task at.there may.0 needs b.behind)
      where
        by : (i : ℕ) → b.number ≡ suc i → (t : Task) → slice_get c.tasks i ≡ Some t → waits t.state ≡ true → AllByRecursion (IsMet c.tasks h) t.needs → ((is_fault r ≡ true) × (d.tasks ≡ c.tasks)) ⊎ ((is_fault r ≡ false) × (d.tasks ≡ started b.number c.tasks))
            → Fits d.tasks (h ++ pair (ask.Start (suc i) t.attempt t.made.command) r ∷ [])
        by i number t there waiting needs (inl is) =
            subst (λ us. Fits us (h ++ pair (ask.Start (suc i) t.attempt t.made.command) r ∷ [])) (sym is.1) (fits_asked c.tasks h i t t.made.command r b.none_ends there f waiting needs)
        by i number t there waiting needs (inr is) =
            subst (λ us. Fits us (h ++ pair (ask.Start (suc i) t.attempt t.made.command) r ∷ [])) (sym (is.1 ∙ ap (λ n. started n c.tasks) number))
            (fits_started c.tasks h i t t.made.command r b.none_ends there f waiting needs)

    ending : EndsOne c a r d → Fits d.tasks (h ++ pair a r ∷ [])
    ending e =
        let at = number_at 1 e.number (λ t. runs t.state) c.tasks e.there in
        let number : e.number ≡ suc at.place = let n = at.number in omega arith in
        let behind : d.tasks ≡ ended (suc at.place) e.code c.tasks = e.behind ∙ ap (λ n. ended n e.code c.tasks) number in
        let replied : r ≡ reply.Ended (suc at.place) e.code = e.replied ∙ ap (λ n. reply.Ended n e.code) number in
        subst (λ x. Fits d.tasks (h ++ pair x r ∷ [])) (sym e.asked)
        (subst (λ x. Fits d.tasks (h ++ pair (ask.Next e.waiting (running c.tasks)) x ∷ [])) (sym replied)
        (subst (λ us. Fits us (h ++ pair (ask.Next e.waiting (running c.tasks)) (reply.Ended (suc at.place) e.code) ∷ [])) (sym behind)
        (fits_ended c.tasks h at.place at.task e.code e.waiting (running c.tasks) at.there at.passed f)))

    go : Begins c a r d ⊎ (EndsOne c a r d ⊎ Rests c a r d) → Fits d.tasks (h ++ pair a r ∷ [])
    go (inl b) = begun b
    go (inr (inl e)) = ending e
    go (inr (inr s)) = fits_rest c.tasks d.tasks h (pair a r) (same_are_kept c.tasks d.tasks s.behind) (λ i u is. inl (sym (ap (λ l. slice_get l i) s.behind) ∙ is)) s.none_starts s.none_ends f

module _ (program : Program) (opening : Conf) (none : opening.tasks ≡ []) where
  fits : (c : Conf) (h : History) → Lives program opening h c → Fits c.tasks h
  fits _ _ Lives.opens = record {
    told = λ i t is. absurd (none_some t (sym (ap (λ l. slice_get l i) none) ∙ is));
    starts = λ before behind n attempt command r is. absurd (no_split before _ behind is);
    ends = λ before behind waiting running n code is. absurd (no_split before _ behind is);
  }
  fits _ _ (Lives.goes h c d lives moves) =
      fits_more c.tasks d.tasks h (keeps_source program c (Goes d) (quiet program opening none c h lives) moves).tasks (fits c h lives)
  fits _ _ (Lives.asks h c a next r lives moves answered) =
      fits_pair c (next r) h a r (needs_are_earlier program opening c h none lives)
      (keeps_source program c (Asks a next) (quiet program opening none c h lives) moves r answered.fitting) (fits c h lives)
  fits _ _ (Lives.restarts h c path image next cpus budget lives moves) =
      let saved = ask.Save path image in
      let f = fits_pair c (next reply.Done) h saved reply.Done (needs_are_earlier program opening c h none lives)
      (keeps_source program c (Asks saved next) (quiet program opening none c h lives) moves reply.Done refl) (fits c h lives) in
      subst (Fits (map revived_task (next reply.Done).tasks)) (append_assoc h (pair saved reply.Done ∷ []) (restart cpus budget ∷ []))
      (fits_restart (next reply.Done).tasks (h ++ pair saved reply.Done ∷ []) cpus budget f)

pub starts_behind_needs : InEachHistory (λ h c. StartsBehindNeeds c.tasks h)
starts_behind_needs program first c h opens lives = (fits program first opens.tasks c h lives).starts

pub good_ends_are_last : InEachHistory (λ h c. GoodEndsAreLast c.tasks h)
good_ends_are_last program first c h opens lives before behind waiting running n code is =
    let s = (fits program first opens.tasks c h lives).ends before behind waiting running n code is in
    record {
      task = s.task;
      there = record { low = let e = s.number in omega arith; there = ap (task_at c.tasks) s.number ∙ at_number c.tasks s.place ∙ s.there };
      none = λ g. (s.good g).1;
    }
