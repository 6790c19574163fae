-- What is kept beside tasks is that of the tasks behind each change.
use Rattle.std.proofs.Common.{◌≡◌, ◌⊎◌, inl, inr, ℕ, zero, suc, ◌+◌, ◌-◌, ◌*◌, ◌<◌, ◌≤◌, Bool, true, false, not, ◌&&◌, ◌||◌}
use Rattle.std.proofs.Common.{List, [], ◌∷◌, ◌++◌, length, map, Option, Some, None, IfSome, refl, sym, ap, ◌∙◌, arith, subst}
use Rattle.std.proofs.Common.{get_or, nat_eq, nat_lt, if◌then◌else◌}
use Rattle.std.proofs.lemmas.Bool.{false≢true}
use Rattle.std.proofs.lemmas.List.{map-append}
use Rattle.std.specs.List.{insert, list_any, remove, slice_get, slice_set}
use Rattle.std.specs.Option.{option_map, unwrap_or}
use Rattle.bds_levels.specs.Least.{NEVER}
use Rattle.bds_tasks.specs.declared.schedule.Schedule.{Schedule}
use Rattle.bds_value.specs.declared.TheConstants.{MAX_CPUS, MAX_TASKS}
use Rattle.bds_tasks.specs.declared.task.Task.{Task}
use Rattle.bds_tasks.specs.declared.task.TaskNew.{TaskNew}
use Rattle.bds_tasks.specs.declared.task.TaskState.{TaskState}
use Rattle.bds_tasks.specs.declared.task.TaskState.TheVariants.{Waits, Runs, Ended, Cancelled}
use Rattle.bds_tasks.specs.Ends.{ended_task}
use Rattle.bds_tasks.specs.Kept.{HasPlace, IsBehind, IsSchedule, LacksLast, MayHaveSchedule, TellsLost, busy, counts}
use Rattle.bds_tasks.specs.Kept.{is_lost_task, key_by, keys, list_at, lowered, position, unmet_of, with_keys, with_users}
use Rattle.bds_tasks.specs.Sound.{AreTasks, IsLegal}
use Rattle.bds_tasks.specs.Starts.{started}
use Rattle.bds_tasks.specs.Tasks.{added, in_state, is_bad, is_good, is_needed, numbers_of, is_ill, is_well, passes}
use Rattle.bds_tasks.specs.Tasks.{running, runs, task_at, waits}
use Rattle.bds_tasks.specs.Waits.{canceller, is_cancelled_in}
use Rattle.bds_tasks.proofs.SoundLaws.{adds_sound}
use Rattle.bds_tasks.proofs.RunningLaws.{running_less, running_more, running_push}
use Rattle.bds_tasks.proofs.StartLaws.{asks, busy_most, busy_push, busy_set}
use Rattle.bds_tasks.proofs.UnmetLaws.{Changes, Stay, changes, counts_same, get_there, keys_at, keys_long, keys_one}
use Rattle.bds_tasks.proofs.UnmetLaws.{lost_same}
use Rattle.bds_tasks.proofs.UnmetLaws.{no_key, runs_bad, there, unmet_stay, users_same, waits_bad, with_is}
use Rattle.bds_tasks.proofs.UserLaws.{needs_some, users_push}
use Rattle.bds_tasks.proofs.WellLaws.{counts_lowered, keys_raised}

waits_not_runs : (s : TaskState) → waits s ≡ true → runs s ≡ false
waits_not_runs Waits e = refl
waits_not_runs Runs e = absurd (cc)
waits_not_runs (Ended n) e = absurd (cc)
waits_not_runs (Cancelled n) e = absurd (cc)

runs_not_waits : (s : TaskState) → runs s ≡ true → waits s ≡ false
runs_not_waits Waits e = absurd (cc)
runs_not_waits Runs e = refl
runs_not_waits (Ended n) e = absurd (cc)
runs_not_waits (Cancelled n) e = absurd (cc)

pending_not_lost : (t : Task) → waits t.state || runs t.state ≡ true → is_lost_task t ≡ false
pending_not_lost t e = go t.made.can_fail t.state e
  where
    go : (can : Bool) (s : TaskState) → waits s || runs s ≡ true → is_ill can s || is_cancelled_in (canceller s) ≡ false
    go can Waits e = refl
    go can Runs e = refl
    go can (Ended n) e = absurd (cc)
    go can (Cancelled n) e = absurd (cc)

or_left : (a b : Bool) → a ≡ true → a || b ≡ true
or_left a b e = ap (λ x. x || b) e

or_right : (a b : Bool) → b ≡ true → a || b ≡ true
or_right true b e = refl
or_right false b e = e

-- a start

module _ (n cpus : ℕ) (ts : List Task) (one : 1 ≤ n) (w : passes (λ t. waits t.state) ts n ≡ true)
    (c : IfSome (task_at ts n) (λ (t : Task). t.made.cpus ≡ cpus)) where
  start_there : (t : Task) × ((task_at ts n ≡ Some t) × (waits t.state ≡ true))
  start_there = there (λ t. waits t.state) ts n w

  abbrev start_task : Task
  start_task = start_there.0

  start_changes : Changes ts (slice_set ts (n - 1) (in_state Runs start_task)) (n - 1) start_task
      (in_state Runs start_task)
  start_changes = changes ts (n - 1) start_task (in_state Runs start_task) start_there.1.0 refl

  more_busy : runs start_task.state ≡ false → start_task.made.cpus ≡ cpus → (old : ℕ) → old ≡ busy ts
      → old + cpus ≡ busy (slice_set ts (n - 1) (in_state Runs start_task))
  more_busy r e old is =
      let moved = busy_set ts (n - 1) start_task (in_state Runs start_task) start_there.1.0 in
      let none : asks start_task ≡ 0 = ap (λ b. if b then start_task.made.cpus else 0) r in
      omega (arith, moved, none, e, is)

  pub started_kept : (s : Schedule) → IsSchedule ts s
      → IsSchedule (started n ts) (record {
        unmet = s.unmet;
        needed_by = s.needed_by;
        keys = slice_set s.keys (n - 1) NEVER;
        running =
            insert s.running (position n s.running) n;
        busy = s.busy + cpus;
        some_lost = s.some_lost;
      })
  started_kept s k =
      let t = start_task in
      let u = in_state Runs t in
      let new = slice_set ts (n - 1) u in
      let h = start_changes in
      let good : is_good u ≡ is_good t = sym (waits_bad t.made.can_fail t.state start_there.1.1) in
      let lost : is_lost_task u ≡ is_lost_task t =
      sym (pending_not_lost t (or_left (waits t.state) (runs t.state) start_there.1.1)) in
      subst (λ (xs : List Task). IsSchedule xs (record {
        unmet = s.unmet;
        needed_by = s.needed_by;
        keys = slice_set s.keys (n - 1) NEVER;
        running = insert s.running (position n s.running) n;
        busy = s.busy + cpus;
        some_lost =
            s.some_lost;
      })) (sym (with_is (in_state Runs) n ts t start_there.1.0))
      (record {
        counted = k.counted ∙ sym (counts_same ts new (n - 1) t u h good);
        users = users_same ts new (n - 1) t u h s.needed_by k.users;
        keyed = ap (λ ks. slice_set ks (n - 1) NEVER) k.keyed
            ∙ sym (keys_one ts new (n - 1) t u h good
            ∙ ap (slice_set (keys ts) (n - 1)) (no_key u (get_or (counts ts) (n - 1) 0) refl));
        going = ap (λ ns. insert ns (position n ns) n) k.going
            ∙ running_more n ts t u one start_there.1.0 (waits_not_runs t.state start_there.1.1) refl;
        summed = more_busy (waits_not_runs t.state start_there.1.1)
            (subst (λ (o : Option Task). IfSome o (λ (x : Task). x.made.cpus ≡ cpus)) start_there.1.0 c) s.busy k.summed;
        lost = lost_same ts new (n - 1) t u h s.some_lost lost k.lost;
      })

-- an end

abbrev need_of : Task → List ℕ
need_of t = t.needs

abbrev state_of : Task → TaskState
state_of t = t.state

ended_needs : (code : ℕ) (t : Task) → (ended_task code t).needs ≡ t.needs
ended_needs code t = go (not (nat_eq code 0) && nat_lt t.attempt t.made.retry)
  where
    go : (b : Bool)
        → need_of (if b then record {
          made = t.made;
          needs = t.needs;
          attempt = t.attempt + 1;
          state = Waits;
        } else in_state (Ended code) t) ≡ t.needs
    go true = refl
    go false = refl

abbrev cpus_asked : Task → ℕ
cpus_asked t = t.made.cpus

ended_cpus : (code : ℕ) (t : Task) → (ended_task code t).made.cpus ≡ t.made.cpus
ended_cpus code t = go (not (nat_eq code 0) && nat_lt t.attempt t.made.retry)
  where
    go : (b : Bool)
        → cpus_asked (if b then record {
          made = t.made;
          needs = t.needs;
          attempt = t.attempt + 1;
          state = Waits;
        } else in_state (Ended code) t) ≡ t.made.cpus
    go true = refl
    go false = refl

-- what the end of a task leaves it as: it waits, or has ended
ended_state : (code : ℕ) (t : Task) → ((ended_task code t).state ≡ Waits) ⊎ ((ended_task code t).state ≡ Ended code)
ended_state code t = go (not (nat_eq code 0) && nat_lt t.attempt t.made.retry)
  where
    go : (b : Bool)
        → (state_of (if b then record {
          made = t.made;
          needs = t.needs;
          attempt = t.attempt + 1;
          state = Waits;
        } else in_state (Ended code) t) ≡ Waits)
        ⊎ (state_of (if b then record {
          made = t.made;
          needs = t.needs;
          attempt = t.attempt + 1;
          state = Waits;
        } else in_state (Ended code) t) ≡ Ended code)
    go true = inl refl
    go false = inr refl

module _ (n : ℕ) (now : List Task) (s : Schedule) (b : IsBehind n now s) where
  pub end_there : (t : Task) × ((task_at b.before n ≡ Some t) × (runs t.state ≡ true))
  end_there = there (λ t. runs t.state) b.before n b.ran

  abbrev pub end_old : Task
  end_old = end_there.0

  abbrev pub end_new : Task
  end_new = ended_task b.code end_old

  pub end_is : now ≡ slice_set b.before (n - 1) end_new
  end_is = b.is ∙ with_is (ended_task b.code) n b.before end_old end_there.1.0

  pub end_changes : Changes b.before now (n - 1) end_old end_new
  end_changes = subst (λ (xs : List Task). Changes b.before xs (n - 1) end_old end_new) (sym end_is)
      (changes b.before (n - 1) end_old end_new end_there.1.0 (ended_needs b.code end_old))

  pub end_test : (test : Task → Bool) (v : Bool) → passes test now n ≡ v → test end_new ≡ v
  end_test test v e = ap (λ (o : Option Task). unwrap_or (option_map test o) false) (sym end_changes.here) ∙ e

  pub old_not_good : is_good end_old ≡ false
  old_not_good = runs_bad end_old.made.can_fail end_old.state end_there.1.1

  new_not_runs : runs end_new.state ≡ false
  new_not_runs = elim (ended_state b.code end_old) [
    | inl e ↦ ap runs e
    | inr e ↦ ap runs e
  ]

  pub out_of_running : (position n s.running < length s.running)
      × (remove s.running (position n s.running) ≡ running now)
  out_of_running =
      let less = running_less n b.before end_old end_new b.one end_there.1.0 end_there.1.1 new_not_runs in
      subst (λ (ns : List ℕ). (position n ns < length ns)
      × (remove ns (position n ns) ≡ running now)) (sym b.kept.going) (less.0, less.1 ∙ ap running (sym end_is))

  out_of_busy : s.busy - end_new.made.cpus ≡ busy now
  out_of_busy =
      let moved = busy_set b.before (n - 1) end_old end_new end_there.1.0 in
      let made : end_new.made.cpus ≡ end_old.made.cpus = ended_cpus b.code end_old in
      let old : asks end_old ≡ end_old.made.cpus = ap (λ c. if c then end_old.made.cpus else 0) end_there.1.1 in
      let new : asks end_new ≡ 0 = ap (λ c. if c then end_new.made.cpus else 0) new_not_runs in
      let is : s.busy ≡ busy b.before = b.kept.summed in
      let all : busy now ≡ busy (slice_set b.before (n - 1) end_new) = ap busy end_is in
      omega (arith, moved, made, old, new, is, all)

  pub end_within : n - 1 < length now
  end_within = subst (λ l. n - 1 < l) (sym end_changes.long) (get_there b.before (n - 1) end_old end_there.1.0)

  pub end_lost : is_lost_task end_new ≡ false → TellsLost now s.some_lost
  end_lost e = lost_same b.before now (n - 1) end_old end_new end_changes s.some_lost (e
      ∙ sym (pending_not_lost end_old (or_right (waits end_old.state) (runs end_old.state) end_there.1.1))) b.kept.lost

  pub users_within : n - 1 < length s.needed_by
  users_within = subst (λ l. n - 1 < l) (sym (b.kept.users.long ∙ sym end_changes.long)) end_within

  pub again_kept : passes is_good now n ≡ false → passes is_bad now n ≡ false
      → IsSchedule now (record {
        unmet = s.unmet;
        needed_by = s.needed_by;
        keys = slice_set s.keys (n - 1) (key_by end_new (get_or s.unmet (n - 1) 0));
        running =
            remove s.running (position n s.running);
        busy = s.busy - end_new.made.cpus;
        some_lost = s.some_lost;
      })
  again_kept g i =
      let good : is_good end_new ≡ is_good end_old = end_test is_good false g ∙ sym old_not_good in
      record {
        counted = b.kept.counted ∙ sym (counts_same b.before now (n - 1) end_old end_new end_changes good);
        users = users_same b.before now (n - 1) end_old end_new end_changes s.needed_by b.kept.users;
        keyed = ap (λ ks. slice_set ks (n - 1) (key_by end_new (get_or s.unmet (n - 1) 0))) b.kept.keyed
            ∙ ap (λ cs. slice_set (keys b.before) (n - 1) (key_by end_new (get_or cs (n - 1) 0))) b.kept.counted
            ∙ sym (keys_one b.before now (n - 1) end_old end_new end_changes good);
        going = out_of_running.1;
        summed = out_of_busy;
        lost = end_lost (elim (ended_state b.code end_old) [
          | inl e ↦ pending_not_lost end_new (or_left (waits end_new.state) (runs end_new.state) (ap waits e))
          | inr e ↦ not_either (end_test is_good false g) (end_test is_bad false i) e
        ]);
      }
    where
      either : (can : Bool) (code : ℕ) → is_well can (Ended code) ≡ false → is_ill can (Ended code) ≡ false → ⊥
      either can code g i = go (can || nat_eq code 0) g i
        where
          go : (c : Bool) → c ≡ false → not c ≡ false → ⊥
          go true g i = false≢true (sym g)
          go false g i = false≢true (sym i)

      not_either : is_good end_new ≡ false → is_bad end_new ≡ false → end_new.state ≡ Ended b.code
          → is_lost_task end_new ≡ false
      not_either g i e = elim (either end_new.made.can_fail b.code (ap (is_well end_new.made.can_fail) (sym e)
          ∙ g) (ap (is_ill end_new.made.can_fail) (sym e) ∙ i)) [ ]

  new_ended : (v : Bool) → (is_good end_new ≡ true) ⊎ (is_bad end_new ≡ true) → waits end_new.state ≡ false
  new_ended v h = elim (ended_state b.code end_old) [
    | inl e ↦ elim h [
      | inl g ↦ elim (false≢true (sym (waits_bad end_new.made.can_fail end_new.state (ap waits e)) ∙ g)) [ ]
      | inr i ↦ elim (false≢true (sym (ap (is_ill end_new.made.can_fail) e) ∙ i)) [ ]
    ]
    | inr e ↦ ap waits e
  ]

  pub badly_kept : passes is_bad now n ≡ true
      → IsSchedule now (record {
        unmet = s.unmet;
        needed_by = s.needed_by;
        keys = s.keys;
        running = remove s.running (position n s.running);
        busy = s.busy - end_new.made.cpus;
        some_lost = true;
      })
  badly_kept i =
      let bad = end_test is_bad true i in
      let good : is_good end_new ≡ is_good end_old = not_good end_new bad ∙ sym old_not_good in
      let v = key_by end_new (get_or (counts b.before) (n - 1) 0) in
      record {
        counted = b.kept.counted ∙ sym (counts_same b.before now (n - 1) end_old end_new end_changes good);
        users = users_same b.before now (n - 1) end_old end_new end_changes s.needed_by b.kept.users;
        keyed = b.kept.keyed
            ∙ sym (keys_one b.before now (n - 1) end_old end_new end_changes good ∙ same_set (keys b.before) (n - 1) v (
            keys_at b.before (n - 1)
            ∙ ap (λ (o : Option Task). unwrap_or (option_map (λ (x : Task). key_by x (unmet_of b.before x.needs)) o)
            0) end_there.1.0
            ∙ no_key end_old (unmet_of b.before end_old.needs) (runs_not_waits end_old.state end_there.1.1)
            ∙ sym (no_key end_new (get_or (counts b.before) (n - 1) 0) (new_ended true (inr bad)))));
        going = out_of_running.1;
        summed = out_of_busy;
        lost = λ e. elim (false≢true (sym e)) [ ];
      }
    where
      not_good : (t : Task) → is_bad t ≡ true → is_good t ≡ false
      not_good t e = go t.made.can_fail t.state e
        where
          turn : (c : Bool) → not c ≡ true → c ≡ false
          turn true e = absurd (cc)
          turn false e = refl

          go : (can : Bool) (s : TaskState) → is_ill can s ≡ true → is_well can s ≡ false
          go can Waits e = refl
          go can Runs e = refl
          go can (Ended code) e = turn (can || nat_eq code 0) e
          go can (Cancelled m) e = refl

      same_set : (xs : List ℕ) (k v : ℕ) → get_or xs k 0 ≡ v → slice_set xs k v ≡ xs
      same_set [] k v e = refl
      same_set (x ∷ xs) zero v e = ap (λ z. z ∷ xs) (sym e)
      same_set (x ∷ xs) (suc k) v e = ap (λ (zs : List ℕ). x ∷ zs) (same_set xs k v e)

  pub well_kept : passes is_good now n ≡ true
      → IsSchedule now (record {
        unmet = lowered (list_at s.needed_by (n - 1)) s.unmet;
        needed_by = s.needed_by;
        keys = with_keys now (lowered (list_at s.needed_by (n - 1)) s.unmet) (list_at s.needed_by (n - 1)) s.keys;
        running = remove s.running (position n s.running);
        busy = s.busy - end_new.made.cpus;
        some_lost = s.some_lost;
      })
  well_kept g =
      let good = end_test is_good true g in
      let less : lowered (list_at s.needed_by (n - 1)) s.unmet ≡ counts now = ap (lowered (list_at s.needed_by (n - 1)))
      b.kept.counted
      ∙ counts_lowered b.before now (n - 1) end_old end_new end_changes old_not_good good s.needed_by
      b.kept.users (needs_some b.before b.are) in
      record {
        counted = less;
        users = users_same b.before now (n - 1) end_old end_new end_changes s.needed_by b.kept.users;
        keyed = ap (λ cs. with_keys now cs (list_at s.needed_by (n - 1)) s.keys) less
            ∙ ap (with_keys now (counts now) (list_at s.needed_by (n - 1))) b.kept.keyed
            ∙ keys_raised b.before now (n - 1) end_old end_new end_changes old_not_good good
            (runs_not_waits end_old.state end_there.1.1) (new_ended true (inl good)) s.needed_by b.kept.users
            (needs_some b.before b.are);
        going = out_of_running.1;
        summed = out_of_busy;
        lost = end_lost (good_not_lost end_new good);
      }
    where
      good_not_lost : (t : Task) → is_good t ≡ true → is_lost_task t ≡ false
      good_not_lost t e = go t.made.can_fail t.state e
        where
          turn : (c : Bool) → c ≡ true → not c || false ≡ false
          turn true e = refl
          turn false e = absurd (cc)

          go : (can : Bool) (s : TaskState) → is_well can s ≡ true
              → is_ill can s || is_cancelled_in (canceller s) ≡ false
          go can Waits e = refl
          go can Runs e = refl
          go can (Ended code) e = turn (can || nat_eq code 0) e
          go can (Cancelled m) e = absurd (cc)

-- one task more

push_test : (test : Task → Bool) (ts : List Task) (t : Task) → test t ≡ false → (m : ℕ)
    → passes test (ts ++ t ∷ []) m ≡ passes test ts m
push_test test ts t e m = go ts (m - 1)
  where
    go : (us : List Task) (k : ℕ)
        → unwrap_or (option_map test (slice_get (us
        ++ t ∷ []) k)) false ≡ unwrap_or (option_map test (slice_get us k)) false
    go [] zero = e
    go [] (suc k) = refl
    go (u ∷ us) zero = refl
    go (u ∷ us) (suc k) = go us k

map_counts : (old new ts : List Task) → Stay old new
    → map (λ (t : Task). unmet_of new t.needs) ts ≡ map (λ (t : Task). unmet_of old t.needs) ts
map_counts old new [] s = refl
map_counts old new (t ∷ ts) s = ap (λ x. x ∷ map (λ (y : Task). unmet_of new y.needs) ts) (unmet_stay old new s t.needs)
    ∙ ap (λ xs. unmet_of old t.needs ∷ xs) (map_counts old new ts s)

map_keys : (old new ts : List Task) → Stay old new
    → map (λ (t : Task). key_by t (unmet_of new t.needs)) ts ≡ map (λ (t : Task). key_by t (unmet_of old t.needs)) ts
map_keys old new [] s = refl
map_keys old new (t ∷ ts) s = ap (λ x. key_by t x ∷ map (λ (y : Task). key_by y (unmet_of new y.needs)) ts)
    (unmet_stay old new s t.needs) ∙ ap (λ xs. key_by t (unmet_of old t.needs) ∷ xs) (map_keys old new ts s)

pub last_kept : (now : List Task) (t : Task) (s : Schedule) → LacksLast now t s
    → IsSchedule now (record {
      unmet = s.unmet ++ unmet_of now t.needs ∷ [];
      needed_by = with_users (length now) t.needs (s.needed_by ++ [] ∷ []);
      keys =
          s.keys ++ key_by t (unmet_of now t.needs) ∷ [];
      running = s.running;
      busy = s.busy;
      some_lost = s.some_lost;
    })
last_kept now t s k =
    let before = k.before in
    let all = before ++ t ∷ [] in
    let good : is_good t ≡ false = waits_bad t.made.can_fail t.state (ap waits k.waiting) in
    let stay : Stay before all = push_test is_good before t good in
    subst (λ (xs : List Task). IsSchedule xs (record {
      unmet = s.unmet ++ unmet_of xs t.needs ∷ [];
      needed_by = with_users (length xs) t.needs (s.needed_by ++ [] ∷ []);
      keys =
          s.keys ++ key_by t (unmet_of xs t.needs) ∷ [];
      running = s.running;
      busy = s.busy;
      some_lost = s.some_lost;
    })) (sym k.is)
    (record {
      counted = ap (λ cs. cs ++ unmet_of all t.needs ∷ []) (k.kept.counted ∙ sym (map_counts before all before stay))
          ∙ sym (map-append (λ (x : Task). unmet_of all x.needs) before (t ∷ []));
      users = users_push before t s.needed_by (subst AreTasks k.is k.are) k.kept.users;
      keyed = ap (λ ks. ks ++ key_by t (unmet_of all t.needs) ∷ []) (k.kept.keyed
          ∙ sym (map_keys before all before stay))
          ∙ sym (map-append (λ (x : Task). key_by x (unmet_of all x.needs)) before (t ∷ []));
      going = k.kept.going ∙ sym (running_push before t (ap runs k.waiting));
      summed = k.kept.summed ∙ sym (busy_push before t (ap runs k.waiting));
      lost = λ none m. push_test is_lost_task before t (pending_not_lost t
          (or_left (waits t.state) (runs t.state) (ap waits k.waiting))) m ∙ k.kept.lost none m;
    })

get_last : (before : List Task) (t d : Task) → get_or (before ++ t ∷ []) (length before) d ≡ t
get_last [] t d = refl
get_last (b ∷ before) t d = get_last before t d

-- behind an addition the schedule lacks the last task
pub lacks_last : (before ts : List Task) (new : TaskNew) (at : Task) (o : Option Schedule) → ts ≡ added before new
    → at ≡ get_or ts (length before) at → AreTasks before → length before < MAX_TASKS → IsLegal new
    → MayHaveSchedule before o → IfSome o (λ s. LacksLast ts at s)
lacks_last before ts new at None all is are room legal kept = tt
lacks_last before ts new at (Some s) all is are room legal kept =
    let t : Task = record { made = new; needs = numbers_of (is_needed new) before; attempt = 0; state = Waits } in
    let last : at ≡ t = is ∙ ap (λ xs. get_or xs (length before) at) all ∙ get_last before t at in
    subst (λ (x : Task). LacksLast ts x s) (sym last) (record {
      before = before;
      is = all;
      are = subst AreTasks (sym all) (adds_sound new before are room legal);
      waiting = refl;
      kept = kept;
    })

-- what is left without those of the task that ended
pub out_of : (now : List Task) (n : ℕ) (u : Task) (left old : ℕ) → task_at now n ≡ Some u
    → IfSome (task_at now n) (λ (t : Task). left ≡ old - t.made.cpus) → left ≡ old - u.made.cpus
out_of now n u left old e h = subst (λ (o : Option Task). IfSome o (λ (t : Task). left ≡ old - t.made.cpus)) e h

-- a task that is there has a place, and the sum is small
pub has_place : (n : ℕ) (ts : List Task) (o : Option Schedule) → AreTasks ts → 1 ≤ n → n ≤ length ts
    → MayHaveSchedule ts o → HasPlace n o
has_place n ts None are one there kept = tt
has_place n ts (Some s) are one there kept = (
  one,
  subst (λ l. n ≤ l) (sym (ap (λ (ks : List ℕ). length ks) kept.keyed ∙ keys_long ts)) there,
  subst (λ b. b ≤ MAX_CPUS * MAX_TASKS) (sym kept.summed) (busy_most ts are),
)

-- whether one is lost

none_passes : (test : Task → Bool) (ts : List Task) → list_any test ts ≡ false → (k : ℕ)
    → unwrap_or (option_map test (slice_get ts k)) false ≡ false
none_passes test [] e k = refl
none_passes test (t ∷ ts) e zero = first (test t) e
  where
    first : (b : Bool) → b || list_any test ts ≡ false → b ≡ false
    first true e = e
    first false e = refl
none_passes test (t ∷ ts) e (suc k) = none_passes test ts (rest (test t) e) k
  where
    rest : (b : Bool) → b || list_any test ts ≡ false → list_any test ts ≡ false
    rest true e = elim (false≢true (sym e)) [ ]
    rest false e = e

pub tells_lost : (ts : List Task) (b : Bool) → b ≡ list_any is_lost_task ts → TellsLost ts b
tells_lost ts b e none m = none_passes is_lost_task ts (sym e ∙ none) (m - 1)

pub is_unset : (b : Bool) → not b ≡ true → b ≡ false
is_unset true e = absurd (cc)
is_unset false e = refl
