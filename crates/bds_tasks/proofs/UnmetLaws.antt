-- The counts of unmet needs, and the keys, by the places of tasks; behind a change of one task.
use Rattle.std.proofs.Common.{◌≡◌, ℕ, zero, suc, ◌+◌, ◌-◌, ◌<◌, ◌≤◌, Bool, true, false, ◌&&◌, List, [], ◌∷◌, length}
use Rattle.std.proofs.Common.{map, Option, Some, None, refl, sym, ap, ◌∙◌, subst, arith, get_or, nat_eq, if◌then◌else◌}
use Rattle.std.proofs.lemmas.Bool.{eq-eqb, eqb-true, false≢true}
use Rattle.std.proofs.lemmas.List.{length-map}
use Rattle.std.specs.List.{slice_get, slice_set}
use Rattle.std.specs.Option.{option_map, unwrap_or}
use Rattle.bds_levels.specs.Least.{NEVER}
use Rattle.bds_tasks.specs.declared.task.Task.{Task}
use Rattle.bds_tasks.specs.declared.task.TaskState.{TaskState}
use Rattle.bds_tasks.specs.declared.task.TaskState.TheVariants.{Waits, Runs, Ended, Cancelled}
use Rattle.bds_tasks.specs.Kept.{AreUsers, TellsLost, counts, is_lost_task, key_at, key_by, keys, needs_at, times}
use Rattle.bds_tasks.specs.Kept.{unmet_of}
use Rattle.bds_tasks.specs.Tasks.{is_good, is_well, passes, put_at, runs, task_at, waits, with_task}
use Rattle.bds_tasks.proofs.PlaceLaws.{list_ext, same_or_not, set_here, set_long, set_other}

-- the same ones have ended well
abbrev pub Stay : List Task → List Task → Type 0
Stay old new = (m : ℕ) → passes is_good new m ≡ passes is_good old m

pub unmet_stay : (old new : List Task) → Stay old new → (ns : List ℕ) → unmet_of new ns ≡ unmet_of old ns
unmet_stay old new s [] = refl
unmet_stay old new s (n ∷ ns) =
    ap (λ b. if b then unmet_of new ns else suc (unmet_of new ns)) (s n)
    ∙ ap (λ x. if passes is_good old n then x else suc x) (unmet_stay old new s ns)

-- where task n has ended well besides, each list has as many fewer unmet as it names it
pub unmet_fall : (old new : List Task) (n : ℕ)
    → ((m : ℕ) → 1 ≤ m → (n ≡ m → ⊥) → passes is_good new m ≡ passes is_good old m) → passes is_good old n ≡ false
    → passes is_good new n ≡ true
    → (ns : List ℕ) → times 0 ns ≡ 0 → unmet_of old ns ≡ unmet_of new ns + times n ns
unmet_fall old new n h a b [] z = refl
unmet_fall old new n h a b (m ∷ ns) z = go (unmet_fall old new n h a b ns) (nat_eq n m) refl (nat_eq 0 m) refl z
  where
    fell : (o p : Bool) → o ≡ false → p ≡ true → unmet_of old ns ≡ unmet_of new ns + times n ns
        → (if o then unmet_of old ns else suc (unmet_of old ns)) ≡
        (if p then unmet_of new ns else suc (unmet_of new ns)) + suc (times n ns)
    fell false true e f r = omega (arith, r)
    fell true p e f r = elim (false≢true (sym e)) [ ]
    fell false false e f r = elim (false≢true f) [ ]

    kept : (o p : Bool) → p ≡ o → unmet_of old ns ≡ unmet_of new ns + times n ns
        → (if o then unmet_of old ns else suc (unmet_of old ns)) ≡
        (if p then unmet_of new ns else suc (unmet_of new ns)) + times n ns
    kept true true e r = r
    kept false false e r = omega (arith, r)
    kept true false e r = elim (false≢true e) [ ]
    kept false true e r = elim (false≢true (sym e)) [ ]

    one : (k : ℕ) → nat_eq 0 k ≡ false → 1 ≤ k
    one zero e = elim (false≢true (sym e ∙ eq-eqb 0 0 refl)) [ ]
    one (suc k) e = omega arith

    go : (times 0 ns ≡ 0 → unmet_of old ns ≡ unmet_of new ns + times n ns) → (c : Bool) → nat_eq n m ≡ c → (d : Bool)
        → nat_eq 0 m ≡ d → (if d then suc (times 0 ns) else times 0 ns) ≡ 0
        → unmet_of old (m ∷ ns) ≡ unmet_of new (m ∷ ns) + (if c then suc (times n ns) else times n ns)
    go more c e true f zs = let no : ⊥ = omega (arith, zs) in elim no [ ]
    go more true e false f zs =
        let is : n ≡ m = eqb-true n m e in
        fell (passes is_good old m) (passes is_good new m) (ap (passes is_good old) (sym is)
        ∙ a) (ap (passes is_good new) (sym is) ∙ b) (more zs)
    go more false e false f zs = kept (passes is_good old m) (passes is_good new m)
        (h m (one m f) (λ is. false≢true (sym e ∙ eq-eqb n m is))) (more zs)

-- by places

pub counts_from : (all ts : List Task) (i : ℕ)
    → get_or (map (λ (t : Task). unmet_of all t.needs) ts) i 0 ≡ unmet_of all (needs_at ts i)
counts_from all [] i = refl
counts_from all (t ∷ ts) zero = refl
counts_from all (t ∷ ts) (suc i) = counts_from all ts i

pub counts_at : (ts : List Task) (i : ℕ) → get_or (counts ts) i 0 ≡ unmet_of ts (needs_at ts i)
counts_at ts i = counts_from ts ts i

pub counts_long : (ts : List Task) → length (counts ts) ≡ length ts
counts_long ts = length-map ts (λ (t : Task). unmet_of ts t.needs)

keys_from : (all ts : List Task) (i : ℕ)
    → get_or (map (λ (t : Task). key_by t (unmet_of all t.needs)) ts) i 0 ≡ unwrap_or
    (option_map (λ (t : Task). key_by t (unmet_of all t.needs)) (slice_get ts i)) 0
keys_from all [] i = refl
keys_from all (t ∷ ts) zero = refl
keys_from all (t ∷ ts) (suc i) = keys_from all ts i

pub keys_at : (ts : List Task) (i : ℕ) → get_or (keys ts) i 0 ≡ key_at ts i
keys_at ts i = keys_from ts ts i

pub keys_long : (ts : List Task) → length (keys ts) ≡ length ts
keys_long ts = length-map ts (λ (t : Task). key_by t (unmet_of ts t.needs))

-- one task is another one

pub record Changes (old new : List Task) (k : ℕ) (t u : Task) : Type 0 where
  pub long : length new ≡ length old
  pub was : slice_get old k ≡ Some t
  pub here : slice_get new k ≡ Some u
  pub others : (i : ℕ) → (k ≡ i → ⊥) → slice_get new i ≡ slice_get old i
  pub needs : u.needs ≡ t.needs

tasks_long : (ts : List Task) (k : ℕ) (u : Task) → length (slice_set ts k u) ≡ length ts
tasks_long [] k u = refl
tasks_long (t ∷ ts) zero u = refl
tasks_long (t ∷ ts) (suc k) u = ap suc (tasks_long ts k u)

here_set : (ts : List Task) (k : ℕ) (t u : Task) → slice_get ts k ≡ Some t → slice_get (slice_set ts k u) k ≡ Some u
here_set [] k t u e = absurd (cc)
here_set (x ∷ ts) zero t u e = refl
here_set (x ∷ ts) (suc k) t u e = here_set ts k t u e

other_set : (ts : List Task) (k i : ℕ) (u : Task) → (k ≡ i → ⊥) → slice_get (slice_set ts k u) i ≡ slice_get ts i
other_set [] k i u h = refl
other_set (t ∷ ts) zero zero u h = elim (h refl) [ ]
other_set (t ∷ ts) zero (suc i) u h = refl
other_set (t ∷ ts) (suc k) zero u h = refl
other_set (t ∷ ts) (suc k) (suc i) u h = other_set ts k i u (λ e. h (ap suc e))

pub changes : (ts : List Task) (k : ℕ) (t u : Task) → slice_get ts k ≡ Some t → u.needs ≡ t.needs
    → Changes ts (slice_set ts k u) k t u
changes ts k t u e n = record {
  long = tasks_long ts k u;
  was = e;
  here = here_set ts k t u e;
  others = λ i h. other_set ts k i u h;
  needs = n;
}

-- a task that passes is there
pub there : (test : Task → Bool) (ts : List Task) (n : ℕ) → passes test ts n ≡ true
    → (t : Task) × ((task_at ts n ≡ Some t) × (test t ≡ true))
there test ts n e = go (task_at ts n) refl e
  where
    go : (o : Option Task) → task_at ts n ≡ o → unwrap_or (option_map test o) false ≡ true
        → (t : Task) × ((task_at ts n ≡ Some t) × (test t ≡ true))
    go None d e = elim (false≢true e) [ ]
    go (Some t) d e = (t, (d, e))

pub with_is : (change : Task → Task) (n : ℕ) (ts : List Task) (t : Task) → task_at ts n ≡ Some t
    → with_task change n ts ≡ slice_set ts (n - 1) (change t)
with_is change n ts t e = ap (λ (o : Option Task). put_at (n - 1) (option_map change o) ts) e

pub get_there : (ts : List Task) (k : ℕ) (t : Task) → slice_get ts k ≡ Some t → k < length ts
get_there [] k t e = absurd (cc)
get_there (x ∷ ts) zero t e = omega arith
get_there (x ∷ ts) (suc k) t e = let l = get_there ts k t e in omega (arith, l)

module _ (old new : List Task) (k : ℕ) (t u : Task) (c : Changes old new k t u) where
  pub needs_same : (i : ℕ) → needs_at new i ≡ needs_at old i
  needs_same i = same_or_not (needs_at new i ≡ needs_at old i) k i
      (λ e. subst (λ j. needs_at new j ≡ needs_at old j) e (
      ap (λ (o : Option Task). unwrap_or (option_map (λ (x : Task). x.needs) o) []) c.here ∙ c.needs
      ∙ sym (ap (λ (o : Option Task). unwrap_or (option_map (λ (x : Task). x.needs) o) []) c.was)))
      (λ h. ap (λ (o : Option Task). unwrap_or (option_map (λ (x : Task). x.needs) o) []) (c.others i h))

  pub test_same : (test : Task → Bool) → test u ≡ test t → (m : ℕ) → passes test new m ≡ passes test old m
  test_same test e m = same_or_not (passes test new m ≡ passes test old m) k (m - 1)
      (λ is.
      ap (λ (o : Option Task). unwrap_or (option_map test o) false) (subst (λ j. slice_get new j ≡ Some u) is c.here)
      ∙ e
      ∙ sym (ap (λ (o : Option Task). unwrap_or (option_map test o) false)
      (subst (λ j. slice_get old j ≡ Some t) is c.was)))
      (λ h. ap (λ (o : Option Task). unwrap_or (option_map test o) false) (c.others (m - 1) h))

  pub users_same : (users : List (List ℕ)) → AreUsers old users → AreUsers new users
  users_same users a = record {
    long = a.long ∙ sym c.long;
    often = λ i j l. a.often i j (subst (λ x. j < x) c.long l) ∙ ap (times (suc j)) (sym (needs_same i));
    some = a.some;
  }

  pub lost_same : (b : Bool) → (is_lost_task u ≡ is_lost_task t) → TellsLost old b → TellsLost new b
  lost_same b e h none m = test_same is_lost_task e m ∙ h none m

  pub counts_same : is_good u ≡ is_good t → counts new ≡ counts old
  counts_same e = list_ext (counts new) (counts old) (counts_long new ∙ c.long ∙ sym (counts_long old))
      (λ i. counts_at new i ∙ ap (unmet_of new) (needs_same i)
      ∙ unmet_stay old new (test_same is_good e) (needs_at old i) ∙ sym (counts_at old i))

  pub other_key : is_good u ≡ is_good t → (i : ℕ) → (k ≡ i → ⊥) → key_at new i ≡ key_at old i
  other_key e i h = ap (λ (o : Option Task). unwrap_or (option_map (λ (x : Task). key_by x (unmet_of new x.needs)) o) 0)
      (c.others i h) ∙ go (slice_get old i)
    where
      go : (o : Option Task)
          → unwrap_or (option_map (λ (x : Task). key_by x (unmet_of new x.needs)) o) 0 ≡ unwrap_or
          (option_map (λ (x : Task). key_by x (unmet_of old x.needs)) o) 0
      go None = refl
      go (Some x) = ap (key_by x) (unmet_stay old new (test_same is_good e) x.needs)

  -- the key of the one, by its count, which stays
  pub keys_one : is_good u ≡ is_good t → keys new ≡ slice_set (keys old) k (key_by u (get_or (counts old) k 0))
  keys_one e =
      let v = key_by u (get_or (counts old) k 0) in
      list_ext (keys new) (slice_set (keys old) k v) (keys_long new ∙ c.long
      ∙ sym (set_long (keys old) k v ∙ keys_long old))
      (λ i. keys_at new i ∙ same_or_not (key_at new i ≡ get_or (slice_set (keys old) k v) i 0) k i
      (λ is. subst (λ j. key_at new j ≡ get_or (slice_set (keys old) k v) j 0) is (
      ap (λ (o : Option Task). unwrap_or (option_map (λ (x : Task). key_by x (unmet_of new x.needs)) o) 0) c.here
      ∙ ap (key_by u) (
      ap (unmet_of new) (ap (λ (o : Option Task). unwrap_or (option_map (λ (x : Task). x.needs) o) []) (sym c.here))
      ∙ sym (counts_at new k) ∙ ap (λ cs. get_or cs k 0) (counts_same e))
      ∙ sym (set_here (keys old) k v (subst (λ l. k < l) (sym (keys_long old)) (get_there old k t c.was)))))
      (λ h. other_key e i h ∙ sym (keys_at old i) ∙ sym (set_other (keys old) k i v h)))

-- the key of a task that doesn't wait
pub no_key : (u : Task) (count : ℕ) → waits u.state ≡ false → key_by u count ≡ NEVER
no_key u count e = ap (λ b. if b && nat_eq count 0 then u.made.cpus else NEVER) e

-- the key of a task with an unmet need
pub unmet_key : (u : Task) (count : ℕ) → nat_eq count 0 ≡ false → key_by u count ≡ NEVER
unmet_key u count e = ap (λ b. if waits u.state && b then u.made.cpus else NEVER) e ∙ go (waits u.state)
  where
    go : (b : Bool) → (if b && false then u.made.cpus else NEVER) ≡ NEVER
    go true = refl
    go false = refl

pub waits_bad : (can : Bool) (s : TaskState) → waits s ≡ true → is_well can s ≡ false
waits_bad can Waits e = refl
waits_bad can Runs e = refl
waits_bad can (Ended n) e = absurd (cc)
waits_bad can (Cancelled n) e = refl

pub runs_bad : (can : Bool) (s : TaskState) → runs s ≡ true → is_well can s ≡ false
runs_bad can Waits e = refl
runs_bad can Runs e = refl
runs_bad can (Ended n) e = absurd (cc)
runs_bad can (Cancelled n) e = refl
