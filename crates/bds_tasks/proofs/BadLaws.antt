-- What a bad end does by the users of each task is what the walk over all tasks does, and it ends.
use Rattle.std.proofs.Common.{◌≡◌, ℕ, zero, suc, ◌+◌, ◌-◌, ◌<◌, ◌≤◌, Bool, true, false, List, [], ◌∷◌, length, Option}
use Rattle.std.proofs.Common.{Some, None, refl, sym, ap, ◌∙◌, subst, arith, get_or, nat_eq, nat_le, if◌then◌else◌}
use Rattle.std.specs.List.{slice_get, slice_set}
use Rattle.std.specs.Option.{option_map, unwrap_or}
use Rattle.bds_levels.specs.Least.{NEVER, place}
use Rattle.bds_tasks.specs.declared.task.Task.{Task}
use Rattle.bds_tasks.specs.declared.task.TaskState.TheVariants.{Cancelled}
use Rattle.bds_tasks.specs.Cancelling.{Cancels}
use Rattle.bds_tasks.specs.Ends.{cancelled_behind, cancelled_if, ended_task}
use Rattle.bds_tasks.specs.Kept.{AreUsers, Cancelling, HasEnded, all_cancelled, all_marked, cancelled_one}
use Rattle.bds_tasks.specs.Kept.{keys as keys_of, list_at, marked_one}
use Rattle.bds_tasks.specs.Sound.{AreSound, AreTasks, EndedBadly}
use Rattle.bds_tasks.specs.Tasks.{in_state, is_bad, passes, waits, with_task}
use Rattle.bds_tasks.proofs.CancelLaws.{ends_cancel}
use Rattle.bds_tasks.proofs.PlaceLaws.{set_long}
use Rattle.bds_tasks.proofs.SoundLaws.{ended_tasks}
use Rattle.bds_tasks.proofs.SpreadLaws.{cancel_starts, followed, keys_done, tasks_done, waits_there}
use Rattle.bds_tasks.proofs.UnmetLaws.{with_is}
use Rattle.bds_tasks.proofs.UserLaws.{needs_some}

-- what a place that is found says
pub place_zero : (ks : List ℕ) (at : ℕ) → place 0 ks ≡ Some at → (at < length ks) × (get_or ks at 0 ≡ 0)
place_zero [] at e = absurd (cc)
place_zero (k ∷ ks) at e = go (place_zero ks) (nat_le k 0) refl e (place 0 ks) refl
  where
    go : ((j : ℕ) → place 0 ks ≡ Some j → (j < length ks) × (get_or ks j 0 ≡ 0)) → (b : Bool) → nat_le k 0 ≡ b
        → (if b then Some 0 else option_map suc (place 0 ks)) ≡ Some at → (o : Option ℕ) → place 0 ks ≡ o
        → (at < length (k ∷ ks)) × (get_or (k ∷ ks) at 0 ≡ 0)
    go more true d e o f = let z : 0 ≡ at = ap (λ (p : Option ℕ). unwrap_or p 0) e in subst (λ j. (j < length (k ∷ ks))
        × (get_or (k ∷ ks) j 0 ≡ 0)) z (omega arith, (let m : k ≡ 0 = grind (arith, d) in m))
    go more false d e None f = absurd (cc)
    go more false d e (Some j) f =
        let h = more j f in
        let z : suc j ≡ at = ap (λ (p : Option ℕ). unwrap_or p 0) (sym (ap (option_map suc) f) ∙ e) in
        subst (λ x. (x < length (k ∷ ks)) × (get_or (k ∷ ks) x 0 ≡ 0)) z (let l = h.0 in omega (arith, l), h.1)

some_sized : (P : ℕ → Type 0) (j : ℕ) (ts : List Task) → AreSound P j ts → (i : ℕ) (t : Task) → slice_get ts i ≡ Some t
    → 1 ≤ t.made.cpus
some_sized P j [] a i t e = absurd (cc)
some_sized P j (x ∷ ts) a zero t e =
    subst (λ (y : Task). 1 ≤ y.made.cpus) (ap (λ (o : Option Task). unwrap_or o x) e) a.0.made.some_cpus
some_sized P j (x ∷ ts) a (suc i) t e = some_sized P (j + 1) ts a.1 i t e

module _ (n : ℕ) (old : List Task) (h : HasEnded n old) (bad : passes is_bad old n ≡ true) where
  pub old_tasks : AreTasks old
  old_tasks = subst AreTasks (sym h.is) (ended_tasks n h.code h.before h.are h.ran)

  cpus : (i : ℕ) (t : Task) → slice_get old i ≡ Some t → 1 ≤ t.made.cpus
  cpus = some_sized (EndedBadly old) 0 old old_tasks.sound

  pub bad_starts : (keys : List ℕ) → keys ≡ keys_of old → Cancelling n old old (slice_set keys (n - 1) 0) None
  bad_starts keys e = cancel_starts n old bad (needs_some old old_tasks) cpus keys h.one e

  pub bad_more : (users : List (List ℕ)) → AreUsers old users → (now : List Task) (keys : List ℕ) (at : ℕ)
      → Cancelling n old now keys None → place 0 keys ≡ Some at
      → Cancelling n old (all_cancelled n (list_at users at) now)
      (slice_set (all_marked n (list_at users at) now keys) at NEVER) None
  bad_more users a now keys at c e =
      let p = place_zero keys at e in
      followed n old bad (needs_some old old_tasks) cpus now keys users at a c (subst (λ l. at < l) c.wide p.0) p.1

  -- one that is to be followed is there, and so are its users and its key
  pub bad_within : (users : List (List ℕ)) → AreUsers old users → (now : List Task) (keys : List ℕ) (at : ℕ)
      → Cancelling n old now keys None → place 0 keys ≡ Some at → (at < length users) × (at < length keys)
  bad_within users a now keys at c e =
      let p = place_zero keys at e in
      (subst (λ l. at < l) (c.wide ∙ sym a.long) p.0, p.0)

  walked : Cancels n old (cancelled_behind n [] old)
  walked =
      let us = with_task (ended_task h.code) n h.before in
      let worse : passes is_bad us n ≡ true = subst (λ (xs : List Task). passes is_bad xs n ≡ true) h.is bad in
      subst (λ (xs : List Task). Cancels n xs (cancelled_behind n [] xs)) (sym h.is)
      (subst (λ b. Cancels n us (cancelled_if b n us)) worse (ends_cancel h.before n h.code h.are h.one h.ran worse))

  pub bad_done : (now : List Task) (keys : List ℕ) → Cancelling n old now keys None → place 0 keys ≡ None
      → (now ≡ cancelled_behind n [] old) × (keys ≡ keys_of now)
  bad_done now keys c e = (
    tasks_done n old bad (needs_some old old_tasks) cpus now keys h.one c e (cancelled_behind n [] old) walked,
    keys_done n old bad (needs_some old old_tasks) cpus now keys h.one c e,
  )

-- how much is left: the tasks that wait, and the keys that are to be followed

abbrev pub waiting : List Task → ℕ
waiting [] = 0
waiting (t ∷ ts) = if waits t.state then suc (waiting ts) else waiting ts

abbrev pub zeros : List ℕ → ℕ
zeros [] = 0
zeros (k ∷ ks) = if nat_eq k 0 then suc (zeros ks) else zeros ks

fewer_wait : (n : ℕ) (ts : List Task) (i : ℕ) (t : Task) → slice_get ts i ≡ Some t → waits t.state ≡ true
    → suc (waiting (slice_set ts i (in_state (Cancelled n) t))) ≡ waiting ts
fewer_wait n [] i t e w = absurd (cc)
fewer_wait n (x ∷ ts) zero t e w = sym (ap (λ b. if b then suc (waiting ts) else waiting ts)
    (ap (λ (o : Option Task). unwrap_or (option_map (λ (y : Task). waits y.state) o) false) e ∙ w))
fewer_wait n (x ∷ ts) (suc i) t e w = go (waits x.state) (fewer_wait n ts i t e w)
  where
    go : (b : Bool) → suc (waiting (slice_set ts i (in_state (Cancelled n) t))) ≡ waiting ts
        → suc (if b then suc (waiting (slice_set ts i (in_state (Cancelled n) t))) else waiting
        (slice_set ts i (in_state (Cancelled n) t))) ≡ (if b then suc (waiting ts) else waiting ts)
    go true h = ap suc h
    go false h = h

one_zero : (ks : List ℕ) (i : ℕ) → zeros (slice_set ks i 0) ≤ suc (zeros ks)
one_zero [] i = omega arith
one_zero (k ∷ ks) zero = go (nat_eq k 0)
  where
    go : (b : Bool) → suc (zeros ks) ≤ suc (if b then suc (zeros ks) else zeros ks)
    go true = omega arith
    go false = omega arith
one_zero (k ∷ ks) (suc i) = go (nat_eq k 0) (one_zero ks i)
  where
    go : (b : Bool) → zeros (slice_set ks i 0) ≤ suc (zeros ks)
        → (if b then suc (zeros (slice_set ks i 0)) else zeros (slice_set ks i 0)) ≤ suc
        (if b then suc (zeros ks) else zeros ks)
    go true h = omega (arith, h)
    go false h = h

no_zero : (ks : List ℕ) (i : ℕ) → i < length ks → get_or ks i 0 ≡ 0 → suc (zeros (slice_set ks i NEVER)) ≡ zeros ks
no_zero [] i l z = let no : ⊥ = omega (arith, l) in elim no [ ]
no_zero (k ∷ ks) zero l z = sym (ap (λ x. if nat_eq x 0 then suc (zeros ks) else zeros ks) z)
no_zero (k ∷ ks) (suc i) l z = go (nat_eq k 0) (no_zero ks i (omega (arith, l)) z)
  where
    go : (b : Bool) → suc (zeros (slice_set ks i NEVER)) ≡ zeros ks
        → suc (if b then suc (zeros (slice_set ks i NEVER)) else zeros (slice_set ks i NEVER)) ≡
        (if b then suc (zeros ks) else zeros ks)
    go true h = ap suc h
    go false h = h

zero_stays : (ks : List ℕ) (k at : ℕ) → get_or ks at 0 ≡ 0 → get_or (slice_set ks k 0) at 0 ≡ 0
zero_stays [] k at z = z
zero_stays (x ∷ ks) zero zero z = refl
zero_stays (x ∷ ks) zero (suc at) z = z
zero_stays (x ∷ ks) (suc k) zero z = z
zero_stays (x ∷ ks) (suc k) (suc at) z = zero_stays ks k at z

one_less : (n m : ℕ) (ts : List Task) (ks : List ℕ)
    → waiting (cancelled_one n m ts) + zeros (marked_one m ts ks) ≤ waiting ts + zeros ks
one_less n m ts ks = go (passes (λ t. waits t.state) ts m) refl
  where
    go : (b : Bool) → passes (λ t. waits t.state) ts m ≡ b
        → waiting (if b then with_task (in_state (Cancelled n)) m ts else ts) + zeros
        (if b then slice_set ks (m - 1) 0 else ks) ≤ waiting ts + zeros ks
    go false e = omega arith
    go true e =
        let w = waits_there ts (m - 1) e in
        let less = fewer_wait n ts (m - 1) w.0 w.1.0 w.1.1 in
        let more = one_zero ks (m - 1) in
        subst (λ (xs : List Task). waiting xs + zeros (slice_set ks (m - 1) 0) ≤ waiting ts + zeros ks)
        (sym (with_is (in_state (Cancelled n)) m ts w.0 w.1.0)) (omega (arith, less, more))

all_less : (n : ℕ) (ms : List ℕ) (ts : List Task) (ks : List ℕ)
    → waiting (all_cancelled n ms ts) + zeros (all_marked n ms ts ks) ≤ waiting ts + zeros ks
all_less n [] ts ks = omega arith
all_less n (m ∷ ms) ts ks = let a =
    all_less n ms (cancelled_one n m ts) (marked_one m ts ks) in let b = one_less n m ts ks in omega (arith, a, b)

pub all_long : (n : ℕ) (ms : List ℕ) (ts : List Task) (ks : List ℕ) → length (all_marked n ms ts ks) ≡ length ks
all_long n [] ts ks = refl
all_long n (m ∷ ms) ts ks =
    all_long n ms (cancelled_one n m ts) (marked_one m ts ks) ∙ go (passes (λ t. waits t.state) ts m)
  where
    go : (b : Bool) → length (if b then slice_set ks (m - 1) 0 else ks) ≡ length ks
    go true = set_long ks (m - 1) 0
    go false = refl

all_stays : (n : ℕ) (ms : List ℕ) (ts : List Task) (ks : List ℕ) (at : ℕ) → get_or ks at 0 ≡ 0
    → get_or (all_marked n ms ts ks) at 0 ≡ 0
all_stays n [] ts ks at z = z
all_stays n (m ∷ ms) ts ks at z =
    all_stays n ms (cancelled_one n m ts) (marked_one m ts ks) at (go (passes (λ t. waits t.state) ts m))
  where
    go : (b : Bool) → get_or (if b then slice_set ks (m - 1) 0 else ks) at 0 ≡ 0
    go true = zero_stays ks (m - 1) at z
    go false = z

-- one that is followed is less to do
pub less_left : (n : ℕ) (ms : List ℕ) (ts : List Task) (ks : List ℕ) (at : ℕ) → place 0 ks ≡ Some at
    → waiting (all_cancelled n ms ts) + zeros (slice_set (all_marked n ms ts ks) at NEVER) < waiting ts + zeros ks
less_left n ms ts ks at e =
    let p = place_zero ks at e in
    let a = all_less n ms ts ks in
    let b = no_zero (all_marked n ms ts ks) at (subst (λ l. at < l) (sym (all_long n ms ts ks)) p.0)
    (all_stays n ms ts ks at p.1) in
    omega (arith, a, b)
