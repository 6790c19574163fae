-- The tasks that a table names by their numbers: the one that starts next, and those that run.
use Rattle.std.proofs.Common.{◌≡◌, ℕ, suc, ◌+◌, ◌-◌, ◌≤◌, ◌<◌, Bool, true, false, List, [], ◌∷◌, ◌++◌, Some, length}
use Rattle.std.proofs.Common.{slice_get, refl, sym, ap, ◌∙◌, subst, arith}
use Rattle.std.specs.Prelude.{◌&&◌, ◌||◌, nat_eq, nat_le, option_map, unwrap_or}
use Rattle.std.specs.List.{list_all}
use Rattle.bds_host.specs.Asks.{has}
use Rattle.bds_tasks.specs.declared.task.Task.{Task}
use Rattle.bds_tasks.specs.Starts.{first, in_use, may_start, startable, taken}
use Rattle.bds_tasks.specs.Tasks.{is_good, numbers_from, one_where, passes, running, runs, task_at, waits}

-- number m, where the first task has number n, passes a test
pub record IsNumbered (n : ℕ) (test : Task → Bool) (ts : List Task) (m : ℕ) : Type 0 where
  pub task : Task
  pub above : n ≤ m
  pub there : slice_get ts (m - n) ≡ Some task
  pub passed : test task ≡ true

one_more : (n : ℕ) (test : Task → Bool) (t : Task) (ts : List Task) (m : ℕ) → IsNumbered (n + 1) test ts m
    → IsNumbered n test (t ∷ ts) m
one_more n test t ts m h =
    let above : n + 1 ≤ m = h.above in
    record {
      task = h.task;
      above = omega (arith, above);
      there = subst (λ i. slice_get (t ∷ ts) i ≡ Some h.task)
          (let e : suc (m - (n + 1)) ≡ m - n = omega (arith, above) in e) h.there;
      passed = h.passed;
    }

here : (n : ℕ) (test : Task → Bool) (t : Task) (ts : List Task) (m : ℕ) → test t ≡ true → n ≡ m
    → IsNumbered n test (t ∷ ts) m
here n test t ts m e same = record {
  task = t;
  above = omega (arith, same);
  there = subst (λ i. slice_get (t ∷ ts) i ≡ Some t) (let e : 0 ≡ m - n = omega (arith, same) in e) refl;
  passed = e;
}

listed_at : (n : ℕ) (test : Task → Bool) (t : Task) (ts : List Task) (m : ℕ)
    → (has (numbers_from (n + 1) test ts) m ≡ true → IsNumbered (n + 1) test ts m)
    → (a b : Bool) → nat_eq n m ≡ a → test t ≡ b → has (one_where b n ++ numbers_from (n + 1) test ts) m ≡ true
    → IsNumbered n test (t ∷ ts) m
listed_at n test t ts m rest a false same passed e = one_more n test t ts m (rest e)
listed_at n test t ts m rest true true same passed e =
    here n test t ts m passed (Rattle.std.proofs.lemmas.Bool.eqb-true n m same)
listed_at n test t ts m rest false true same passed e =
    one_more n test t ts m (rest (ap (λ b. b || has (numbers_from (n + 1) test ts) m) (sym same) ∙ e))

pub listed : (n : ℕ) (test : Task → Bool) (ts : List Task) (m : ℕ) → has (numbers_from n test ts) m ≡ true
    → IsNumbered n test ts m
listed n test [] m e = absurd (cc e)
listed n test (t ∷ ts) m e = listed_at n test t ts m (λ r. listed (n + 1) test ts m r) (nat_eq n m) (test t) refl refl e

first_has : (ns : List ℕ) (n : ℕ) → first ns ≡ Some n → has ns n ≡ true
first_has [] n e = absurd (cc e)
first_has (m ∷ ns) n e = ap (λ b. b || has ns n) (Rattle.std.proofs.lemmas.Bool.eq-eqb m n (let q : m ≡ n = cc e in q))

-- a task by its number, which passes a test
pub record IsNumber (test : Task → Bool) (ts : List Task) (n : ℕ) : Type 0 where
  pub task : Task
  pub above : 1 ≤ n
  pub there : task_at ts n ≡ Some task
  pub passed : test task ≡ true

numbered : (test : Task → Bool) (ts : List Task) (n : ℕ) → IsNumbered 1 test ts n → IsNumber test ts n
numbered test ts n h = record { task = h.task; above = h.above; there = h.there; passed = h.passed }

passes_it : (test : Task → Bool) (ts : List Task) (n : ℕ) (t : Task) → task_at ts n ≡ Some t → test t ≡ true
    → passes test ts n ≡ true
passes_it test ts n t there e = ap (λ o. unwrap_or (option_map test o) false) there ∙ e

both_first : (a b : Bool) → (a && b) ≡ true → a ≡ true
both_first true b e = refl
both_first false b e = e

-- the task that starts next waits
pub starts_is : (cpus : ℕ) (ts : List Task) (n : ℕ) → startable cpus ts ≡ Some n → IsNumber (may_start cpus ts) ts n
starts_is cpus ts n e = numbered (may_start cpus ts) ts n (listed 1 (may_start cpus ts) ts n
    (first_has (numbers_from 1 (may_start cpus ts) ts) n e))

pub starts_waiting : (cpus : ℕ) (ts : List Task) (n : ℕ) → startable cpus ts ≡ Some n
    → passes (λ (t : Task). waits t.state) ts n ≡ true
starts_waiting cpus ts n e =
    let h = starts_is cpus ts n e in
    passes_it (λ (t : Task). waits t.state) ts n h.task h.there
    (both_first (waits h.task.state) (list_all (passes is_good ts) h.task.needs && nat_le
    (taken cpus h.task + in_use cpus ts) cpus) h.passed)

pub starts_above : (cpus : ℕ) (ts : List Task) (n : ℕ) → startable cpus ts ≡ Some n → 1 ≤ n
starts_above cpus ts n e = (starts_is cpus ts n e).above

-- a task that runs
pub runs_is : (ts : List Task) (n : ℕ) → has (running ts) n ≡ true → IsNumber (λ (t : Task). runs t.state) ts n
runs_is ts n e = numbered (λ (t : Task). runs t.state) ts n (listed 1 (λ (t : Task). runs t.state) ts n e)

pub runs_above : (ts : List Task) (n : ℕ) → has (running ts) n ≡ true → 1 ≤ n
runs_above ts n e = (runs_is ts n e).above

pub runs_still : (ts : List Task) (n : ℕ) → has (running ts) n ≡ true → passes (λ (t : Task). runs t.state) ts n ≡ true
runs_still ts n e = let h = runs_is ts n e in passes_it (λ (t : Task). runs t.state) ts n h.task h.there h.passed

pub in_table : (ts : List Task) (n : ℕ) (t : Task) → 1 ≤ n → task_at ts n ≡ Some t → n ≤ length ts
in_table ts n t above there = let h : n - 1 < length ts =
    Rattle.std.proofs.lemmas.Option.slice_get_within ts (n - 1) t there in omega (arith, h, above)

-- a task that is said to have ended
pub ended_above : (ts : List Task) (ns : List ℕ) (n : ℕ) → ns ≡ running ts → has ns n ≡ true → 1 ≤ n
ended_above ts ns n e h = runs_above ts n (ap (λ xs. has xs n) (sym e) ∙ h)

pub ended_runs : (ts : List Task) (ns : List ℕ) (n : ℕ) → ns ≡ running ts → has ns n ≡ true
    → passes (λ (t : Task). runs t.state) ts n ≡ true
ended_runs ts ns n e h = runs_still ts n (ap (λ xs. has xs n) (sym e) ∙ h)

pub starts_within : (cpus : ℕ) (ts : List Task) (n : ℕ) → startable cpus ts ≡ Some n → n ≤ length ts
starts_within cpus ts n e = let h = starts_is cpus ts n e in in_table ts n h.task h.above h.there
