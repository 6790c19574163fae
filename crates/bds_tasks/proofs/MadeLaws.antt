-- What changes the states of tasks keeps what they were made of, and so an index of the files that they make.
use Rattle.std.proofs.Common.{◌≡◌, ℕ, zero, suc, ◌+◌, ◌-◌, Bool, true, false, List, [], ◌∷◌, ◌++◌, map, Option, Some}
use Rattle.std.proofs.Common.{None, IfSome, Vec, refl, sym, ap, ◌∙◌, not, ◌&&◌, ◌||◌, nat_eq, nat_lt, if◌then◌else◌}
use Rattle.std.proofs.Common.{append-nil, append_assoc}
use Rattle.std.proofs.lemmas.List.{map-append}
use Rattle.std.proofs.lemmas.Bool.{false≢true, or_right}
use Rattle.std.specs.Global.{Global}
use Rattle.std.specs.List.{slice_get, slice_set}
use Rattle.std.specs.Option.{option_map, unwrap_or}
use Rattle.indexmap.specs.IndexMap.{IndexMap}
use Rattle.bds_tasks.specs.declared.task.Task.{Task}
use Rattle.bds_tasks.specs.declared.task.TaskNew.{TaskNew}
use Rattle.bds_tasks.specs.declared.task.TaskState.TheVariants.{Waits, Runs, Ended}
use Rattle.bds_tasks.specs.Ends.{cancelled_behind, cancelled_if, ended, ended_task, hit_where, is_hit}
use Rattle.bds_tasks.specs.Files.{is_among}
use Rattle.bds_tasks.specs.Makers.{AreMakers, is_in, makes}
use Rattle.bds_tasks.specs.Starts.{started}
use Rattle.bds_tasks.specs.Tasks.{in_state, is_bad, is_pending, numbers_from, numbers_of, runs, waits, one_where}
use Rattle.bds_tasks.specs.Tasks.{passes, put_at, task_at, with_task}

abbrev made_of : Task → TaskNew
made_of t = t.made

abbrev pub made : List Task → List TaskNew
made ts = map (λ (t : Task). t.made) ts

abbrev made_numbers : ℕ → (TaskNew → Bool) → List TaskNew → List ℕ
made_numbers k test [] = []
made_numbers k test (t ∷ ts) = one_where (test t) k ++ made_numbers (k + 1) test ts

by_made : (k : ℕ) (test : TaskNew → Bool) (ts : List Task)
    → numbers_from k (λ (t : Task). test t.made) ts ≡ made_numbers k test (made ts)
by_made k test [] = refl
by_made k test (t ∷ ts) = ap (λ ns. one_where (test t.made) k ++ ns) (by_made (k + 1) test ts)

-- what is pending was so
abbrev pub StillPending : List Task → List Task → Type 0
StillPending old new = (m : ℕ) → passes is_pending new m ≡ true → passes is_pending old m ≡ true

-- an index of tasks is one of others that were made of the same, and of which no other is pending
pub known_still : {S : Type 0} (makers : Option (IndexMap (Vec ℕ Global) (List ℕ) S)) (old new : List Task)
    → made new ≡ made old → StillPending old new → IfSome makers (λ m. AreMakers old m.entries)
    → IfSome makers (λ m. AreMakers new m.entries)
known_still None old new same still known = tt
known_still (Some m) old new same still known = record {
  make = λ x n e. sym (numbers x n) ∙ known.make x n e;
  there = λ x n p e. known.there x n (still n p) (numbers x n ∙ e);
}
  where
    numbers : (x : List ℕ) (n : ℕ) → is_in (numbers_of (makes x) old) n ≡ is_in (numbers_of (makes x) new) n
    numbers x n = ap (λ ns. is_in ns n) (by_made 1 (λ t. is_among t.outs x) old
        ∙ ap (made_numbers 1 (λ t. is_among t.outs x)) (sym same) ∙ sym (by_made 1 (λ t. is_among t.outs x) new))

abbrev pending_at : List Task → ℕ → Bool
pending_at ts k = unwrap_or (option_map is_pending (slice_get ts k)) false

set_made : (ts : List Task) (k : ℕ) (u : Task) → ((t : Task) → slice_get ts k ≡ Some t → u.made ≡ t.made)
    → made (slice_set ts k u) ≡ made ts
set_made [] k u h = refl
set_made (t ∷ ts) zero u h = ap (λ m. m ∷ made ts) (h t refl)
set_made (t ∷ ts) (suc k) u h = ap (λ ms. t.made ∷ ms) (set_made ts k u h)

same_task : (o : Option Task) (t u : Task) → o ≡ Some t → o ≡ Some u → t ≡ u
same_task o t u e d = ap (λ x. unwrap_or x t) (sym e ∙ d)

with_made : (change : Task → Task) (n : ℕ) (ts : List Task) → ((t : Task) → (change t).made ≡ t.made)
    → made (with_task change n ts) ≡ made ts
with_made change n ts h = go (task_at ts n) refl
  where
    go : (o : Option Task) → task_at ts n ≡ o → made (put_at (n - 1) (option_map change o) ts) ≡ made ts
    go None e = refl
    go (Some t) e =
        set_made ts (n - 1) (change t) (λ u is. h t ∙ ap (λ (x : Task). x.made) (same_task (task_at ts n) t u e is))

pub started_made : (n : ℕ) (ts : List Task) → made (started n ts) ≡ made ts
started_made n ts = with_made (in_state Runs) n ts (λ t. refl)

hit_made : (b : Bool) (n : ℕ) (t : Task) → (hit_where b n t).made ≡ t.made
hit_made true n t = refl
hit_made false n t = refl

behind_made : (n : ℕ) (before ts : List Task) → made (cancelled_behind n before ts) ≡ made before ++ made ts
behind_made n before [] = sym (append-nil (made before))
behind_made n before (t ∷ ts) =
    let u = hit_where (is_hit n before t) n t in
    behind_made n (before ++ u ∷ []) ts
    ∙ ap (λ xs. xs ++ made ts) (map-append (λ (x : Task). x.made) before (u ∷ []))
    ∙ append_assoc (made before) (u.made ∷ []) (made ts)
    ∙ ap (λ m. made before ++ m ∷ made ts) (hit_made (is_hit n before t) n t)

ended_task_made : (code : ℕ) (t : Task) → (ended_task code t).made ≡ t.made
ended_task_made code t = go (not (nat_eq code 0) && nat_lt t.attempt t.made.retry)
  where
    go : (b : Bool)
        → made_of (if b then record {
          made = t.made;
          needs = t.needs;
          attempt = t.attempt + 1;
          state = Waits;
        } else in_state (Ended code) t) ≡ t.made
    go true = refl
    go false = refl

pub ended_made : (n code : ℕ) (ts : List Task) → made (ended n code ts) ≡ made ts
ended_made n code ts = go (with_task (ended_task code) n ts) (with_made (ended_task code) n ts (ended_task_made code))
    (passes is_bad (with_task (ended_task code) n ts) n)
  where
    go : (us : List Task) → made us ≡ made ts → (b : Bool) → made (cancelled_if b n us) ≡ made ts
    go us e true = behind_made n [] us ∙ e
    go us e false = e

-- starts and ends let no task be pending that wasn't

set_pending : (ts : List Task) (k : ℕ) (u : Task) → ((t : Task) → slice_get ts k ≡ Some t → is_pending t ≡ true)
    → (j : ℕ) → pending_at (slice_set ts k u) j ≡ true → pending_at ts j ≡ true
set_pending [] k u h j e = e
set_pending (t ∷ ts) zero u h zero e = h t refl
set_pending (t ∷ ts) zero u h (suc j) e = e
set_pending (t ∷ ts) (suc k) u h zero e = e
set_pending (t ∷ ts) (suc k) u h (suc j) e = set_pending ts k u h j e

with_pending : (change : Task → Task) (n : ℕ) (ts : List Task)
    → ((t : Task) → task_at ts n ≡ Some t → is_pending t ≡ true) → StillPending ts (with_task change n ts)
with_pending change n ts h m = go (task_at ts n) refl
  where
    go : (o : Option Task) → task_at ts n ≡ o → pending_at (put_at (n - 1) (option_map change o) ts) (m - 1) ≡ true
        → pending_at ts (m - 1) ≡ true
    go None e p = p
    go (Some t) e p = set_pending ts (n - 1) (change t) h (m - 1) p

passed : (test : Task → Bool) (ts : List Task) (n : ℕ) (t : Task) → passes test ts n ≡ true → task_at ts n ≡ Some t
    → test t ≡ true
passed test ts n t e d = ap (λ (o : Option Task). unwrap_or (option_map test o) false) (sym d) ∙ e

pub started_pending : (n : ℕ) (ts : List Task) → passes (λ t. waits t.state) ts n ≡ true
    → StillPending ts (started n ts)
started_pending n ts w = with_pending (in_state Runs) n ts (λ t e. ap (λ b. b || runs t.state)
    (passed (λ (x : Task). waits x.state) ts n t w e))

behind_pending : (n : ℕ) (before ts : List Task) (j : ℕ) → pending_at (cancelled_behind n before ts) j ≡ true
    → pending_at (before ++ ts) j ≡ true
behind_pending n before [] j e = ap (λ (xs : List Task). pending_at xs j) (append-nil before) ∙ e
behind_pending n before (t ∷ ts) j e =
    same before j (behind_pending n (before ++ hit_where (is_hit n before t) n t ∷ []) ts j e)
  where
    hit : (b : Bool) → is_pending (hit_where b n t) ≡ true → is_pending t ≡ true
    hit true e = elim (false≢true e) [ ]
    hit false e = e

    same : (ys : List Task) (k : ℕ) → pending_at ((ys ++ hit_where (is_hit n before t) n t ∷ []) ++ ts) k ≡ true
        → pending_at (ys ++ t ∷ ts) k ≡ true
    same [] zero p = hit (is_hit n before t) p
    same [] (suc k) p = p
    same (y ∷ ys) zero p = p
    same (y ∷ ys) (suc k) p = same ys k p

pub ended_pending : (n code : ℕ) (ts : List Task) → passes (λ t. runs t.state) ts n ≡ true
    → StillPending ts (ended n code ts)
ended_pending n code ts r m e =
    with_pending (ended_task code) n ts (λ t d. or_right (waits t.state) (runs t.state)
    (passed (λ (x : Task). runs x.state) ts n t r d)) m
    (go (with_task (ended_task code) n ts) (passes is_bad (with_task (ended_task code) n ts) n) e)
  where
    go : (us : List Task) (b : Bool) → pending_at (cancelled_if b n us) (m - 1) ≡ true → pending_at us (m - 1) ≡ true
    go us true p = behind_pending n [] us (m - 1) p
    go us false p = p
