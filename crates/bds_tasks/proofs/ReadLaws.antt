-- What stands at a place, where code has read it.
use Rattle.std.proofs.Common.{◌≡◌, ℕ, zero, suc, ◌<◌, ◌≤◌, Bool, true, false, List, [], ◌∷◌, length, Option, Some, None}
use Rattle.std.proofs.Common.{IfSome, refl, sym, ap, ◌∙◌, arith, subst, drop, get_or, ◌-◌, ◌+◌, nat_lt, if◌then◌else◌}
use Rattle.std.proofs.lemmas.Bool.{le-ltb, lt-ltb}
use Rattle.std.proofs.lemmas.Option.{slice_get_read}
use Rattle.std.specs.List.{slice_get, slice_set}
use Rattle.std.specs.Option.{option_map, unwrap_or}
use Rattle.bds_levels.specs.Least.{place}
use Rattle.bds_tasks.specs.declared.task.Task.{Task}
use Rattle.bds_tasks.specs.Ends.{cancelled_behind, cancelled_if, ended_task, judged}
use Rattle.bds_tasks.specs.Kept.{all_marked, behind_less, cancelled_one, list_at, marked_one, needs_at, position}
use Rattle.bds_tasks.specs.Tasks.{is_bad, passes, task_at, waits, with_task}
use Rattle.bds_tasks.proofs.PlaceLaws.{set_long}
use Rattle.bds_tasks.proofs.StartLaws.{place_within}
use Rattle.bds_tasks.proofs.UnmetLaws.{get_there, with_is}

pub task_read : (ts : List Task) (i : ℕ) (t u : Task) → slice_get ts i ≡ Some u → i < length ts → t ≡ get_or ts i t
    → t ≡ u
task_read ts i t u is l e =
    ap (λ (o : Option Task). unwrap_or o t) (sym (slice_get_read ts (length ts) i t refl l e) ∙ is)

pub task_there : (ts : List Task) (n : ℕ) (t : Task) → 1 ≤ n → n ≤ length ts → t ≡ get_or ts (n - 1) t
    → task_at ts n ≡ Some t
task_there ts n t one l e = slice_get_read ts (length ts) (n - 1) t refl (omega (arith, one, l)) e

pub needs_read : (ts : List Task) (i : ℕ) (t : Task) → i < length ts → t ≡ get_or ts i t → needs_at ts i ≡ t.needs
needs_read ts i t l e = ap (λ (o : Option Task). unwrap_or (option_map (λ (x : Task). x.needs) o) [])
    (slice_get_read ts (length ts) i t refl l e)

pub list_read : (us : List (List ℕ)) (i : ℕ) (ns : List ℕ) → i < length us → ns ≡ get_or us i ns → ns ≡ list_at us i
list_read us i ns l e = sym (ap (λ (o : Option (List ℕ)). unwrap_or o []) (slice_get_read us (length us) i ns refl l e))

pub position_short : (n : ℕ) (ns : List ℕ) → position n ns ≤ length ns
position_short n [] = omega arith
position_short n (m ∷ ns) = go (nat_lt m n) (position n ns) (position_short n ns)
  where
    go : (b : Bool) (p : ℕ) → p ≤ length ns → behind_less b p ≤ suc (length ns)
    go b (suc p) l = omega (arith, l)
    go true zero l = omega arith
    go false zero l = omega arith

-- the last that is less, and those that aren't

pub position_here : (n i : ℕ) (ms : List ℕ) → i < length ms → get_or ms i 0 < n → position n (drop (i + 1) ms) ≡ 0
    → i + 1 ≡ position n ms
position_here n i [] l less e = absurd (omega (arith, l))
position_here n zero (m ∷ ms) l less e = sym (ap (λ p. behind_less (nat_lt m n) p) e
    ∙ ap (λ b. behind_less b 0) (lt-ltb m n less))
position_here n (suc i) (m ∷ ms) l less e =
    let one : suc i + 1 ≡ suc (i + 1) = omega arith in
    let behind : position n (drop (i + 1) ms) ≡ 0 = subst (λ k. position n (drop k (m ∷ ms)) ≡ 0) one e in
    let h : i + 1 ≡ position n ms = position_here n i ms (omega (arith, l)) less behind in
    let two : suc i ≡ i + 1 = omega arith in
    one ∙ ap suc (sym two) ∙ ap (λ p. behind_less (nat_lt m n) p) (two ∙ h)

pub position_none : (n i : ℕ) (ms : List ℕ) → i < length ms → n ≤ get_or ms i 0 → position n (drop (i + 1) ms) ≡ 0
    → position n (drop i ms) ≡ 0
position_none n i [] l more e = absurd (omega (arith, l))
position_none n zero (m ∷ ms) l more e = ap (λ p. behind_less (nat_lt m n) p) e
    ∙ ap (λ b. behind_less b 0) (le-ltb m n more)
position_none n (suc i) (m ∷ ms) l more e =
    let one : suc i + 1 ≡ suc (i + 1) = omega arith in
    position_none n i ms (omega (arith, l)) more (subst (λ k. position n (drop k (m ∷ ms)) ≡ 0) one e)

pub place_short : (most : ℕ) (ks : List ℕ) (o : Option ℕ) (count : ℕ) → o ≡ place most ks → length ks ≤ count
    → IfSome o (λ i. i < count)
place_short most ks None count e l = tt
place_short most ks (Some i) count e l = let m = place_within most ks i (sym e) in omega (arith, m, l)

pub passes_read : (test : Task → Bool) (ts : List Task) (n : ℕ) (t : Task) → n - 1 < length ts → t ≡ get_or ts (n - 1) t
    → passes test ts n ≡ test t
passes_read test ts n t l e =
    ap (λ (o : Option Task). unwrap_or (option_map test o) false) (slice_get_read ts (length ts) (n - 1) t refl l e)

set_there : (ts : List Task) (k : ℕ) (t u : Task) → slice_get ts k ≡ Some t → slice_get (slice_set ts k u) k ≡ Some u
set_there [] k t u e = absurd (cc)
set_there (x ∷ ts) zero t u e = refl
set_there (x ∷ ts) (suc k) t u e = set_there ts k t u e

-- of a task that was just put there
pub passes_set : (test : Task → Bool) (ts : List Task) (n : ℕ) (t u v : Task) → task_at ts n ≡ Some t
    → v ≡ get_or (slice_set ts (n - 1) u) (n - 1) v → passes test (slice_set ts (n - 1) u) n ≡ test v
passes_set test ts n t u v there e = passes_read test (slice_set ts (n - 1) u) n v
    (get_there (slice_set ts (n - 1) u) (n - 1) u (set_there ts (n - 1) t u there)) e

-- the end of a task

pub ended_is : (n code : ℕ) (ts : List Task) (t u : Task) → task_at ts n ≡ Some t → u ≡ ended_task code t
    → slice_set ts (n - 1) u ≡ with_task (ended_task code) n ts
ended_is n code ts t u there e =
    ap (λ (x : Task). slice_set ts (n - 1) x) e ∙ sym (with_is (ended_task code) n ts t there)

pub judged_bad : (n : ℕ) (ts : List Task) → passes is_bad ts n ≡ true → cancelled_behind n [] ts ≡ judged n ts
judged_bad n ts e = sym (ap (λ b. cancelled_if b n ts) e)

pub judged_fine : (n : ℕ) (ts : List Task) → passes is_bad ts n ≡ false → ts ≡ judged n ts
judged_fine n ts e = sym (ap (λ b. cancelled_if b n ts) e)

mark_long : (m : ℕ) (ts : List Task) (ks : List ℕ) → length (marked_one m ts ks) ≡ length ks
mark_long m ts ks = go (passes (λ t. waits t.state) ts m)
  where
    go : (b : Bool) → length (if b then slice_set ks (m - 1) 0 else ks) ≡ length ks
    go true = set_long ks (m - 1) 0
    go false = refl

pub marked_long : (n : ℕ) (ms : List ℕ) (ts : List Task) (ks : List ℕ) → length (all_marked n ms ts ks) ≡ length ks
marked_long n [] ts ks = refl
marked_long n (m ∷ ms) ts ks = marked_long n ms (cancelled_one n m ts) (marked_one m ts ks) ∙ mark_long m ts ks
