-- What changes tasks keeps their makers.
use Rattle.std.proofs.Common.{◌≡◌, ◌+◌, ◌-◌, ◌<◌, ◌≤◌, ℕ, zero, suc, Bool, true, false, List, [], ◌∷◌, ◌++◌, length}
use Rattle.std.proofs.Common.{map, Option, Some, None, arith, refl, sym, ap, ◌∙◌, subst, if◌then◌else◌, append-nil}
use Rattle.std.proofs.Common.{append_assoc}
use Rattle.std.proofs.lemmas.List.{length-map, length_push, map-append}
use Rattle.std.proofs.lemmas.List.Elements.{All-append, All-from_recursion, recursion_from_All}
use Rattle.std.specs.List.{All, AllByRecursion, slice_get, slice_set}
use Rattle.std.specs.Option.{option_map}
use Rattle.bds_tasks.specs.declared.task.Task.{Task}
use Rattle.bds_tasks.specs.declared.task.TaskNew.{TaskNew}
use Rattle.bds_tasks.specs.declared.task.TaskState.TheVariants.{Waits, Runs}
use Rattle.bds_tasks.specs.Ends.{cancelled_behind, cancelled_if, ended, ended_task, hit_where, is_hit}
use Rattle.bds_tasks.specs.Starts.{started}
use Rattle.bds_tasks.specs.Tasks.{added, in_state, is_bad, is_good, is_needed, numbers_of, passes, put_at, revived_task}
use Rattle.bds_tasks.specs.Tasks.{with_task}
use Rattle.bds_state.specs.Valid.{IsMade}

abbrev pub maker_of : Task → ℕ
maker_of t = t.made.maker

pub length_same : (ts us : List Task) → map maker_of us ≡ map maker_of ts → length us ≡ length ts
length_same ts us e = sym (length-map us maker_of) ∙ (ap length e ∙ length-map ts maker_of)

same_recursion : (k : ℕ) (ts us : List Task) → map maker_of us ≡ map maker_of ts → AllByRecursion (IsMade k) ts
    → AllByRecursion (IsMade k) us
same_recursion k ts [] e a = tt
same_recursion k [] (u ∷ us) e a = absurd (let none : maker_of u ∷ map maker_of us ≡ [] = e in cc)
same_recursion k (t ∷ ts) (u ∷ us) e a =
    let both : maker_of u ∷ map maker_of us ≡ maker_of t ∷ map maker_of ts = e in
    let first : maker_of u ≡ maker_of t = cc in
    let rest : map maker_of us ≡ map maker_of ts = cc in
    (subst (λ m. m < k) (sym first) a.0, same_recursion k ts us rest a.1)

pub made_same : (k : ℕ) (ts us : List Task) → map maker_of us ≡ map maker_of ts → All (IsMade k) ts → All (IsMade k) us
made_same k ts us e a = All-from_recursion (IsMade k) us (same_recursion k ts us e (recursion_from_All (IsMade k) ts a))

one_made : (k : ℕ) (t : Task) → maker_of t < k → All (IsMade k) (t ∷ [])
one_made k t l = All-from_recursion (IsMade k) (t ∷ []) (l, tt)

pub kept_added : (k : ℕ) (ts : List Task) (new : TaskNew) → All (IsMade k) ts → new.maker < k
    → All (IsMade k) (added ts new) × (length ts ≤ length (added ts new))
kept_added k ts new a l =
    let t : Task = record { made = new; needs = numbers_of (is_needed new) ts; attempt = 0; state = Waits } in
    let long : length (ts ++ t ∷ []) ≡ length ts + 1 = length_push ts t in
    (All-append (IsMade k) ts (t ∷ []) a (one_made k t l), omega (arith, long))

kept_set : (ts : List Task) (i : ℕ) (u : Task) → ((t : Task) → slice_get ts i ≡ Some t → maker_of u ≡ maker_of t)
    → map maker_of (slice_set ts i u) ≡ map maker_of ts
kept_set [] i u f = refl
kept_set (t ∷ ts) zero u f = ap (λ m. m ∷ map maker_of ts) (f t refl)
kept_set (t ∷ ts) (suc i) u f = ap (λ ms. maker_of t ∷ ms) (kept_set ts i u (λ x e. f x e))

same_task : (o : Option Task) (t u : Task) → o ≡ Some t → o ≡ Some u → t ≡ u
same_task o t u e d = cc

kept_put : (change : Task → Task) (ts : List Task) (i : ℕ) (o : Option Task) → slice_get ts i ≡ o
    → ((t : Task) → maker_of (change t) ≡ maker_of t)
    → map maker_of (put_at i (option_map change o) ts) ≡ map maker_of ts
kept_put change ts i None e f = refl
kept_put change ts i (Some t) e f =
    kept_set ts i (change t) (λ u d. f t ∙ ap maker_of (same_task (slice_get ts i) t u e d))

kept_with : (change : Task → Task) (n : ℕ) (ts : List Task) → ((t : Task) → maker_of (change t) ≡ maker_of t)
    → map maker_of (with_task change n ts) ≡ map maker_of ts
kept_with change n ts f = kept_put change ts (n - 1) (slice_get ts (n - 1)) refl f

pub kept_started : (n : ℕ) (ts : List Task) → map maker_of (started n ts) ≡ map maker_of ts
kept_started n ts = kept_with (in_state Runs) n ts (λ t. refl)

kept_if : (b : Bool) (x y : Task) (m : ℕ) → maker_of x ≡ m → maker_of y ≡ m → maker_of (if b then x else y) ≡ m
kept_if true x y m d e = d
kept_if false x y m d e = e

kept_end : (code : ℕ) (t : Task) → maker_of (ended_task code t) ≡ maker_of t
kept_end code t = kept_if _ _ _ (maker_of t) refl refl

kept_hit : (n : ℕ) (b : Bool) (t : Task) → maker_of (hit_where b n t) ≡ maker_of t
kept_hit n true t = refl
kept_hit n false t = refl

kept_behind : (n : ℕ) (before ts : List Task)
    → map maker_of (cancelled_behind n before ts) ≡ map maker_of before ++ map maker_of ts
kept_behind n before [] = sym (append-nil (map maker_of before))
kept_behind n before (t ∷ ts) =
    let u = hit_where (is_hit n before t) n t in
    kept_behind n (before ++ u ∷ []) ts
    ∙ ap (λ xs. xs ++ map maker_of ts) (map-append maker_of before (u ∷ []))
    ∙ append_assoc (map maker_of before) (maker_of u ∷ []) (map maker_of ts)
    ∙ ap (λ m. map maker_of before ++ m ∷ map maker_of ts) (kept_hit n (is_hit n before t) t)

kept_judged : (n : ℕ) (b : Bool) (ts : List Task) → map maker_of (cancelled_if b n ts) ≡ map maker_of ts
kept_judged n true ts = kept_behind n [] ts
kept_judged n false ts = refl

pub kept_ended : (n code : ℕ) (ts : List Task) → map maker_of (ended n code ts) ≡ map maker_of ts
kept_ended n code ts =
    let us = with_task (ended_task code) n ts in
    kept_judged n (passes is_bad us n) us ∙ kept_with (ended_task code) n ts (kept_end code)

pub kept_revived : (ts : List Task) → map maker_of (map revived_task ts) ≡ map maker_of ts
kept_revived [] = refl
kept_revived (t ∷ ts) = ap (λ m. m ∷ map maker_of (map revived_task ts))
    (kept_if (is_good t) _ _ (maker_of t) refl refl) ∙ ap (λ ms. maker_of t ∷ ms) (kept_revived ts)
