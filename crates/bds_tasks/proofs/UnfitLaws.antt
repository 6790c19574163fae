-- The first task that isn't fit isn't sound, and each one before it is.
use Rattle.std.proofs.Common.{◌≡◌, ℕ, zero, suc, ◌+◌, ◌-◌, ◌<◌, ◌≤◌, List, [], ◌∷◌, ◌++◌, length, slice_get, Option, Some, None, refl, sym, ap, ◌∙◌, subst, arith}
use Rattle.bds_tasks.specs.declared.task.Task.{Task}
use Rattle.bds_tasks.specs.Sound.{AreSound, AreTasks, EndedBadly, IsSound, first_unfit}
use Rattle.bds_tasks.specs.TaskFields.{AreFieldTasks}
use Rattle.bds_tasks.specs.Tasks.{task_at}
use Rattle.bds_tasks.proofs.FitLaws.{unfit_told}

pub sound_from : (P : ℕ → Type 0) (i : ℕ) (ts : List Task) (k : ℕ) (t : Task) → AreSound P i ts → slice_get ts k ≡ Some t → IsSound P (i + k) t
sound_from P i [] k t a e = absurd (let none : ◌≡◌ {A = Option Task} None (Some t) = e in cc)
sound_from P i (x ∷ ts) zero t a e =
    let same : x ≡ t = cc in
    let here : i ≡ i + zero = omega arith in
    subst (λ j. IsSound P j t) here (subst (IsSound P i) same a.0)
sound_from P i (x ∷ ts) (suc k) t a e =
    let there : i + 1 + k ≡ i + suc k = omega arith in
    subst (λ j. IsSound P j t) there (sound_from P (i + 1) ts k t a.1 e)

place_sound : (P : ℕ → Type 0) (ts : List Task) (k : ℕ) (t : Task) → AreSound P 0 ts → slice_get ts k ≡ Some t → IsSound P k t
place_sound P ts k t a e =
    let here : 0 + k ≡ k = omega arith in
    subst (λ j. IsSound P j t) here (sound_from P 0 ts k t a e)

-- task n of a table
pub sound_at : (ts : List Task) (n : ℕ) (t : Task) → AreTasks ts → task_at ts n ≡ Some t → IsSound (EndedBadly ts) (n - 1) t
sound_at ts n t a e = place_sound (EndedBadly ts) ts (n - 1) t a.sound e

get_seam : (xs : List Task) (y : Task) (ys : List Task) → slice_get (xs ++ y ∷ ys) (length xs) ≡ Some y
get_seam [] y ys = refl
get_seam (x ∷ xs) y ys = get_seam xs y ys

get_front : (xs ys : List Task) (k : ℕ) → k < length xs → slice_get (xs ++ ys) k ≡ slice_get xs k
get_front [] ys k l = absurd (omega (arith, l))
get_front (x ∷ xs) ys zero l = refl
get_front (x ∷ xs) ys (suc k) l = get_front xs ys k (omega (arith, l))

pub record IsFirstUnsound (ts : List Task) (n : ℕ) : Type 0 where
  pub number : 1 ≤ n
  pub task : Task
  pub there : task_at ts n ≡ Some task
  pub bad : IsSound (EndedBadly ts) (n - 1) task → ⊥
  pub before : (k : ℕ) (t : Task) → 1 ≤ k → k < n → task_at ts k ≡ Some t → IsSound (EndedBadly ts) (k - 1) t

pub unfit_unsound : (ts : List Task) (n : ℕ) → AreFieldTasks ts → first_unfit ts ≡ Some n → IsFirstUnsound ts n
unfit_unsound ts n f e =
    let u = (unfit_told ts f).first n e in
    let far : n ≡ length u.before + 1 = u.number in
    let here : n - 1 ≡ length u.before = omega (arith, far) in
    record {
      number = omega (arith, far);
      task = u.task;
      there = ap (slice_get ts) here ∙ ap (λ xs. slice_get xs (length u.before)) u.split ∙ get_seam u.before u.task u.behind;
      bad = λ s. u.unsound (subst (λ j. IsSound (EndedBadly ts) j u.task) here s);
      before = λ k t o l d.
          let less : k - 1 < length u.before = omega (arith, far, l, o) in
          let is : slice_get u.before (k - 1) ≡ Some t = sym (get_front u.before (u.task ∷ u.behind) (k - 1) less) ∙ ap (λ xs. slice_get xs (k - 1)) (sym u.split) ∙ d in
          place_sound (EndedBadly ts) u.before (k - 1) t u.sound is;
    }
