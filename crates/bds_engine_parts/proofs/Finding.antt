-- The ready threads are found one after the other.
use Rattle.std.proofs.Common.{◌≡◌, ◌<◌, ◌≤◌, ◌+◌, ◌-◌, ℕ, List, [], ◌∷◌, ◌++◌, length, Option, Some, None, refl, sym, ap, ◌∙◌, append_assoc, append-nil, arith}
use Rattle.std.proofs.lemmas.List.{length-append}
use Rattle.std.proofs.lemmas.List.Elements.{All-from_recursion, recursion_from_All}
use Rattle.std.specs.List.{All, AllByRecursion}
use Rattle.bds_value.specs.declared.ids.Id.{Id}
use Rattle.bds_value.specs.declared.ids.Id.TheVariants as id
use Rattle.bds_tasks.specs.Starts.{first}
use Rattle.bds_state.specs.Parts.{Parts}
use Rattle.bds_state.specs.Ready.{next_ready, ready}
use Rattle.bds_state.specs.Valid.{IsThere}
use Rattle.bds_state.specs.Waited.{tasks_in}
use Rattle.bds_state.proofs.ReadyLaws.{finds_ready}

-- those that are found, and the rest, of which the first is found next
pub record IsFinding (s : Parts) (numbers : List ℕ) (after : Option ℕ) : Type 0 where
  pub rest : List ℕ
  pub all : ready s.threads s.tasks ≡ numbers ++ rest
  pub next : next_ready after s ≡ first rest

pub begins : (s : Parts) → IsFinding s [] None
begins s = record { rest = ready s.threads s.tasks; all = refl; next = (finds_ready s).start }

-- one more is found
record IsMore (s : Parts) (numbers : List ℕ) (k : ℕ) : Type 0 where
  more : List ℕ
  all : ready s.threads s.tasks ≡ numbers ++ k ∷ more

more_at : (s : Parts) (numbers rest : List ℕ) (k : ℕ) → ready s.threads s.tasks ≡ numbers ++ rest → first rest ≡ Some k → IsMore s numbers k
more_at s numbers [] k e f = absurd (cc f)
more_at s numbers (x ∷ xs) k e f = let q : x ≡ k = cc f in record { more = xs; all = e ∙ ap (λ y. numbers ++ y ∷ xs) q }

pub found : (s : Parts) (numbers : List ℕ) (after : Option ℕ) (k : ℕ) → IsFinding s numbers after → next_ready after s ≡ Some k → IsFinding s (numbers ++ k ∷ []) (Some k)
found s numbers after k h e =
    let m : IsMore s numbers k = more_at s numbers h.rest k h.all (sym h.next ∙ e) in
    record { rest = m.more; all = m.all ∙ sym (append_assoc numbers (k ∷ []) m.more); next = (finds_ready s).next numbers m.more k m.all }

pub fewer : (s : Parts) (numbers : List ℕ) (after : Option ℕ) (k : ℕ) → IsFinding s numbers after → next_ready after s ≡ Some k
    → length (ready s.threads s.tasks) - length (numbers ++ k ∷ []) < length (ready s.threads s.tasks) - length numbers
fewer s numbers after k h e =
    let m : IsMore s numbers k = more_at s numbers h.rest k h.all (sym h.next ∙ e) in
    let a : length (ready s.threads s.tasks) ≡ length (numbers ++ k ∷ m.more) = ap (λ x. length x) m.all in
    let b : length (numbers ++ k ∷ m.more) ≡ length numbers + length (k ∷ m.more) = length-append numbers (k ∷ m.more) in
    let c : length (numbers ++ k ∷ []) ≡ length numbers + length (k ∷ []) = length-append numbers (k ∷ []) in
    let d : length (k ∷ []) ≡ 1 = refl in
    let g : length (k ∷ m.more) ≡ length m.more + 1 = omega arith in
    omega (arith, a, b, c, d, g)

nothing : (rest : List ℕ) → first rest ≡ None → rest ≡ []
nothing [] e = refl
nothing (x ∷ xs) e = absurd (cc e)

pub found_all : (s : Parts) (numbers : List ℕ) (after : Option ℕ) → IsFinding s numbers after → next_ready after s ≡ None → numbers ≡ ready s.threads s.tasks
found_all s numbers after h e = sym (h.all ∙ ap (λ x. numbers ++ x) (nothing h.rest (sym h.next ∙ e)) ∙ append-nil numbers)

-- the tasks among ids that are there
module _ (tasks threads : ℕ) where
  abbrev IsTask : ℕ → Type 0
  IsTask n = (1 ≤ n) × (n ≤ tasks)

  one_by_one : (ids : List Id) → AllByRecursion (IsThere tasks threads) ids → AllByRecursion IsTask (tasks_in ids)
  one_by_one [] h = tt
  one_by_one (id.Task n ∷ ids) h = (h.0, one_by_one ids h.1)
  one_by_one (id.Thread n ∷ ids) h = one_by_one ids h.1

  pub tasks_there : (ids : List Id) → All (IsThere tasks threads) ids → All IsTask (tasks_in ids)
  tasks_there ids h = All-from_recursion IsTask (tasks_in ids) (one_by_one ids (recursion_from_All (IsThere tasks threads) ids h))
