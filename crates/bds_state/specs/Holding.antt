-- For private contracts alone: of a thread that isn't asked whether it is ready a number is kept.
use Rattle.std.specs.Prelude.{◌≡◌, ◌≤◌, ◌<◌, ℕ, List, slice_get, Some}
use Rattle.bds_levels.specs.Least.{NEVER}
use Rattle.bds_tasks.specs.Kept.{list_at}

-- of thread k a number is kept, which isn't 0. A thread of which 0 is kept, or nothing, has to be asked
abbrev pub HasHolder : List ℕ → ℕ → ℕ → Type 0
HasHolder held k n = (slice_get held k ≡ Some n) × (1 ≤ n)

-- no more is kept than before
abbrev pub KeepsLess : List ℕ → List ℕ → Type 0
KeepsLess old new = (k n : ℕ) → HasHolder new k n → HasHolder old k n

-- of thread k this number is kept, and no more of the others than before
pub record IsNoted (k n : ℕ) (old new : List ℕ) : Type 0 where
  pub here : (m : ℕ) → HasHolder new k m → m ≡ n
  pub others : (i m : ℕ) → (i ≡ k → ⊥) → HasHolder new i m → HasHolder old i m

-- thread k stands in the list of task n
pub record IsListed (lists : List (List ℕ)) (k n : ℕ) : Type 0 where
  pub place : ℕ
  pub there : slice_get (list_at lists n) place ≡ Some k

-- each thread that a task holds stands in the list of that task
abbrev pub AreListed : List ℕ → List (List ℕ) → Type 0
AreListed held lists = (k n : ℕ) → HasHolder held k n → n < NEVER → IsListed lists k n

abbrev pub ListsMore : List (List ℕ) → List (List ℕ) → Type 0
ListsMore old new = (k n : ℕ) → IsListed old k n → IsListed new k n

-- these are the list of task n, which is taken out
pub record AreTaken (n : ℕ) (old new : List (List ℕ)) (list : List ℕ) : Type 0 where
  pub whole : list ≡ list_at old n
  pub others : (k m : ℕ) → (m ≡ n → ⊥) → IsListed old k m → IsListed new k m

-- a task holds no thread, and no more is kept than before
pub record IsFreed (task : ℕ) (old new : List ℕ) : Type 0 where
  pub less : KeepsLess old new
  pub none : (k : ℕ) → HasHolder new k task → ⊥

-- a task holds none of these threads
abbrev pub HoldsNone : ℕ → List ℕ → List ℕ → Type 0
HoldsNone task threads held = (i k : ℕ) → slice_get threads i ≡ Some k → HasHolder held k task → ⊥

-- each thread from one up to another is held
pub record ArePassed (start end : ℕ) (held : List ℕ) : Type 0 where
  pub further : start ≤ end
  pub each : (k : ℕ) → start ≤ k → k < end → (n : ℕ) × HasHolder held k n
