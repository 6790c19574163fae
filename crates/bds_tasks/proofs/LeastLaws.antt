-- The least of some numbers and of another, one after the other.
use Rattle.std.proofs.Common.{◌≡◌, ℕ, List, [], ◌∷◌, Option, Some, None, refl}
use Rattle.bds_tasks.specs.Waits.{least_with}

pub least-none : (found : Option ℕ) → least_with found [] ≡ found
least-none None = refl
least-none (Some m) = refl

pub least-next : (found : Option ℕ) (n : ℕ) (ns : List ℕ)
    → least_with (least_with found (n ∷ [])) ns ≡ least_with found (n ∷ ns)
least-next None n ns = refl
least-next (Some m) n ns = refl

pub ruleset leasts = (least-none, least-next)
