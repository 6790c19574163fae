-- Which ready thread goes on.
use Rattle.std.specs.Prelude.{ℕ, nat_lt, List, Option, Some, None, filter, min}
use Rattle.std.specs.List.{reduce}

-- the lesser of two numbers, where the first is there
abbrev pub lesser_of : Option ℕ → ℕ → ℕ
lesser_of (Some x) y = min x y
lesser_of None y = y

-- the least number above another one
abbrev pub least_above : ℕ → List ℕ → Option ℕ
least_above bound numbers = reduce min (filter (λ k. nat_lt bound k) numbers)

abbrev pub or_else : Option ℕ → Option ℕ → Option ℕ
or_else (Some k) _ = Some k
or_else None other = other

-- the least ready thread above the last one that went on, or else the least
abbrev pub turn_of : Option ℕ → List ℕ → Option ℕ
turn_of None ready = reduce min ready
turn_of (Some last) ready = or_else (least_above last ready) (reduce min ready)
