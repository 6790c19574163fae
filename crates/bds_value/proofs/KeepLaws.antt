-- What stands at the front of a list stays there.
use Rattle.std.proofs.Common.{◌≡◌, ℕ, List, [], ◌++◌, sym, ap, ◌∙◌, append_assoc, append-nil, Result, Ok, Err}
use Rattle.std.specs.Prelude.{OnErr}
use Rattle.bds_value.specs.Keeping.{Keeps}

pub keeps_same : (old new : List ℕ) → new ≡ old → Keeps old new
keeps_same old new e = record { more = []; same = e ∙ sym (append-nil old) }

pub keeps_added : (old text new : List ℕ) → new ≡ old ++ text → Keeps old new
keeps_added old text new e = record { more = text; same = e }

pub keeps_on : (old text between new : List ℕ) → between ≡ old ++ text → Keeps between new → Keeps old new
keeps_on old text between new e h = record { more = text ++ h.more; same = h.same ∙ ap (λ l. l ++ h.more) e ∙ append_assoc old text h.more }

-- what holds anyway holds of a refusal
pub on_refusal : {X E : Type 0} (r : Result X E) (P : Type 0) → P → OnErr r P
on_refusal (Ok x) P p = tt
on_refusal (Err e) P p = p

pub ruleset keep_rules = (keeps_same, keeps_added, keeps_on)
