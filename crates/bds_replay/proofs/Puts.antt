-- Two fields that are put one behind the other.
use Rattle.std.proofs.Common.{◌≡◌, ◌∙◌, ℕ, List, ◌++◌, append_assoc, ap, sym, Result, Ok, Err}
use Rattle.std.specs.Prelude.{OnOk}

pub two_puts : {T E : Type 0} (old mid new a b whole : List ℕ) (r : Result T E) → mid ≡ old ++ a → whole ≡ a ++ b
    → OnOk r (new ≡ mid ++ b) → OnOk r (new ≡ old ++ whole)
two_puts old mid new a b whole (Ok x) first is second =
    second ∙ ap (λ l. l ++ b) first ∙ append_assoc old a b ∙ ap (λ l. old ++ l) (sym is)
two_puts old mid new a b whole (Err e) first is second = tt
