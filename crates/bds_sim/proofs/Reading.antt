-- What is read of a value is what the source takes.
use Rattle.std.proofs.Common.{◌≡◌, ℕ, ℤ, pos, Bool, false, List, [], Some, ap}
use Rattle.std.specs.Option.{unwrap_or}
use Rattle.bds_value.specs.declared.value.Value.{Value}
use Rattle.bds_value.specs.declared.value.Value.TheOpen.{Value-F}
use Rattle.bds_value.specs.Readers.{bool_at, int_at, text_at, items_at}

-- with an answer for the rest
abbrev pub truth_at : Value-F Value → Bool
truth_at v = unwrap_or (bool_at v) false

abbrev pub number_at : Value-F Value → ℤ
number_at v = unwrap_or (int_at v) (pos 0)

abbrev pub words_at : Value-F Value → List ℕ
words_at v = unwrap_or (text_at v) []

abbrev pub items_there : Value-F Value → List Value
items_there v = unwrap_or (items_at v) []

pub bool_read : (v : Value-F Value) (b : Bool) → bool_at v ≡ Some b → truth_at v ≡ b
bool_read v b e = ap (λ r. unwrap_or r false) e

pub number_read : (v : Value-F Value) (n : ℤ) → int_at v ≡ Some n → number_at v ≡ n
number_read v n e = ap (λ r. unwrap_or r (pos 0)) e

pub text_read : (v : Value-F Value) (s : List ℕ) → text_at v ≡ Some s → words_at v ≡ s
text_read v s e = ap (λ r. unwrap_or r []) e
