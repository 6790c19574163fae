-- The order of texts by their bytes, and pairs whose keys rise.
use Rattle.std.specs.Prelude.{ℕ, List, [], ◌∷◌, Bool, ⊤, IsTrue}
use Rattle.std.specs.declared.cmp.Ordering.{Ordering}
use Rattle.std.specs.Ordering.{nat_cmp, is_lt}
use Rattle.std.specs.Cmp.Lexicographic.{slice_cmp}

abbrev pub text_cmp : List ℕ → List ℕ → Ordering
text_cmp = slice_cmp nat_cmp

abbrev pub is_before : List ℕ → List ℕ → Bool
is_before a b = is_lt (text_cmp a b)

-- the first key, if there is one, comes behind k
abbrev pub BeginsBehind : {X : Type 0} → List ℕ → List (List ℕ × X) → Type 0
BeginsBehind k [] = ⊤
BeginsBehind k (p ∷ ps) = IsTrue (is_before k p.0)

-- each key comes behind the one before it, so that each stands once
abbrev pub KeysRise : {X : Type 0} → List (List ℕ × X) → Type 0
KeysRise [] = ⊤
KeysRise (p ∷ ps) = BeginsBehind p.0 ps × KeysRise ps
