-- The lines of tokens are lines of them.
use Rattle.std.proofs.Common.{◌≡◌, ◌∙◌, ℕ, zero, suc, ◌-◌, List, [], ◌∷◌, length, slice_get, Option, Some, None, Bool, true, false, refl, sym, ap, arith, get_or}
use Rattle.std.specs.Prelude.{◌||◌, ◌==◌}
use Rattle.std.specs.Prelude.{option_copied}
use Rattle.std.proofs.lemmas.Bool.{eq-eqb}
use Rattle.std.proofs.lemmas.Option.{slice_get-get_or}
use denote.Ref.{Bor}
use Rattle.bds_tree.specs.declared.token.Token.{Token}
use Rattle.bds_tree.specs.ScriptTexts.{has_line, IsLineOf}

or_true : (a b : Bool) → b ≡ true → a || b ≡ true
or_true true b e = refl
or_true false b e = e

has_line_at : (ts : List Token) (k : ℕ) (t : Token) → slice_get ts k ≡ Some t → has_line t.line ts ≡ true
has_line_at [] k t e = absurd cc
has_line_at (u ∷ us) zero t e = let same : u ≡ t = cc in ap (λ b. b || has_line t.line us) (eq-eqb u.line t.line (ap (λ (v : Token). v.line) same))
has_line_at (u ∷ us) (suc k) t e = or_true (u.line == t.line) (has_line t.line us) (has_line_at us k t e)

pub line_there : (l : ℕ) (ts : List Token) → has_line l ts ≡ true → IsLineOf l ts
line_there l [] e = cc
line_there l (t ∷ ts) e = e

-- the last token, or that there is none
pub last_there : (ts : List Token) (t : Token) → Some t ≡ slice_get ts (length ts - 1) → IsLineOf t.line ts
last_there ts t e = line_there t.line ts (has_line_at ts (length ts - 1) t (sym e))

pub none_there : (ts : List Token) → None ≡ slice_get ts (length ts - 1) → IsLineOf 1 ts
none_there [] e = refl
none_there (t ∷ ts) e =
    let both : None ≡ Some (get_or (t ∷ ts) (length (t ∷ ts) - 1) t) = e ∙ slice_get-get_or (t ∷ ts) (length (t ∷ ts) - 1) t (omega arith) in
    absurd cc

-- the same as a call finds it
pub found_there : (ts : List Token) (r : Option (Bor Token)) (t : Bor Token) → option_copied r ≡ slice_get ts (length ts - 1) → r ≡ Some t → IsLineOf t.now.line ts
found_there ts r t is e = last_there ts t.now (sym (ap option_copied e) ∙ is)

pub none_found : (ts : List Token) (r : Option (Bor Token)) → option_copied r ≡ slice_get ts (length ts - 1) → r ≡ None → IsLineOf 1 ts
none_found ts r is e = none_there ts (sym (ap option_copied e) ∙ is)

pub ruleset line_rules = (line_there, last_there, none_there, found_there, none_found)
