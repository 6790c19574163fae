-- What a `par` block sees: of the variables of a name the last, as before.
use Rattle.std.proofs.Common.{◌≡◌, ℕ, suc, List, [], ◌∷◌, Option, Some, Bool, true, false, ◌||◌, refl, ◌∙◌, ap, if◌then◌else◌, rules}
use Rattle.std.specs.Str.{bytes_eq}
use Rattle.std.proofs.lemmas.Slice.Eq.{bytes_eq-Decides}
use Rattle.bds_value.specs.declared.value.Ty.{Ty}
use Rattle.bds_check_names.specs.declared.names.Variable.{Variable}
use Rattle.bds_check_names.specs.Scopes.{last_type, any_named}
use Rattle.bds_check_typing.specs.Known.{AreVariablesWritten}
use Rattle.bds_gen_expr.specs.declared.scope.Numbered.{Numbered}
use Rattle.bds_gen_expr.specs.Numbers.{variables_of, visible_locals}
use Rattle.bds_gen_stmt.specs.FunctionCode.{renumbered}

pub renumbered-variables : (ls : List Numbered) (n : ℕ) → variables_of (renumbered ls n) ≡ variables_of ls
renumbered-variables [] n = refl
renumbered-variables (l ∷ ls) n = ap (λ vs. l.variable ∷ vs) (renumbered-variables ls (suc n))

-- where there is one of the name, it is of no matter what was found before
last-any : (x : List ℕ) (vs : List Variable) (o p : Option Ty) → any_named x vs ≡ true → last_type x vs o ≡ last_type x vs p
last-any x [] o p h = absurd (search (rules, h))
last-any x (v ∷ vs) o p h = by (bytes_eq x v.name) (λ q. last-any x vs o p q) h
  where
    by : (b : Bool) → (any_named x vs ≡ true → last_type x vs o ≡ last_type x vs p) → (b || any_named x vs) ≡ true → last_type x vs (if b then Some v.ty else o) ≡ last_type x vs (if b then Some v.ty else p)
    by true rest e = refl
    by false rest e = rest e

pub last-visible : (x : List ℕ) (ls : List Numbered) (o : Option Ty) → last_type x (variables_of (visible_locals ls)) o ≡ last_type x (variables_of ls) o
last-visible x [] o = refl
last-visible x (l ∷ ls) o = by_hidden (any_named l.variable.name (variables_of ls)) refl (last-visible x ls)
  where
    hidden : (b : Bool) → bytes_eq x l.variable.name ≡ b → any_named l.variable.name (variables_of ls) ≡ true → last_type x (variables_of ls) o ≡ last_type x (variables_of ls) (if b then Some l.variable.ty else o)
    hidden false e h = refl
    hidden true e h =
        let same : x ≡ l.variable.name = (bytes_eq-Decides x l.variable.name).0 e in
        last-any x (variables_of ls) o (Some l.variable.ty) (ap (λ y. any_named y (variables_of ls)) same ∙ h)

    by_hidden : (b : Bool) → any_named l.variable.name (variables_of ls) ≡ b → ((p : Option Ty) → last_type x (variables_of (visible_locals ls)) p ≡ last_type x (variables_of ls) p)
        → last_type x (variables_of (if b then visible_locals ls else l ∷ visible_locals ls)) o ≡ last_type x (variables_of ls) (if bytes_eq x l.variable.name then Some l.variable.ty else o)
    by_hidden true h rest = rest o ∙ hidden (bytes_eq x l.variable.name) refl h
    by_hidden false h rest = rest (if bytes_eq x l.variable.name then Some l.variable.ty else o)

pub visible-written : (ls : List Numbered) → AreVariablesWritten (variables_of ls) → AreVariablesWritten (variables_of (visible_locals ls))
visible-written [] h = tt
visible-written (l ∷ ls) h = by_hidden (any_named l.variable.name (variables_of ls)) (visible-written ls h.1)
  where
    by_hidden : (b : Bool) → AreVariablesWritten (variables_of (visible_locals ls)) → AreVariablesWritten (variables_of (if b then visible_locals ls else l ∷ visible_locals ls))
    by_hidden true k = k
    by_hidden false k = (h.0, k)
