-- The same names, and maybe further locals: by steps, and back again.
use Rattle.std.proofs.Common.{◌≡◌, ℕ, List, [], ◌++◌, length, take, ap, sym, ◌∙◌, append_assoc, append-nil}
use Rattle.std.proofs.Math.Seq.{take-append_seam}
use Rattle.bds_check_names.specs.declared.names.Names.{Names}
use Rattle.bds_check_names.specs.declared.names.Variable.{Variable}
use Rattle.bds_check_names.specs.Scopes.{Extends, with_locals}

pub extends-same : (a b : Names) → b ≡ a → Extends a b
extends-same a b e = ([], e ∙ ap (with_locals a) (sym (append-nil a.locals)))

pub extends-then : (a b c : Names) → Extends a b → Extends b c → Extends a c
extends-then a b c p q =
    let locals : b.locals ≡ a.locals ++ p.0 = ap (λ (x : Names). x.locals) p.1 in
    let same : (a.locals ++ p.0) ++ q.0 ≡ a.locals ++ (p.0 ++ q.0) = rw append_assoc in (
      p.0 ++ q.0,
      q.1 ∙ ap (λ (x : Names). with_locals x (b.locals ++ q.0)) p.1
          ∙ ap (λ (vs : List Variable). with_locals a (vs ++ q.0)) locals ∙ ap (with_locals a) same,
    )

-- the names that had so many locals, once the others are taken away
pub cut_back : (before now : Names) (locals : List Variable) (count : ℕ) → Extends before now
    → count ≡ length before.locals → locals ≡ take count now.locals → with_locals now locals ≡ before
cut_back before now locals count e n l =
    let grown : now.locals ≡ before.locals ++ e.0 = ap (λ (x : Names). x.locals) e.1 in
    let front : take (length before.locals) (before.locals ++ e.0) ≡ before.locals = rw take-append_seam in
    let back : locals ≡ before.locals =
    l ∙ ap (λ (k : ℕ). take k now.locals) n ∙ ap (take (length before.locals)) grown ∙ front in
    ap (λ (x : Names). with_locals x locals) e.1 ∙ ap (with_locals before) back
