-- What a loop over a list has passed, where the list comes as what is ahead.
use Rattle.std.proofs.Common.{◌≡◌, ℕ, ◌≤◌, List, [], ◌∷◌, ◌++◌, sym, ap, subst, ◌∙◌, append-nil}
use denote.Param.Weighed.{most}
use Rattle.bds_value.specs.declared.value.Value.{Value}
use Rattle.bds_value.proofs.PassedPairs.{passed_next, left_depth}
use Rattle.bds_value.proofs.value.Value.TheLaws.{the_size}

-- a part of the list is passed, of which P holds, and what is ahead is the rest
pub record Passed {X : Type 0} (P : List X → Type 0) (whole ahead : List X) : Type 0 where
  pub done : List X
  pub parted : whole ≡ done ++ ahead
  pub holds : P done

-- nothing is passed yet
pub passed-none : {X : Type 0} (P : List X → Type 0) (whole ahead : List X) → ahead ≡ whole → P [] → Passed P whole ahead
passed-none P whole ahead e h = record { done = []; parted = sym e; holds = h }

-- one item more
pub passed-more : {X : Type 0} (P Q : List X → Type 0) (whole ahead rest : List X) (x : X) → ahead ≡ x ∷ rest → ((done : List X) → P done → Q (done ++ x ∷ [])) → Passed P whole ahead → Passed Q whole rest
passed-more P Q whole ahead rest x e more p =
    record { done = p.done ++ x ∷ []; parted = passed_next whole p.done ahead x rest p.parted e; holds = more p.done p.holds }

-- all is passed
pub passed-all : {X : Type 0} (P : List X → Type 0) (whole ahead : List X) → ahead ≡ [] → Passed P whole ahead → P whole
passed-all P whole ahead e p = subst P (sym (p.parted ∙ ap (λ r. p.done ++ r) e ∙ append-nil p.done)) p.holds

-- the deepest value of pairs, which no value ahead exceeds
abbrev pub pairs_size : List (List ℕ × Value) → ℕ
pairs_size ps = most (λ (p : List ℕ × Value). the_size p.1) ps

pub value-shallow : (P : List (List ℕ × Value) → Type 0) (whole ahead rest : List (List ℕ × Value)) (p : List ℕ × Value) → ahead ≡ p ∷ rest → Passed P whole ahead → the_size p.1 ≤ pairs_size whole
value-shallow P whole ahead rest p e h = left_depth (λ (q : List ℕ × Value). the_size q.1) whole h.done ahead p rest h.parted e
