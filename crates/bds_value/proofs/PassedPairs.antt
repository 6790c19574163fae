-- What a loop over a list has passed, and what is left of it.
use Rattle.std.proofs.Common.{◌≡◌, ℕ, ◌≤◌, List, [], ◌∷◌, ◌++◌, length, nat_lt, true, refl, ap, sym, ◌∙◌, append_assoc, append-nil, All, map, subst, arith}
use Rattle.std.proofs.lemmas.Grind.{common_steps}
use Rattle.std.proofs.lemmas.List.Elements.{All-head, All-tail}
use Rattle.std.specs.List.{flat_map}
use denote.Param.Weighed.{most, most-append}

-- one item more is passed
pub passed_next : {X : Type 0} (xs done left : List X) (x : X) (rest : List X) → xs ≡ done ++ left → left ≡ x ∷ rest → xs ≡ (done ++ x ∷ []) ++ rest
passed_next xs done left x rest whole step = whole ∙ ap (λ l. done ++ l) step ∙ sym (append_assoc done (x ∷ []) rest)

pub passed_some : {X : Type 0} (done : List X) (x : X) → true ≡ nat_lt 0 (length (done ++ x ∷ []))
passed_some [] x = refl
passed_some (y ∷ ys) x = grind (arith, common_steps)

-- an item that is left is no deeper than the whole
pub left_depth : {X : Type 0} (μ : X → ℕ) (xs done left : List X) (x : X) (rest : List X) → xs ≡ done ++ left → left ≡ x ∷ rest → μ x ≤ most μ xs
left_depth μ xs done left x rest whole step = rw (whole, step, most-append μ done (x ∷ rest)) (omega arith)

-- what holds of each item holds of one that is left
All-right : {X : Type 0} (P : X → Type 0) (xs ys : List X) → All P (xs ++ ys) → All P ys
All-right P [] ys h = h
All-right P (x ∷ xs) ys h = All-right P xs ys (All-tail P x (xs ++ ys) h)

pub left_holds : {X : Type 0} (P : X → Type 0) (xs done left : List X) (x : X) (rest : List X) → xs ≡ done ++ left → left ≡ x ∷ rest → All P xs → P x
left_holds P xs done left x rest whole step h = All-head P x rest (subst (All P) step (All-right P done left (subst (All P) whole h)))

-- what is written of one item more
pub put_one : {X Y : Type 0} (f : Y → List ℕ) (g : X → Y) (done : List X) (x : X) → flat_map f (map g (done ++ x ∷ [])) ≡ flat_map f (map g done) ++ f (g x)
put_one f g [] x = append-nil (f (g x))
put_one f g (y ∷ ys) x = ap (λ r. f (g y) ++ r) (put_one f g ys x) ∙ sym (append_assoc (f (g y)) (flat_map f (map g ys)) (f (g x)))
