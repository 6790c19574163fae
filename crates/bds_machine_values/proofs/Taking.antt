-- Operands are taken one by one.
use Rattle.std.proofs.Common.{◌≡◌, ◌<◌, ◌≤◌, ◌+◌, ℕ, zero, suc, List, [], ◌∷◌, ◌++◌, take, drop, length, reverse, slice_get, nat_le, Bool, true, false, cond, Option, Some, None, IsSome, refl, sym, ap, ◌∙◌, subst, arith, append_assoc}
use Rattle.std.proofs.lemmas.Grind.{common_steps}
use Rattle.std.proofs.lemmas.List.{reverse-append}
use Rattle.std.proofs.lemmas.Option.{slice_get_within}
use Rattle.bds_value.specs.declared.value.Value.{Value}
use Rattle.bds_value.specs.Options.{◌>>=◌}
use Rattle.bds_value.specs.Readers.{all_texts, as_text}
use Rattle.bds_code_frames.specs.Stack.{Call, Stack, popped, popped_of, with_ops}
use Rattle.bds_machine_values.specs.Operands.{taken_all}

cut : (i : ℕ) (xs : List Value) (w : Value) (ws : List Value) → drop i xs ≡ w ∷ ws → (take (suc i) xs ≡ take i xs ++ w ∷ []) × (drop (suc i) xs ≡ ws) × (suc i ≤ length xs)
cut zero [] w ws e = absurd (cc)
cut (suc i) [] w ws e = absurd (cc)
cut zero (x ∷ xs) w ws e = (cc, cc, omega arith)
cut (suc i) (x ∷ xs) w ws e = let r = cut i xs w ws e in (ap (λ ys. x ∷ ys) r.0, r.1, omega (arith, r.2))

first_there : (i : ℕ) (xs : List Value) → i < length xs → (w : Value) × (ws : List Value) × (drop i xs ≡ w ∷ ws)
first_there zero [] l = absurd (omega (arith, l))
first_there (suc i) [] l = absurd (omega (arith, l))
first_there zero (x ∷ xs) l = (x, xs, refl)
first_there (suc i) (x ∷ xs) l = first_there i xs (omega (arith, l))

pub full : {X : Type 0} (b : Bool) (x y : X) → cond b (Some x) None ≡ Some y → (b ≡ true) × (x ≡ y)
full true x y e = (refl, cc)
full false x y e = absurd (cc)

some_full : {X : Type 0} (b : Bool) (x : X) → IsSome (cond b (Some x) None) → b ≡ true
some_full true x h = refl
some_full false x h = absurd (cc)

same_full : {X Y : Type 0} (b : Bool) (x x' : X) (y y' : Y) → b ≡ true → x ≡ x' → y ≡ y' → cond {A = Option (X × Y)} b (Some (x, y)) None ≡ Some (x', y')
same_full {X} {Y} b x x' y y' e ex ey =
    let both : X → Y → Option (X × Y) = λ x y. Some (x, y) in
    ap (λ b. cond b (both x y) None) e ∙ ap (λ x. both x y) ex ∙ ap (λ y. both x' y) ey

popped_first : (ops : List Value) (d : Call) (below s : Stack) (v : Value) → popped_of ops d below ≡ Some (v, s) → (ws : List Value) × (ops ≡ v ∷ ws) × (s ≡ with_ops ws d ∷ below)
popped_first [] d below s v e = absurd (cc)
popped_first (w ∷ ws) d below s v e =
    let same : (w, with_ops ws d ∷ below) ≡ (v, s) = cc in
    (ws, ap (λ (x : Value × Stack). x.0 ∷ ws) same, sym (ap (λ (x : Value × Stack). x.1) same))

pub none_taken : (n : ℕ) (s : Stack) → IsSome (taken_all n s) → taken_all 0 s ≡ Some ([], s)
none_taken n [] h = absurd (cc)
none_taken n (c ∷ below) h = let few : nat_le 0 (length c.ops) ≡ true = grind (arith, common_steps) in ap (λ b. cond b (Some ([], c ∷ below)) None) few

-- where so many operands are there and fewer are taken, there is one more
pub one_left : (n i : ℕ) (s s' : Stack) (vs : List Value) → IsSome (taken_all n s) → taken_all i s ≡ Some (vs, s') → i < n → IsSome (popped s')
one_left n i [] s' vs h e l = absurd (cc)
one_left n i (c ∷ below) s' vs h e l =
    let few : nat_le n (length c.ops) ≡ true = some_full (nat_le n (length c.ops)) _ h in
    let there : i < length c.ops = grind (arith, common_steps) in
    let first = first_there i c.ops there in
    let left : with_ops (drop i c.ops) c ∷ below ≡ s' = ap (λ (x : List Value × Stack). x.1) (full (nat_le i (length c.ops)) _ _ e).1 in
    subst (λ s. IsSome (popped s)) left (subst (λ ops. IsSome (popped_of ops (with_ops ops c) below)) (sym first.2) refl)

pub one_more : (i : ℕ) (s s' s'' : Stack) (vs : List Value) (v : Value) → taken_all i s ≡ Some (reverse vs, s') → popped s' ≡ Some (v, s'') → taken_all (i + 1) s ≡ Some (reverse (vs ++ v ∷ []), s'')
one_more i [] s' s'' vs v e p = absurd (cc)
one_more i (c ∷ below) s' s'' vs v e p =
    let r = (full (nat_le i (length c.ops)) _ _ e).1 in
    let left : with_ops (drop i c.ops) c ∷ below ≡ s' = ap (λ (x : List Value × Stack). x.1) r in
    let first = popped_first (drop i c.ops) (with_ops (drop i c.ops) c) below s'' v (ap popped left ∙ p) in
    let parts = cut i c.ops v first.0 first.1 in
    let next : i + 1 ≡ suc i = omega arith in
    let few : nat_le (i + 1) (length c.ops) ≡ true = grind (arith, common_steps, parts.2) in
    let values : reverse (take (i + 1) c.ops) ≡ reverse (vs ++ v ∷ []) =
    ap (λ k. reverse (take k c.ops)) next ∙ ap reverse parts.0 ∙ reverse-append (take i c.ops) (v ∷ []) ∙ ap (λ (x : List Value × Stack). v ∷ x.0) r ∙ sym (reverse-append vs (v ∷ [])) in
    let stacks : with_ops (drop (i + 1) c.ops) c ∷ below ≡ s'' = ap (λ k. with_ops (drop k c.ops) c ∷ below) next ∙ ap (λ ops. with_ops ops c ∷ below) parts.1 ∙ sym first.2 in
    same_full (nat_le (i + 1) (length c.ops)) (reverse (take (i + 1) c.ops)) (reverse (vs ++ v ∷ [])) (with_ops (drop (i + 1) c.ops) c ∷ below) s'' few values stacks

all_parts : (x : Value) (rest : List Value) → IsSome (all_texts (x ∷ rest)) → IsSome (as_text x)
all_parts x rest h = elim (as_text x) as (λ o. IsSome (o >>= λ t. all_texts rest >>= λ ts. Some (t ∷ ts)) → IsSome o) [ None ↦ (λ h. h) | Some t ↦ (λ h. refl) ] h

all_later : (x : Value) (rest : List Value) → IsSome (all_texts (x ∷ rest)) → IsSome (all_texts rest)
all_later x rest h =
    elim (as_text x) as (λ o. IsSome (o >>= λ t. all_texts rest >>= λ ts. Some (t ∷ ts)) → IsSome (all_texts rest)) [
      | None ↦ (λ h. absurd (cc))
      | Some t ↦ elim (all_texts rest) as (λ o. IsSome (o >>= λ ts. Some (t ∷ ts)) → IsSome o) [ None ↦ (λ h. h) | Some ts ↦ (λ h. refl) ]
    ] h

all_behind : (before rest : List Value) → IsSome (all_texts (before ++ rest)) → IsSome (all_texts rest)
all_behind [] rest h = h
all_behind (x ∷ before) rest h = all_behind before rest (all_later x (before ++ rest) h)

again : (all items left rest : List Value) (x : Value) → all ≡ items ++ rest → items ≡ left ++ x ∷ [] → all ≡ left ++ x ∷ rest
again all items left rest x e is = e ∙ ap (λ ys. ys ++ rest) is ∙ append_assoc left (x ∷ []) rest

-- an item of a list of texts is a text
pub text_there : (all items left rest : List Value) (x : Value) → IsSome (all_texts all) → all ≡ items ++ rest → items ≡ left ++ x ∷ [] → IsSome (as_text x)
text_there all items left rest x h e is =
    all_parts x rest (all_behind left (x ∷ rest) (subst (λ ys. IsSome (all_texts ys)) (again all items left rest x e is) h))

pub text_more : (all items left rest : List Value) (x : Value) (t : List ℕ) (ts : List (List ℕ)) → all ≡ items ++ rest → items ≡ left ++ x ∷ [] → as_text x ≡ Some t → all_texts rest ≡ Some (reverse ts)
    → (more : List Value) × (all ≡ left ++ more) × (all_texts more ≡ Some (reverse (ts ++ t ∷ [])))
text_more all items left rest x t ts e is text texts = (
  x ∷ rest,
  again all items left rest x e is,
  ap (λ o. o >>= λ t. all_texts rest >>= λ ts. Some (t ∷ ts)) text ∙ ap (λ o. o >>= λ ts. Some (t ∷ ts)) texts ∙ ap (λ ts. Some ts) (sym (reverse-append ts (t ∷ []))),
)

-- a slot that is there
pub within : {X : Type 0} (xs : List X) (i : ℕ) → IsSome (slice_get xs i) → i < length xs
within xs i h = elim (slice_get xs i) as (λ o. slice_get xs i ≡ o → IsSome o → i < length xs) [ None ↦ (λ e h. absurd (cc)) | Some x ↦ (λ e h. slice_get_within xs i x e) ] refl h
