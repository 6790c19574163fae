-- The steps of a path are taken one by one, the last one first.
use Rattle.std.proofs.Common.{◌≡◌, ◌<◌, ◌+◌, ◌-◌, ℕ, zero, suc, List, [], ◌∷◌, ◌++◌, drop, length, reverse, get_or, false, Bool, Option, Some, None, IsSome, refl, sym, ap, ◌∙◌, subst, arith}
use Rattle.std.proofs.Math.Seq.{drop-cons}
use Rattle.std.proofs.lemmas.List.{reverse-append}
use Rattle.bds_value.specs.declared.value.Place.{Place}
use Rattle.bds_value.specs.declared.value.Value.{Value}
use Rattle.bds_value.specs.Options.{◌>>=◌}
use Rattle.bds_code_frames.specs.Stack.{Stack, popped}
use Rattle.bds_machine_values.specs.Operands.{taken_all}
use Rattle.bds_machine_values.specs.Changes.{path_taken}
use Rattle.bds_machine_values.specs.Updates.{step_of, path_of}
use Rattle.bds_machine_values.proofs.Lasts.{last_taken, also_taken}
use Rattle.bds_machine_values.proofs.Taking.{one_left}

-- a path that is made of the last operands
abbrev pub MadeOf : List Bool → Stack → Type 0
MadeOf kinds s = (all : List Value) × (end : Stack) × (path : List Place) × (taken_all (length kinds) s ≡ Some (all, end)) × (path_of kinds all ≡ Some path)

pub made_of : (kinds : List Bool) (s : Stack) → IsSome (path_taken kinds s) → MadeOf kinds s
made_of kinds s h = by_taken (taken_all (length kinds) s) refl h
  where
    by_path : (all : List Value) (end : Stack) → taken_all (length kinds) s ≡ Some (all, end) → (o : Option (List Place)) → path_of kinds all ≡ o → IsSome {T = List Place × Stack} (o >>= λ path. Some (path, end)) → MadeOf kinds s
    by_path all end e None f h = absurd (cc)
    by_path all end e (Some path) f h = (all, end, path, e, f)

    by_taken : (o : Option (List Value × Stack)) → taken_all (length kinds) s ≡ o → IsSome {T = List Place × Stack} (o >>= λ steps. path_of kinds steps.0 >>= λ path. Some (path, steps.1)) → MadeOf kinds s
    by_taken None e h = absurd (cc)
    by_taken (Some steps) e h = by_path steps.0 steps.1 e (path_of kinds steps.0) refl h

step_first : (k : Bool) (ks : List Bool) (v : Value) (vs : List Value) (left : List Place) → path_of (k ∷ ks) (v ∷ vs) ≡ Some left
    → (p : Place) × (ps : List Place) × (step_of k v ≡ Some p) × (path_of ks vs ≡ Some ps) × (left ≡ p ∷ ps)
step_first k ks v vs left e = by_step (step_of k v) (path_of ks vs) refl refl e
  where
    by_step : (o : Option Place) (more : Option (List Place)) → step_of k v ≡ o → path_of ks vs ≡ more → (o >>= λ p. more >>= λ ps. Some (p ∷ ps)) ≡ Some left
        → (p : Place) × (ps : List Place) × (step_of k v ≡ Some p) × (path_of ks vs ≡ Some ps) × (left ≡ p ∷ ps)
    by_step None more a b e = absurd (cc)
    by_step (Some p) None a b e = absurd (cc)
    by_step (Some p) (Some ps) a b e = (p, ps, a, b, cc)

first_there : (k : Bool) (ks : List Bool) (v : Value) (vs : List Value) (left : List Place) → path_of (k ∷ ks) (v ∷ vs) ≡ Some left → IsSome (step_of k v)
first_there k ks v vs left e = let first = step_first k ks v vs left e in subst IsSome (sym first.2) refl

-- the path of the kinds and operands behind some
path_behind : (n : ℕ) (ks : List Bool) (vs : List Value) (path : List Place) → path_of ks vs ≡ Some path → (left : List Place) × (path_of (drop n ks) (drop n vs) ≡ Some left)
path_behind zero ks vs path e = (path, e)
path_behind (suc n) [] [] path e = ([], refl)
path_behind (suc n) [] (v ∷ vs) path e = absurd (cc)
path_behind (suc n) (k ∷ ks) [] path e = absurd (cc)
path_behind (suc n) (k ∷ ks) (v ∷ vs) path e = let first = step_first k ks v vs path e in path_behind n ks vs first.1 first.3

-- so many kinds are left; those behind them are steps of the operands that have been taken, the last one first
abbrev pub Steps : List Bool → Stack → ℕ → Stack → List Place → Type 0
Steps kinds s left now steps = (vs : List Value) × (taken_all (length kinds - left) s ≡ Some (vs, now)) × (path_of (drop left kinds) vs ≡ Some (reverse steps))

pub step_held : (kinds : List Bool) (s now : Stack) (steps : List Place) (i : ℕ) → MadeOf kinds s → Steps kinds s (suc i) now steps → i < length kinds → IsSome (popped now)
step_held kinds s now steps i made h l = one_left (length kinds) (length kinds - suc i) s now h.0 (subst IsSome (sym made.3) refl) h.1 (omega (arith, l))

-- one more is taken
more_steps : (kinds : List Bool) (s now next : Stack) (steps : List Place) (i : ℕ) (v : Value) → (h : Steps kinds s (suc i) now steps) → i < length kinds → popped now ≡ Some (v, next) → taken_all (length kinds - i) s ≡ Some (v ∷ h.0, next)
more_steps kinds s now next steps i v h l pop =
    let count : length kinds - i ≡ (length kinds - suc i) + 1 = omega (arith, l) in
    ap (λ n. taken_all n s) count ∙ also_taken (length kinds - suc i) s now next h.0 v h.1 pop

pub step_there : (kinds : List Bool) (s now next : Stack) (steps : List Place) (i : ℕ) (v : Value) → MadeOf kinds s → Steps kinds s (suc i) now steps → i < length kinds → popped now ≡ Some (v, next) → IsSome (step_of (get_or kinds i false) v)
step_there kinds s now next steps i v made h l pop =
    let taken = more_steps kinds s now next steps i v h l pop in
    let twice : length kinds - (length kinds - i) ≡ i = omega (arith, l) in
    let last : drop i made.0 ≡ v ∷ h.0 = ap (λ n. drop n made.0) (sym twice) ∙ last_taken (length kinds) (length kinds - i) s next made.1 made.0 (v ∷ h.0) made.3 taken (omega arith) in
    let behind = path_behind i kinds made.0 made.2 made.4 in
    let split = ap (λ ks. path_of ks (v ∷ h.0)) (sym (drop-cons kinds i false l)) ∙ ap (path_of (drop i kinds)) (sym last) ∙ behind.1 in
    first_there (get_or kinds i false) (drop (suc i) kinds) v h.0 behind.0 split

pub steps_on : (kinds : List Bool) (s now next : Stack) (steps : List Place) (i : ℕ) (v : Value) (p : Place) → Steps kinds s (suc i) now steps → i < length kinds → popped now ≡ Some (v, next) → step_of (get_or kinds i false) v ≡ Some p
    → Steps kinds s i next (steps ++ p ∷ [])
steps_on kinds s now next steps i v p h l pop step = (
  v ∷ h.0,
  more_steps kinds s now next steps i v h l pop,
  ap (λ ks. path_of ks (v ∷ h.0)) (drop-cons kinds i false l) ∙ ap (λ o. o >>= λ p. path_of (drop (suc i) kinds) h.0 >>= λ ps. Some (p ∷ ps)) step
      ∙ ap (λ o. o >>= λ ps. Some (p ∷ ps)) h.2 ∙ ap Some (sym (reverse-append steps (p ∷ []))),
)
