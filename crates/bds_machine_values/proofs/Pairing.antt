-- A map is made of its last pair first.
use Rattle.std.proofs.Common.{◌≡◌, ◌<◌, ◌+◌, ◌-◌, ℕ, zero, suc, List, [], ◌∷◌, drop, Option, Some, None, IsSome, refl, sym, ap, ◌∙◌, subst, arith}
use Rattle.bds_value.specs.declared.value.Ty.{Ty}
use Rattle.bds_value.specs.declared.value.Value.{Value}
use Rattle.bds_value.specs.Order.{KeysRise}
use Rattle.bds_value.specs.Options.{◌>>=◌}
use Rattle.bds_value.specs.Readers.{as_text}
use Rattle.bds_code_frames.specs.Stack.{Stack, popped}
use Rattle.bds_machine_values.specs.Faults.{finishes}
use Rattle.bds_machine_values.specs.Literals.{Pairs, paired, with_pairs, short_map, map_made}
use Rattle.bds_machine_values.specs.Operands.{taken_as, taken_all}
use Rattle.bds_machine_values.proofs.Firsts.{with_first, made_before}
use Rattle.bds_machine_values.proofs.Lasts.{last_taken, also_taken}
use Rattle.bds_machine_values.proofs.Taking.{one_left}

-- pairs that are made of the last operands
abbrev pub PairsOf : ℕ → Stack → Type 0
PairsOf n s = (all : List Value) × (end : Stack) × (taken_all (n + n) s ≡ Some (all, end)) × IsSome (paired all)

pub pairs_there : (t : Ty) (n : ℕ) (s : Stack) → IsSome (map_made t n s) → PairsOf n s
pairs_there t n s h = by_taken (taken_all (n + n) s) refl h
  where
    by_pairs : (after : Stack) (o : Option Pairs) → IsSome (o >>= λ ps. finishes (short_map t (with_pairs [] ps)) after) → IsSome o
    by_pairs after None h = absurd (cc)
    by_pairs after (Some ps) h = refl

    by_taken : (o : Option (List Value × Stack)) → taken_all (n + n) s ≡ o → IsSome (o >>= λ r. paired r.0 >>= λ ps. finishes (short_map t (with_pairs [] ps)) r.1) → PairsOf n s
    by_taken None e h = absurd (cc)
    by_taken (Some r) e h = (r.0, r.1, e, by_pairs r.1 (paired r.0) h)

pair_first : (k v : Value) (vs : List Value) → IsSome (paired (k ∷ v ∷ vs)) → IsSome (as_text k) × IsSome (paired vs)
pair_first k v vs h = by_key (as_text k) (paired vs) h
  where
    by_key : (o : Option (List ℕ)) (more : Option Pairs) → IsSome (o >>= λ key. more >>= λ ps. Some ((key, v) ∷ ps)) → IsSome o × IsSome more
    by_key None more h = absurd (cc)
    by_key (Some key) None h = absurd (cc)
    by_key (Some key) (Some ps) h = (refl, refl)

-- what is left behind some pairs is in pairs too
paired_behind : (m n : ℕ) (vs : List Value) → n ≡ m + m → IsSome (paired vs) → IsSome (paired (drop n vs))
paired_behind zero n vs e h = subst (λ n. IsSome (paired (drop n vs))) (sym e) h
paired_behind (suc m) n [] e h = let two : n ≡ suc (suc (m + m)) = omega (arith, e) in subst (λ n. IsSome (paired (drop n []))) (sym two) refl
paired_behind (suc m) n (k ∷ []) e h = absurd (cc)
paired_behind (suc m) n (k ∷ v ∷ vs) e h =
    let two : n ≡ suc (suc (m + m)) = omega (arith, e) in
    subst (λ n. IsSome (paired (drop n (k ∷ v ∷ vs)))) (sym two) (paired_behind m (m + m) vs refl (pair_first k v vs h).1)

-- what has been made of so many last pairs
abbrev pub Filled : Stack → ℕ → Stack → Pairs → Type 0
Filled s i now made = (vs : List Value) × (ps : Pairs) × (taken_all (i + i) s ≡ Some (vs, now)) × (paired vs ≡ Some ps) × (made ≡ with_pairs [] ps) × KeysRise made

pub value_held : (n i : ℕ) (s now : Stack) (made : Pairs) → PairsOf n s → Filled s i now made → i < n → IsSome (popped now)
value_held n i s now made all h l = one_left (n + n) (i + i) s now h.0 (subst IsSome (sym all.2) refl) h.2 (omega (arith, l))

key_held : (n i : ℕ) (s now mid : Stack) (made : Pairs) (v : Value) → PairsOf n s → Filled s i now made → i < n → popped now ≡ Some (v, mid) → IsSome (popped mid)
key_held n i s now mid made v all h l pop = one_left (n + n) (i + i + 1) s mid (v ∷ h.0) (subst IsSome (sym all.2) refl) (also_taken (i + i) s now mid h.0 v h.2 pop) (omega (arith, l))

both_taken : (i : ℕ) (s now mid next : Stack) (vs : List Value) (k v : Value) → taken_all (i + i) s ≡ Some (vs, now) → popped now ≡ Some (v, mid) → popped mid ≡ Some (k, next) → taken_all ((i + 1) + (i + 1)) s ≡ Some (k ∷ v ∷ vs, next)
both_taken i s now mid next vs k v taken value key =
    let count : (i + 1) + (i + 1) ≡ i + i + 1 + 1 = omega arith in
    ap (λ n. taken_all n s) count ∙ also_taken (i + i + 1) s mid next (v ∷ vs) k (also_taken (i + i) s now mid vs v taken value) key

key_there : (n i : ℕ) (s now mid next : Stack) (made : Pairs) (k v : Value) → PairsOf n s → Filled s i now made → i < n → popped now ≡ Some (v, mid) → popped mid ≡ Some (k, next) → IsSome (as_text k)
key_there n i s now mid next made k v all h l value key =
    let taken = both_taken i s now mid next h.0 k v h.2 value key in
    let last = last_taken (n + n) ((i + 1) + (i + 1)) s next all.1 all.0 (k ∷ v ∷ h.0) all.2 taken (omega (arith, l)) in
    let rest : (n + n) - ((i + 1) + (i + 1)) ≡ (n - (i + 1)) + (n - (i + 1)) = omega (arith, l) in
    (pair_first k v h.0 (subst (λ vs. IsSome (paired vs)) last (paired_behind (n - (i + 1)) _ all.0 rest all.3))).0

pub text_held : (n i : ℕ) (s now mid : Stack) (made : Pairs) (v : Value) → PairsOf n s → Filled s i now made → i < n → popped now ≡ Some (v, mid) → IsSome (taken_as as_text mid)
text_held n i s now mid made v all h l pop = by_value (popped mid) refl (key_held n i s now mid made v all h l pop)
  where
    by_text : (next : Stack) (o : Option (List ℕ)) → IsSome o → IsSome (◌>>=◌ {B = List ℕ × Stack} o (λ x. Some (x, next)))
    by_text next None h = absurd (cc)
    by_text next (Some x) h = refl

    by_value : (o : Option (Value × Stack)) → popped mid ≡ o → IsSome o → IsSome (◌>>=◌ {B = List ℕ × Stack} o (λ r. as_text r.0 >>= λ x. Some (x, r.1)))
    by_value None p h = absurd (cc)
    by_value (Some r) p some = by_text r.1 (as_text r.0) (key_there n i s now mid r.1 made r.0 v all h l pop p)

pub filled_on : (i : ℕ) (s now mid next : Stack) (made more : Pairs) (k v : Value) (key : List ℕ) → Filled s i now made → popped now ≡ Some (v, mid) → popped mid ≡ Some (k, next) → as_text k ≡ Some key
    → more ≡ with_first made (key, v) → KeysRise more → Filled s (i + 1) next more
filled_on i s now mid next made more k v key h value pop text put rise = (
  k ∷ v ∷ h.0,
  (key, v) ∷ h.1,
  both_taken i s now mid next h.0 k v h.2 value pop,
  ap (λ o. o >>= λ key. paired h.0 >>= λ ps. Some ((key, v) ∷ ps)) text ∙ ap (λ o. o >>= λ ps. Some ((key, v) ∷ ps)) h.3,
  put ∙ ap (λ made. with_first made (key, v)) h.4 ∙ sym (made_before (key, v) h.1),
  rise,
)

-- a key that is taken
pub text_taken : (s next : Stack) (key : List ℕ) → taken_as as_text s ≡ Some (key, next) → (k : Value) × (popped s ≡ Some (k, next)) × (as_text k ≡ Some key)
text_taken s next key e = by_value (popped s) refl e
  where
    by_text : (k : Value) (after : Stack) → popped s ≡ Some (k, after) → (o : Option (List ℕ)) → as_text k ≡ o → ◌>>=◌ {B = List ℕ × Stack} o (λ x. Some (x, after)) ≡ Some (key, next) → (k : Value) × (popped s ≡ Some (k, next)) × (as_text k ≡ Some key)
    by_text k after p None t e = absurd (cc)
    by_text k after p (Some x) t e =
        let same : (x, after) ≡ (key, next) = cc in
        (k, p ∙ ap (λ (q : List ℕ × Stack). Some (k, q.1)) same, t ∙ ap (λ (q : List ℕ × Stack). Some q.0) same)

    by_value : (o : Option (Value × Stack)) → popped s ≡ o → ◌>>=◌ {B = List ℕ × Stack} o (λ r. as_text r.0 >>= λ x. Some (x, r.1)) ≡ Some (key, next) → (k : Value) × (popped s ≡ Some (k, next)) × (as_text k ≡ Some key)
    by_value None p e = absurd (cc)
    by_value (Some r) p e = by_text r.0 r.1 p (as_text r.0) refl e
