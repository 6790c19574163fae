-- The keys of tasks tell which may start, and the running tasks what is in use.
use Rattle.std.proofs.Common.{◌≡◌, ◌⊎◌, inl, inr, ℕ, zero, suc, ◌+◌, ◌-◌, ◌*◌, ◌^◌, ◌<◌, ◌≤◌, Bool, true, false, ◌&&◌, List, [], ◌∷◌, ◌++◌}
use Rattle.std.proofs.Common.{map, length, min, Option, Some, None, refl, sym, ap, ◌∙◌, arith, nat_eq, nat_le}
use Rattle.std.proofs.Common.{if◌then◌else◌}
use Rattle.std.proofs.lemmas.Bool.{le-leb, leb-true}
use Rattle.std.proofs.lemmas.List.Sums.{sum_by-cons, sum_by_push}
use Rattle.std.specs.List.{AllByRecursion, list_all, slice_get, slice_set}
use Rattle.std.specs.Option.{option_map, unwrap_or}
use Rattle.bds_levels.specs.Least.{NEVER, place}
use Rattle.bds_value.specs.declared.TheConstants.{MAX_CPUS, MAX_TASKS}
use Rattle.bds_tasks.specs.declared.task.Task.{Task}
use Rattle.bds_tasks.specs.Kept.{busy, key_by, keys, most_for, unmet_of, used_of}
use Rattle.bds_tasks.specs.Sound.{AreSound, AreTasks, EndedBadly}
use Rattle.bds_tasks.specs.Starts.{first, in_use, may_start, startable, taken}
use Rattle.bds_tasks.specs.Tasks.{is_good, numbers_from, one_where, passes, running, runs, waits}
use Rattle.bds_tasks.proofs.PlaceLaws.{eq_zero}

abbrev IsSized : Task → Type 0
IsSized t = (1 ≤ t.made.cpus) × (t.made.cpus ≤ MAX_CPUS)

sized : (P : ℕ → Type 0) (i : ℕ) (ts : List Task) → AreSound P i ts → AllByRecursion IsSized ts
sized P i [] a = tt
sized P i (t ∷ ts) a = ((a.0.made.some_cpus, a.0.made.cpus), sized P (i + 1) ts a.1)

not_le : (n m : ℕ) → m < n → nat_le n m ≡ false
not_le n m l = go (nat_le n m) refl
  where
    go : (c : Bool) → nat_le n m ≡ c → c ≡ false
    go true e = let h : n ≤ m = leb-true n m e in absurd (omega (arith, l, h))
    go false e = refl

is_less : (n m : ℕ) → nat_le n m ≡ false → m < n
is_less n m e = grind (arith, e)

is_same : (n m : ℕ) → nat_eq n m ≡ true → n ≡ m
is_same n m e = grind (arith, e)

-- all pass where none is left that doesn't
all_counted : (ts : List Task) (ns : List ℕ) → list_all (passes is_good ts) ns ≡ nat_eq (unmet_of ts ns) 0
all_counted ts [] = refl
all_counted ts (n ∷ ns) = go (passes is_good ts n) (all_counted ts ns)
  where
    go : (b : Bool) → list_all (passes is_good ts) ns ≡ nat_eq (unmet_of ts ns) 0
        → b && list_all (passes is_good ts) ns ≡ nat_eq (if b then unmet_of ts ns else suc (unmet_of ts ns)) 0
    go true e = e
    go false e = sym (eq_zero (unmet_of ts ns))

room_none : (c cpus used : ℕ) → used ≡ 0 → c ≤ MAX_CPUS → nat_le c MAX_CPUS ≡ nat_le (min c cpus + used) cpus
room_none c cpus used z l =
    let m : min c cpus + used ≤ cpus = grind (arith, z) in
    le-leb c MAX_CPUS l ∙ sym (le-leb (min c cpus + used) cpus m)

room_some : (c cpus used : ℕ) → 1 ≤ used → 1 ≤ c → nat_le c (cpus - used) ≡ nat_le (min c cpus + used) cpus
room_some c cpus used u o = go (nat_le (min c cpus + used) cpus) refl
  where
    go : (b : Bool) → nat_le (min c cpus + used) cpus ≡ b → nat_le c (cpus - used) ≡ b
    go true e = let h : min c cpus + used ≤ cpus =
        leb-true (min c cpus + used) cpus e in let l : c ≤ cpus - used = grind (arith, h, u) in le-leb c (cpus - used) l
    go false e = let h : cpus < min c cpus + used =
        is_less (min c cpus + used) cpus e in let l : cpus - used < c = grind (arith, h, o) in not_le c (cpus - used) l

some_used : (used : ℕ) → nat_eq used 0 ≡ false → 1 ≤ used
some_used zero e = absurd (cc)
some_used (suc n) e = omega arith

room : (c cpus used : ℕ) → 1 ≤ c → c ≤ MAX_CPUS → nat_le c (most_for cpus used) ≡ nat_le (min c cpus + used) cpus
room c cpus used o l = go (nat_eq used 0) refl
  where
    go : (b : Bool) → nat_eq used 0 ≡ b
        → nat_le c (if b then MAX_CPUS else cpus - used) ≡ nat_le (min c cpus + used) cpus
    go true e = room_none c cpus used (is_same used 0 e) l
    go false e = room_some c cpus used (some_used used e) o

never : (cpus used : ℕ) → cpus < 2 ^ 32 → nat_le NEVER (most_for cpus used) ≡ false
never cpus used l = go (nat_eq used 0) refl
  where
    go : (b : Bool) → nat_eq used 0 ≡ b → nat_le NEVER (if b then MAX_CPUS else cpus - used) ≡ false
    go true e = refl
    go false e =
        let u = some_used used e in let m : cpus - used < NEVER = omega (arith, l, u) in not_le NEVER (cpus - used) m

key_tells : (cpus : ℕ) (ts : List Task) (t : Task) → cpus < 2 ^ 32 → IsSized t
    → nat_le (key_by t (unmet_of ts t.needs)) (most_for cpus (in_use cpus ts)) ≡ may_start cpus ts t
key_tells cpus ts t l s = waiting (waits t.state)
    ∙ ap (λ b. waits t.state && (b && nat_le (taken cpus t + in_use cpus ts) cpus)) (sym (all_counted ts t.needs))
  where
    counted : (b : Bool)
        → nat_le (if b then t.made.cpus else NEVER) (most_for cpus (in_use cpus ts)) ≡ b && nat_le
        (taken cpus t + in_use cpus ts) cpus
    counted true = room t.made.cpus cpus (in_use cpus ts) s.0 s.1
    counted false = never cpus (in_use cpus ts) l

    waiting : (w : Bool)
        → nat_le (if w && nat_eq (unmet_of ts t.needs) 0 then t.made.cpus else NEVER) (most_for cpus (in_use cpus ts)) ≡
        w && (nat_eq (unmet_of ts t.needs) 0 && nat_le (taken cpus t + in_use cpus ts) cpus)
    waiting true = counted (nat_eq (unmet_of ts t.needs) 0)
    waiting false = never cpus (in_use cpus ts) l

shift : (n : ℕ) (o : Option ℕ) → option_map (λ i. i + (n + 1)) o ≡ option_map (λ i. i + n) (option_map suc o)
shift n None = refl
shift n (Some i) = let e : i + (n + 1) ≡ suc i + n = omega arith in ap Some e

placed : (most n : ℕ) (key : Task → ℕ) (test : Task → Bool) (P : Task → Type 0)
    → ((t : Task) → P t → nat_le (key t) most ≡ test t) → (us : List Task) → AllByRecursion P us
    → first (numbers_from n test us) ≡ option_map (λ i. i + n) (place most (map key us))
placed most n key test P h [] a = refl
placed most n key test P h (u ∷ us) a = go (test u) (h u a.0) (placed most (n + 1) key test P h us a.1)
  where
    go : (b : Bool) → nat_le (key u) most ≡ b
        → first (numbers_from (n + 1) test us) ≡ option_map (λ i. i + (n + 1)) (place most (map key us))
        → first (one_where b n
        ++ numbers_from (n + 1) test us) ≡ option_map (λ i. i + n)
        (if nat_le (key u) most then Some 0 else option_map suc (place most (map key us)))
    go true e r = let z : n ≡ 0 + n = omega arith in ap Some z
        ∙ ap (λ (c : Bool). option_map (λ i. i + n) (if c then Some 0 else option_map suc (place most (map key us))))
        (sym e)
    go false e r = r ∙ shift n (place most (map key us))
        ∙ ap (λ (c : Bool). option_map (λ i. i + n) (if c then Some 0 else option_map suc (place most (map key us))))
        (sym e)

one_more : (o : Option ℕ) → option_map (λ i. i + 1) o ≡ option_map suc o
one_more None = refl
one_more (Some i) = let e : i + 1 ≡ suc i = omega arith in ap Some e

pub starts_by_keys : (cpus : ℕ) (ts : List Task) → cpus < 2 ^ 32 → AreTasks ts
    → startable cpus ts ≡ option_map suc (place (most_for cpus (in_use cpus ts)) (keys ts))
starts_by_keys cpus ts l a =
    placed (most_for cpus (in_use cpus ts)) 1 (λ t. key_by t (unmet_of ts t.needs)) (may_start cpus ts) IsSized
    (λ t s. key_tells cpus ts t l s) ts (sized (EndedBadly ts) 0 ts a.sound)
    ∙ one_more (place (most_for cpus (in_use cpus ts)) (keys ts))

-- what is asked for is never all that can be told
pub most_less : (cpus used : ℕ) → cpus < 2 ^ 32 → most_for cpus used < NEVER
most_less cpus used l = go (nat_eq used 0) refl
  where
    go : (b : Bool) → nat_eq used 0 ≡ b → (if b then MAX_CPUS else cpus - used) < NEVER
    go true e = let m : MAX_CPUS < NEVER = omega arith in m
    go false e = let u = some_used used e in omega (arith, l, u)

-- what the running tasks ask for tells as much as what they take

abbrev pub asks : Task → ℕ
asks t = if runs t.state then t.made.cpus else 0

abbrev takes : ℕ → Task → ℕ
takes cpus t = if runs t.state then taken cpus t else 0

none_taken : (ts : List Task) → in_use 0 ts ≡ 0
none_taken [] = refl
none_taken (t ∷ ts) = sum_by-cons (takes 0) t ts ∙ ap (λ n. takes 0 t + n) (none_taken ts) ∙ go (runs t.state)
  where
    go : (b : Bool) → (if b then min t.made.cpus 0 else 0) + 0 ≡ 0
    go true = grind (arith)
    go false = refl

less_taken : (cpus : ℕ) (ts : List Task) → in_use cpus ts ≤ busy ts
less_taken cpus [] = omega arith
less_taken cpus (t ∷ ts) =
    let one : in_use cpus (t ∷ ts) ≡ takes cpus t + in_use cpus ts = sum_by-cons (takes cpus) t ts in
    let two : busy (t ∷ ts) ≡ asks t + busy ts = sum_by-cons asks t ts in
    let here : takes cpus t ≤ asks t = go (runs t.state) in
    let rest = less_taken cpus ts in
    omega (arith, one, two, here, rest)
  where
    go : (b : Bool) → (if b then min t.made.cpus cpus else 0) ≤ (if b then t.made.cpus else 0)
    go true = grind (arith)
    go false = omega arith

-- all is taken that is asked for, or all that there is
all_taken : (cpus : ℕ) (ts : List Task) → (in_use cpus ts ≡ busy ts) ⊎ (cpus ≤ in_use cpus ts)
all_taken cpus [] = inl refl
all_taken cpus (t ∷ ts) =
    let one : in_use cpus (t ∷ ts) ≡ takes cpus t + in_use cpus ts = sum_by-cons (takes cpus) t ts in
    let two : busy (t ∷ ts) ≡ asks t + busy ts = sum_by-cons asks t ts in
    elim (go (runs t.state)) [
      | inl same ↦ elim (all_taken cpus ts) [
        | inl rest ↦ inl (omega (arith, one, two, same, rest))
        | inr full ↦ inr (omega (arith, one, full))
      ]
      | inr full ↦ inr (omega (arith, one, full))
    ]
  where
    within : (b : Bool) → nat_le t.made.cpus cpus ≡ b
        → (min t.made.cpus cpus ≡ t.made.cpus) ⊎ (cpus ≤ min t.made.cpus cpus)
    within true e = let l : t.made.cpus ≤ cpus = leb-true t.made.cpus cpus e in inl (grind (arith, l))
    within false e = let l : cpus < t.made.cpus = is_less t.made.cpus cpus e in inr (grind (arith, l))

    go : (b : Bool) → ((if b then min t.made.cpus cpus else 0) ≡ (if b then t.made.cpus else 0))
        ⊎ (cpus ≤ (if b then min t.made.cpus cpus else 0))
    go true = within (nat_le t.made.cpus cpus) refl
    go false = inl refl

most_none : (cpus used : ℕ) → 1 ≤ cpus → cpus ≤ used → most_for cpus used ≡ 0
most_none cpus used one l = go (nat_eq used 0) refl
  where
    go : (b : Bool) → nat_eq used 0 ≡ b → (if b then MAX_CPUS else cpus - used) ≡ 0
    go true e = let z = is_same used 0 e in absurd (omega (arith, one, l, z))
    go false e = omega (arith, l)

pub most_same : (cpus : ℕ) (ts : List Task) → most_for cpus (used_of cpus (busy ts)) ≡ most_for cpus (in_use cpus ts)
most_same zero ts = ap (most_for 0) (sym (none_taken ts))
most_same (suc cpus) ts =
    ap (λ b. most_for (suc cpus) (if b then 0 else busy ts)) (eq_zero cpus) ∙ elim (all_taken (suc cpus) ts) [
      | inl same ↦ ap (most_for (suc cpus)) (sym same)
      | inr full ↦ (let less = less_taken (suc cpus) ts in
          most_none (suc cpus) (busy ts) (omega arith) (omega (arith, full, less))
          ∙ sym (most_none (suc cpus) (in_use (suc cpus) ts) (omega arith) full))
    ]

-- it stays small

busy_from : (ts : List Task) → AllByRecursion IsSized ts → busy ts ≤ MAX_CPUS * length ts
busy_from [] a = omega arith
busy_from (t ∷ ts) a =
    let two : busy (t ∷ ts) ≡ asks t + busy ts = sum_by-cons asks t ts in
    let here : asks t ≤ MAX_CPUS = go (runs t.state) a.0.1 in
    let rest = busy_from ts a.1 in
    let long : length (t ∷ ts) ≡ length ts + 1 = omega arith in
    omega (arith, two, here, rest, long)
  where
    go : (b : Bool) → t.made.cpus ≤ MAX_CPUS → (if b then t.made.cpus else 0) ≤ MAX_CPUS
    go true l = l
    go false l = omega arith

pub busy_most : (ts : List Task) → AreTasks ts → busy ts ≤ MAX_CPUS * MAX_TASKS
busy_most ts a =
    let l = busy_from ts (sized (EndedBadly ts) 0 ts a.sound) in
    let few : length ts ≤ MAX_TASKS = a.count in
    omega (arith, l, few)

-- behind a change of one task, or behind one more

pub busy_set : (ts : List Task) (i : ℕ) (t u : Task) → slice_get ts i ≡ Some t
    → busy (slice_set ts i u) + asks t ≡ busy ts + asks u
busy_set [] i t u e = absurd (cc)
busy_set (x ∷ ts) zero t u e =
    let is : x ≡ t = same e in
    let old : busy (x ∷ ts) ≡ asks x + busy ts = sum_by-cons asks x ts in
    let new : busy (u ∷ ts) ≡ asks u + busy ts = sum_by-cons asks u ts in
    let here : asks x ≡ asks t = ap asks is in
    omega (arith, old, new, here)
  where
    same : Some x ≡ Some t → x ≡ t
    same e = ap (λ (o : Option Task). unwrap_or o x) e
busy_set (x ∷ ts) (suc i) t u e =
    let old : busy (x ∷ ts) ≡ asks x + busy ts = sum_by-cons asks x ts in
    let new : busy (x ∷ slice_set ts i u) ≡ asks x + busy (slice_set ts i u) = sum_by-cons asks x (slice_set ts i u) in
    let rest = busy_set ts i t u e in
    omega (arith, old, new, rest)

pub busy_push : (ts : List Task) (u : Task) → runs u.state ≡ false → busy (ts ++ u ∷ []) ≡ busy ts
busy_push ts u r =
    let more : busy (ts ++ u ∷ []) ≡ busy ts + asks u = sum_by_push asks ts u in
    let none : asks u ≡ 0 = ap (λ b. if b then u.made.cpus else 0) r in
    omega (arith, more, none)

-- a place is within a list
pub place_within : (most : ℕ) (ns : List ℕ) (i : ℕ) → place most ns ≡ Some i → i < length ns
place_within most [] i e = absurd (cc)
place_within most (n ∷ ns) i e = go (place_within most ns) (nat_le n most) e (place most ns) refl
  where
    go : ((j : ℕ) → place most ns ≡ Some j → j < length ns) → (b : Bool)
        → (if b then Some 0 else option_map suc (place most ns)) ≡ Some i → (o : Option ℕ) → place most ns ≡ o
        → i < length (n ∷ ns)
    go more true e o d = let z : 0 ≡ i = ap (λ (p : Option ℕ). unwrap_or p 0) e in omega (arith, z)
    go more false e None d = absurd (cc)
    go more false e (Some j) d =
        let l = more j d in
        let z : suc j ≡ i = ap (λ (p : Option ℕ). unwrap_or p 0) (sym (ap (option_map suc) d) ∙ e) in
        omega (arith, l, z)
