-- A bad end spreads to those that need what is lost, and so over all that can no longer run.
use Rattle.std.proofs.Common.{◌≡◌, ◌⊎◌, inl, inr, ℕ, zero, suc, ◌-◌, ◌<◌, ◌≤◌, Bool, true, false, ◌&&◌, ◌||◌, List, []}
use Rattle.std.proofs.Common.{◌∷◌, length, Option, Some, None, refl, sym, ap, ◌∙◌, subst, arith, get_or, nat_eq, nat_le}
use Rattle.std.proofs.Common.{if◌then◌else◌}
use Rattle.std.proofs.lemmas.Bool.{false≢true}
use Rattle.std.specs.List.{list_any, slice_get, slice_set}
use Rattle.std.specs.Option.{option_map, unwrap_or}
use Rattle.bds_levels.specs.Least.{NEVER, place}
use Rattle.bds_tasks.specs.declared.task.Task.{Task}
use Rattle.bds_tasks.specs.declared.task.TaskState.{TaskState}
use Rattle.bds_tasks.specs.declared.task.TaskState.TheVariants.{Waits, Runs, Ended, Cancelled}
use Rattle.bds_tasks.specs.Cancelling.{CannotRun, Cancels, WaitsFor}
use Rattle.bds_tasks.specs.Cancelling.CannotRun.{needs, over}
use Rattle.bds_tasks.specs.Kept.{AreUsers, Cancelling, IsHit, IsUnchanged, all_cancelled, all_marked, cancelled_one}
use Rattle.bds_tasks.specs.Kept.{key_at, key_by, keys as keys_of, list_at, marked_one, needs_at, times, unmet_of}
use Rattle.bds_tasks.specs.Kept.{waits_at}
use Rattle.bds_tasks.specs.Tasks.{in_state, is_good, is_ill, is_bad, passes, waits, with_task}
use Rattle.bds_tasks.proofs.PlaceLaws.{list_ext, past_zero, same_or_not, set_here, set_long, set_other, some_first}
use Rattle.bds_tasks.proofs.PlaceLaws.{some_rest, times_other, times_same, within_or_past}
use Rattle.bds_tasks.proofs.UnmetLaws.{Changes, changes, get_there, keys_at, keys_long, no_key, other_key, waits_bad}
use Rattle.bds_tasks.proofs.UnmetLaws.{with_is}

Some≢None : {A : Type 0} (x : A) → Some x ≡ None → ⊥
Some≢None x e = absurd (cc)

-- where no place has a 0 there is none
none_zero_left : (ks : List ℕ) → place 0 ks ≡ None → (j : ℕ) → j < length ks → get_or ks j 0 ≡ 0 → ⊥
none_zero_left [] p j l z = let no : ⊥ = omega (arith, l) in no
none_zero_left (k ∷ ks) p j l z = go (none_zero_left ks) (nat_le k 0) refl p j l z
  where
    later : (o : Option ℕ) → option_map suc o ≡ None → o ≡ None
    later None e = refl
    later (Some x) e = absurd (cc)

    go : (place 0 ks ≡ None → (x : ℕ) → x < length ks → get_or ks x 0 ≡ 0 → ⊥) → (b : Bool) → nat_le k 0 ≡ b
        → (if b then Some 0 else option_map suc (place 0 ks)) ≡ None → (x : ℕ) → x < length (k ∷ ks)
        → get_or (k ∷ ks) x 0 ≡ 0 → ⊥
    go more true e p x l z = Some≢None 0 p
    go more false e p zero l z = let no : ⊥ = grind (arith, e, z) in no
    go more false e p (suc x) l z = more (later (place 0 ks) p) x (omega (arith, l)) z

-- a task that waits needs what its list names
in_needs : (k : ℕ) (ns : List ℕ) → (times k ns ≡ 0 → ⊥) → list_any (nat_eq k) ns ≡ true
in_needs k [] h = elim (h refl) [ ]
in_needs k (n ∷ ns) h = go (in_needs k ns) (nat_eq k n) refl
  where
    go : ((times k ns ≡ 0 → ⊥) → list_any (nat_eq k) ns ≡ true) → (b : Bool) → nat_eq k n ≡ b
        → b || list_any (nat_eq k) ns ≡ true
    go more true e = refl
    go more false e = more (λ z. h (ap (λ b. if b then suc (times k ns) else times k ns) e ∙ z))

named : (k : ℕ) (ns : List ℕ) → list_any (nat_eq k) ns ≡ true → times k ns ≡ 0 → ⊥
named k [] e z = false≢true e
named k (n ∷ ns) e z = go (named k ns) (nat_eq k n) refl e z
  where
    go : (list_any (nat_eq k) ns ≡ true → times k ns ≡ 0 → ⊥) → (b : Bool) → nat_eq k n ≡ b
        → b || list_any (nat_eq k) ns ≡ true → (if b then suc (times k ns) else times k ns) ≡ 0 → ⊥
    go more true d e z = let no : ⊥ = omega (arith, z) in no
    go more false d e z = more e z

pub waits_there : (ts : List Task) (i : ℕ) → waits_at ts i ≡ true
    → (t : Task) × ((slice_get ts i ≡ Some t) × (waits t.state ≡ true))
waits_there ts i e = go (slice_get ts i) refl e
  where
    go : (o : Option Task) → slice_get ts i ≡ o → unwrap_or (option_map (λ (t : Task). waits t.state) o) false ≡ true
        → (t : Task) × ((slice_get ts i ≡ Some t) × (waits t.state ≡ true))
    go None d e = elim (false≢true e) [ ]
    go (Some t) d e = (t, (d, e))

hit_waits : (n : ℕ) (old now : List Task) (i : ℕ) → IsHit n old now i → waits_at now i ≡ false
hit_waits n old now i h = ap (λ (o : Option Task). unwrap_or (option_map (λ (t : Task). waits t.state) o) false) h.is

module _ (n : ℕ) (old : List Task) (bad : passes is_bad old n ≡ true) (none_zero : (i : ℕ)
    → times 0 (needs_at old i) ≡ 0) (some_cpus : (i : ℕ) (t : Task) → slice_get old i ≡ Some t → 1 ≤ t.made.cpus) where
  bad_waits : (i : ℕ) → suc i ≡ n → waits_at old i ≡ false
  bad_waits i e = go (slice_get old i) refl
    where
      here : passes is_bad old (suc i) ≡ true
      here = subst (λ m. passes is_bad old m ≡ true) (sym e) bad

      ill : (can : Bool) (s : TaskState) → is_ill can s ≡ true → waits s ≡ false
      ill can Waits e = elim (false≢true e) [ ]
      ill can Runs e = refl
      ill can (Ended c) e = refl
      ill can (Cancelled m) e = refl

      one : suc i - 1 ≡ i
      one = omega arith

      go : (o : Option Task) → slice_get old i ≡ o
          → unwrap_or (option_map (λ (t : Task). waits t.state) o) false ≡ false
      go None d = refl
      go (Some t) d = ill t.made.can_fail t.state (ap (λ (o : Option Task). unwrap_or (option_map is_bad o) false)
          (sym (ap (slice_get old) one ∙ d)) ∙ here)

  module _ (now : List Task) (keys : List ℕ) (but : Option ℕ) (c : Cancelling n old now keys but) where
    lost_waits : (i : ℕ) → (suc i ≡ n) ⊎ IsHit n old now i → waits_at now i ≡ false
    lost_waits i (inr h) = hit_waits n old now i h
    lost_waits i (inl e) = elim (c.same i) [
      | inl u ↦ ap (λ (o : Option Task). unwrap_or (option_map (λ (t : Task). waits t.state) o) false) u ∙ bad_waits i e
      | inr h ↦ hit_waits n old now i h
    ]

    lost_key : (i : ℕ) → i < length old → (suc i ≡ n) ⊎ IsHit n old now i → key_at now i ≡ NEVER
    lost_key i l h = go (slice_get now i) refl
      where
        none : (ts : List Task) (j : ℕ) → slice_get ts j ≡ None → length ts ≤ j
        none [] j e = omega arith
        none (t ∷ ts) zero e = absurd (cc)
        none (t ∷ ts) (suc j) e = let m = none ts j e in omega (arith, m)

        go : (o : Option Task) → slice_get now i ≡ o → key_at now i ≡ NEVER
        go None d =
            let far = none now i d in let long = c.long in let no : ⊥ = omega (arith, far, l, long) in elim no [ ]
        go (Some t) d =
            ap (λ (o : Option Task). unwrap_or (option_map (λ (x : Task). key_by x (unmet_of now x.needs)) o) 0) d
            ∙ no_key t (unmet_of now t.needs) (ap (λ (o : Option Task). unwrap_or
            (option_map (λ (x : Task). waits x.state) o) false) (sym d) ∙ lost_waits i h)

  -- what doesn't wait or is hit stays so
  abbrev GoesOn : List Task → List Task → Type 0
  GoesOn now new =
      ((j : ℕ) → waits_at now j ≡ false → waits_at new j ≡ false) × ((i : ℕ) → IsHit n old now i → IsHit n old new i)

  -- one that needs what is lost is cancelled where it waits
  one_more : (now : List Task) (keys : List ℕ) (at m : ℕ) → Cancelling n old now keys (Some at) → (suc at ≡ n)
      ⊎ CannotRun old n (suc at) → 1 ≤ m → (times (suc at) (needs_at old (m - 1)) ≡ 0 → ⊥)
      → Cancelling n old (cancelled_one n m now) (marked_one m now keys) (Some at)
      × ((waits_at (cancelled_one n m now) (m - 1) ≡ false) × GoesOn now (cancelled_one n m now))
  one_more now keys at m c lost one names = go (passes (λ t. waits t.state) now m) refl
    where
      still : waits_at now (m - 1) ≡ false
          → Cancelling n old now keys (Some at) × ((waits_at now (m - 1) ≡ false) × GoesOn now now)
      still e = (c, (e, (λ j f. f, λ j x. x)))

      hit : (t : Task) → slice_get now (m - 1) ≡ Some t → waits t.state ≡ true
          → Cancelling n old (slice_set now (m - 1) (in_state (Cancelled n) t)) (slice_set keys (m - 1) 0) (Some at)
          × ((waits_at (slice_set now (m - 1) (in_state (Cancelled n) t)) (m - 1) ≡ false)
          × GoesOn now (slice_set now (m - 1) (in_state (Cancelled n) t)))
      hit t is w = (
        record {
          long = ch.long ∙ c.long;
          wide = set_long keys (m - 1) 0 ∙ c.wide;
          same = λ i. same_or_not (IsUnchanged old (slice_set now (m - 1) (in_state (Cancelled n) t)) i
              ⊎ IsHit n old (slice_set now (m - 1) (in_state (Cancelled n) t)) i) (m - 1) i
              (λ e. inr (subst (λ j. IsHit n old (slice_set now (m - 1) (in_state (Cancelled n) t)) j) e here))
              (λ h. elim (c.same i) [
                | inl same ↦ inl (ch.others i h ∙ same)
                | inr x ↦ inr (moved i h x)
              ]);
          keyed = λ i. same_or_not ((get_or (slice_set keys (m - 1) 0) i 0 ≡ key_at
              (slice_set now (m - 1) (in_state (Cancelled n) t)) i)
              ⊎ (get_or (slice_set keys (m - 1) 0) i 0 ≡ 0)) (m - 1) i
              (λ e. inr (subst (λ j. get_or (slice_set keys (m - 1) 0) j 0 ≡ 0) e
              (set_here keys (m - 1) 0 (subst (λ x. (m - 1) < x) (sym c.wide) within))))
              (λ h. elim (c.keyed i) [
                | inl e ↦ inl (set_other keys (m - 1) i 0 h ∙ e
                    ∙ sym (other_key now (slice_set now (m - 1) (in_state (Cancelled n) t)) (m - 1) t
                    (in_state (Cancelled n) t) ch good i h))
                | inr e ↦ inr (set_other keys (m - 1) i 0 h ∙ e)
              ]);
          marked = λ i l z. same_or_not ((suc i ≡ n)
              ⊎ IsHit n old (slice_set now (m - 1) (in_state (Cancelled n) t)) i) (m - 1) i
              (λ e. inr (subst (λ j. IsHit n old (slice_set now (m - 1) (in_state (Cancelled n) t)) j) e here))
              (λ h. elim (c.marked i l (sym (set_other keys (m - 1) i 0 h) ∙ z)) [
                | inl e ↦ inl e
                | inr x ↦ inr (moved i h x)
              ]);
          asked = λ i x z b j f. same_or_not (waits_at (slice_set now (m - 1) (in_state (Cancelled n) t)) j ≡ false)
              (m - 1) i
              (λ e. elim (z (subst (λ y. get_or (slice_set keys (m - 1) 0) y 0 ≡ 0) e
              (set_here keys (m - 1) 0 (subst (λ y. (m - 1) < y) (sym c.wide) within)))) [ ])
              (λ h. fewer j (c.asked i (back i h x) (λ y. z (set_other keys (m - 1) i 0 h ∙ y)) b j f));
        },
        (
          none_waits,
          (
            fewer,
            λ i x. same_or_not (IsHit n old (slice_set now (m - 1) (in_state (Cancelled n) t)) i)
                (m - 1) i (λ e. subst (λ j. IsHit n old (slice_set now (m - 1) (in_state (Cancelled n) t)) j) e here)
                (λ h. moved i h x),
          ),
        ),
      )
        where
          ch : Changes now (slice_set now (m - 1) (in_state (Cancelled n) t)) (m - 1) t (in_state (Cancelled n) t)
          ch = changes now (m - 1) t (in_state (Cancelled n) t) is refl

          good : is_good (in_state (Cancelled n) t) ≡ is_good t
          good = sym (waits_bad t.made.can_fail t.state w)

          within : (m - 1) < length old
          within = subst (λ x. (m - 1) < x) c.long (get_there now (m - 1) t is)

          unchanged : IsUnchanged old now (m - 1)
          unchanged = elim (c.same (m - 1)) [
            | inl e ↦ e
            | inr h ↦ elim (false≢true (sym (hit_waits n old now (m - 1) h)
                ∙ (ap (λ (o : Option Task). unwrap_or (option_map (λ (x : Task). waits x.state) o) false) is ∙ w))) [ ]
          ]

          was : slice_get old (m - 1) ≡ Some t
          was = sym unchanged ∙ is

          number : suc (m - 1) - 1 ≡ (m - 1)
          number = omega arith

          waits_for : WaitsFor old (suc (m - 1)) (suc at)
          waits_for = record {
            waits = ap (λ (o : Option Task). unwrap_or (option_map (λ (x : Task). waits x.state) o) false)
                (ap (slice_get old) number ∙ was) ∙ w;
            needs = ap (λ (o : Option Task). unwrap_or (option_map (λ (x : Task). list_any (nat_eq (suc at)) x.needs) o)
                false) (ap (slice_get old) number ∙ was)
                ∙ in_needs (suc at) t.needs (λ z. names (ap (times (suc at))
                (ap (λ (o : Option Task). unwrap_or (option_map (λ (x : Task). x.needs) o) []) was) ∙ z));
          }

          here : IsHit n old (slice_set now (m - 1) (in_state (Cancelled n) t)) (m - 1)
          here = record {
            task = t;
            was = was;
            waited = w;
            set = elim lost [
              | inl e ↦ needs (suc (m - 1)) (subst (λ x. WaitsFor old (suc (m - 1)) x) e waits_for)
              | inr x ↦ over (suc (m - 1)) (suc at) waits_for x
            ];
            is = ch.here;
          }

          moved : (i : ℕ) → ((m - 1) ≡ i → ⊥) → IsHit n old now i
              → IsHit n old (slice_set now (m - 1) (in_state (Cancelled n) t)) i
          moved i h x = record { task = x.task; was = x.was; waited = x.waited; set = x.set; is = ch.others i h ∙ x.is }

          back : (i : ℕ) → ((m - 1) ≡ i → ⊥) → (suc i ≡ n)
              ⊎ IsHit n old (slice_set now (m - 1) (in_state (Cancelled n) t)) i → (suc i ≡ n) ⊎ IsHit n old now i
          back i h (inl e) = inl e
          back i h (inr x) = inr (record {
            task = x.task;
            was = x.was;
            waited = x.waited;
            set = x.set;
            is = sym (ch.others i h) ∙ x.is;
          })

          none_waits : waits_at (slice_set now (m - 1) (in_state (Cancelled n) t)) (m - 1) ≡ false
          none_waits = ap (λ (o : Option Task). unwrap_or (option_map (λ (x : Task). waits x.state) o) false) ch.here

          fewer : (j : ℕ) → waits_at now j ≡ false
              → waits_at (slice_set now (m - 1) (in_state (Cancelled n) t)) j ≡ false
          fewer j f = same_or_not (waits_at (slice_set now (m - 1) (in_state (Cancelled n) t)) j ≡ false) (m - 1) j
              (λ e. subst (λ y. waits_at (slice_set now (m - 1) (in_state (Cancelled n) t)) y ≡ false) e none_waits)
              (λ h. ap (λ (o : Option Task). unwrap_or (option_map (λ (x : Task). waits x.state) o) false)
              (ch.others j h) ∙ f)

      go : (b : Bool) → passes (λ t. waits t.state) now m ≡ b
          → Cancelling n old (if b then with_task (in_state (Cancelled n)) m now else now)
          (if b then slice_set keys (m - 1) 0 else keys) (Some at)
          × ((waits_at (if b then with_task (in_state (Cancelled n)) m now else now) (m - 1) ≡ false)
          × GoesOn now (if b then with_task (in_state (Cancelled n)) m now else now))
      go false e = still e
      go true e =
          let w = waits_there now (m - 1) e in
          subst (λ (xs : List Task). Cancelling n old xs (slice_set keys (m - 1) 0) (Some at)
          × ((waits_at xs (m - 1) ≡ false) × GoesOn now xs))
          (sym (with_is (in_state (Cancelled n)) m now w.0 w.1.0)) (hit w.0 w.1.0 w.1.1)

  -- all of a list that need what is lost
  all_more : (now : List Task) (keys : List ℕ) (at : ℕ) (ms : List ℕ) → Cancelling n old now keys (Some at)
      → (suc at ≡ n) ⊎ CannotRun old n (suc at) → times 0 ms ≡ 0
      → ((j : ℕ) → (times (suc j) ms ≡ 0 → ⊥) → times (suc at) (needs_at old j) ≡ 0 → ⊥)
      → Cancelling n old (all_cancelled n ms now) (all_marked n ms now keys) (Some at)
      × (((j : ℕ) → (times (suc j) ms ≡ 0 → ⊥) → waits_at (all_cancelled n ms now) j ≡ false)
      × GoesOn now (all_cancelled n ms now))
  all_more now keys at [] c lost z h = (c, (λ j x. elim (x refl) [ ], (λ j f. f, λ j x. x)))
  all_more now keys at (m ∷ ms) c lost z h =
      let one : 1 ≤ m = positive m (some_first m ms z) in
      let is : suc (m - 1) ≡ m = omega (arith, one) in
      let first = one_more now keys at m c lost one (h (m - 1)
      (λ y. let no = times_same (suc (m - 1)) m ms is in let none : ⊥ = omega (arith, no, y) in none)) in
      let rest = all_more (cancelled_one n m now) (marked_one m now keys) at ms first.0 lost (some_rest m ms z)
      (λ j x. h j (λ y. x (shorter (suc j) m ms y))) in (
        rest.0,
        (
          λ j x. same_or_not (waits_at (all_cancelled n ms (cancelled_one n m now)) j ≡ false) (m - 1) j
              (λ e. rest.1.1.0 j (subst (λ y. waits_at (cancelled_one n m now) y ≡ false) e first.1.0))
              (λ e. rest.1.0 j (λ y. x (times_other (suc j) m ms
              (λ d. e (let same : m - 1 ≡ j = omega (arith, d) in same)) ∙ y))),
          (λ j f. rest.1.1.0 j (first.1.1.0 j f), λ j x. rest.1.1.1 j (first.1.1.1 j x)),
        ),
      )
    where
      positive : (x : ℕ) → (0 ≡ x → ⊥) → 1 ≤ x
      positive zero h = elim (h refl) [ ]
      positive (suc x) h = omega arith

      shorter : (x y : ℕ) (ys : List ℕ) → times x (y ∷ ys) ≡ 0 → times x ys ≡ 0
      shorter x y ys z = go (nat_eq x y) z
        where
          go : (b : Bool) → (if b then suc (times x ys) else times x ys) ≡ 0 → times x ys ≡ 0
          go true z = let no : ⊥ = omega (arith, z) in elim no [ ]
          go false z = z

  -- one that is lost is followed
  pub followed : (now : List Task) (keys : List ℕ) (users : List (List ℕ)) (at : ℕ) → AreUsers old users
      → Cancelling n old now keys None → at < length old → get_or keys at 0 ≡ 0
      → Cancelling n old (all_cancelled n (list_at users at) now)
      (slice_set (all_marked n (list_at users at) now keys) at NEVER) None
  followed now keys users at a c l z =
      let c' : Cancelling n old now keys (Some at) = record {
        long = c.long;
        wide = c.wide;
        same = c.same;
        keyed = c.keyed;
        marked = c.marked;
        asked = λ i x y b. c.asked i x y (λ e. Some≢None i (sym e));
      } in
      let lost = c.marked at l z in
      let cannot : (suc at ≡ n) ⊎ CannotRun old n (suc at) = elim lost [ inl e ↦ inl e | inr h ↦ inr h.set ] in
      let all = all_more now keys at (list_at users at) c' cannot (a.some at) (λ j x y. x (a.often j at l ∙ y)) in
      ends (all_cancelled n (list_at users at) now) (all_marked n (list_at users at) now keys) all.0
      (λ j x. all.1.0 j (λ y. x (sym (a.often j at l) ∙ y)))
      (elim lost [
        | inl e ↦ inl e
        | inr h ↦ inr (all.1.1.1 at h)
      ])
    where
      ends : (new : List Task) (ks : List ℕ) → Cancelling n old new ks (Some at)
          → ((j : ℕ) → (times (suc at) (needs_at old j) ≡ 0 → ⊥) → waits_at new j ≡ false) → (suc at ≡ n)
          ⊎ IsHit n old new at → Cancelling n old new (slice_set ks at NEVER) None
      ends new ks d all lost = record {
        long = d.long;
        wide = set_long ks at NEVER ∙ d.wide;
        same = d.same;
        keyed = λ i. same_or_not ((get_or (slice_set ks at NEVER) i 0 ≡ key_at new i)
            ⊎ (get_or (slice_set ks at NEVER) i 0 ≡ 0)) at i
            (λ e. inl (subst (λ j. get_or (slice_set ks at NEVER) j 0 ≡ key_at new j) e (never_here
            ∙ sym (lost_key new ks (Some at) d at l lost))))
            (λ h. elim (d.keyed i) [
              | inl e ↦ inl (set_other ks at i NEVER h ∙ e)
              | inr e ↦ inr (set_other ks at i NEVER h ∙ e)
            ]);
        marked = λ i m y. same_or_not ((suc i ≡ n)
            ⊎ IsHit n old new i) at i (λ e. subst (λ j. (suc j ≡ n)
            ⊎ IsHit n old new j) e lost) (λ h. d.marked i m (sym (set_other ks at i NEVER h) ∙ y));
        asked = λ i x y b j f. same_or_not (waits_at new j ≡ false) at i
            (λ e. all j (subst (λ v. times (suc v) (needs_at old j) ≡ 0 → ⊥) (sym e) f))
            (λ h. d.asked i x (λ v. y (set_other ks at i NEVER h ∙ v)) (λ e. h (same_some at i e)) j f);
      }
        where
          never_here : get_or (slice_set ks at NEVER) at 0 ≡ NEVER
          never_here = set_here ks at NEVER (subst (λ x. at < x) (sym d.wide) l)

          same_some : (x y : ℕ) → Some x ≡ Some y → x ≡ y
          same_some x y e = ap (λ (o : Option ℕ). unwrap_or o 0) e

  -- where none is left to be followed, just those that can no longer run are cancelled

  tasks_ext : (xs ys : List Task) → length xs ≡ length ys → ((i : ℕ) → slice_get xs i ≡ slice_get ys i) → xs ≡ ys
  tasks_ext [] [] l h = refl
  tasks_ext [] (y ∷ ys) l h = let no : ⊥ = omega (arith, l) in elim no [ ]
  tasks_ext (x ∷ xs) [] l h = let no : ⊥ = omega (arith, l) in elim no [ ]
  tasks_ext (x ∷ xs) (y ∷ ys) l h = ap (λ (z : Task). z ∷ xs) (ap (λ (o : Option Task). unwrap_or o x) (h 0))
      ∙ ap (λ (zs : List Task). y ∷ zs) (tasks_ext xs ys (omega (arith, l)) (λ i. h (suc i)))

  module _ (now : List Task) (keys : List ℕ) (one : 1 ≤ n) (c : Cancelling n old now keys None)
      (none : place 0 keys ≡ None) where
    not_zero : (i : ℕ) → i < length keys → get_or keys i 0 ≡ 0 → ⊥
    not_zero i l z = none_zero_left keys none i l z

    pub keys_done : keys ≡ keys_of now
    keys_done = list_ext keys (keys_of now) (c.wide
        ∙ sym (keys_long now
        ∙ c.long)) (λ i. within_or_past (get_or keys i 0 ≡ get_or (keys_of now) i 0) i (length keys)
        (λ l. elim (c.keyed i) [
          | inl e ↦ e ∙ sym (keys_at now i)
          | inr z ↦ elim (not_zero i l z) [ ]
        ])
        (λ l. past_zero keys i l
        ∙ sym (past_zero (keys_of now) i (subst (λ x. x ≤ i) (c.wide ∙ sym (keys_long now ∙ c.long)) l))))

    -- one that waits and needs what is lost is hit
    asked_hit : (i m : ℕ) → 1 ≤ m → i < length old → (suc i ≡ n) ⊎ IsHit n old now i → WaitsFor old m (suc i)
        → IsHit n old now (m - 1)
    asked_hit i m l within lost w = elim (c.same (m - 1)) [
      | inl u ↦ elim (false≢true (sym (c.asked i lost (not_zero i (subst (λ x. i < x) (sym c.wide) within))
          (λ e. Some≢None i (sym e)) (m - 1) (named_at))
          ∙ (ap (λ (o : Option Task). unwrap_or (option_map (λ (t : Task). waits t.state) o) false) u
          ∙ w.waits))) [ ]
      | inr h ↦ h
    ]
      where
        named_at : times (suc i) (needs_at old (m - 1)) ≡ 0 → ⊥
        named_at = go (slice_get old (m - 1)) refl w.needs
          where
            go : (o : Option Task) → slice_get old (m - 1) ≡ o
                → unwrap_or (option_map (λ (t : Task). list_any (nat_eq (suc i)) t.needs) o) false ≡ true
                → times (suc i) (unwrap_or (option_map (λ (t : Task). t.needs) (slice_get old (m - 1))) []) ≡ 0 → ⊥
            go None d e z = false≢true e
            go (Some t) d e z = named (suc i) t.needs e (ap (λ (o : Option Task). times (suc i)
                (unwrap_or (option_map (λ (x : Task). x.needs) o) [])) (sym d) ∙ z)

    there_bad : n - 1 < length old
    there_bad = go old (n - 1) bad
      where
        go : (ts : List Task) (i : ℕ) → unwrap_or (option_map is_bad (slice_get ts i)) false ≡ true → i < length ts
        go [] i e = elim (false≢true e) [ ]
        go (t ∷ ts) zero e = omega arith
        go (t ∷ ts) (suc i) e = let l = go ts i e in omega (arith, l)

    needs_named : (m k : ℕ) → passes (λ t. list_any (nat_eq k) t.needs) old m ≡ true
        → list_any (nat_eq k) (needs_at old (m - 1)) ≡ true
    needs_named m k e = go (slice_get old (m - 1)) e
      where
        go : (o : Option Task) → unwrap_or (option_map (λ (t : Task). list_any (nat_eq k) t.needs) o) false ≡ true
            → list_any (nat_eq k) (unwrap_or (option_map (λ (t : Task). t.needs) o) []) ≡ true
        go None e = elim (false≢true e) [ ]
        go (Some t) e = e

    cannot_hit : (m : ℕ) → CannotRun old n m → 1 ≤ m → IsHit n old now (m - 1)
    cannot_hit _ (needs m w) l =
        let is : suc (n - 1) ≡ n = omega (arith, one) in
        asked_hit (n - 1) m l there_bad (inl is) (subst (λ k. WaitsFor old m k) (sym is) w)
    cannot_hit _ (over m zero w x) l =
        elim (named 0 (needs_at old (m - 1)) (needs_named m 0 w.needs) (none_zero (m - 1))) [ ]
    cannot_hit _ (over m (suc i) w x) l =
        let h = cannot_hit (suc i) x (omega arith) in
        let at : suc i - 1 ≡ i = omega arith in
        let hit = subst (λ j. IsHit n old now j) at h in
        asked_hit i m l (get_there old i hit.task hit.was) (inr hit) w

    pub tasks_done : (walked : List Task) → Cancels n old walked → now ≡ walked
    tasks_done walked w = tasks_ext now walked (c.long ∙ sym w.long) (λ i.
        let at : suc i - 1 ≡ i = omega arith in
        elim (c.same i) [
          | inl u ↦ u ∙ sym (ap (slice_get walked) (sym at) ∙ w.others (suc i) (omega arith) (λ x.
              let h = subst (λ j. IsHit n old now j) at (cannot_hit (suc i) x (omega arith)) in
              false≢true (sym (hit_waits n old now i h)
              ∙ (ap (λ (o : Option Task). unwrap_or (option_map (λ (t : Task). waits t.state) o) false) (u ∙ h.was)
              ∙ h.waited)))
              ∙ ap (slice_get old) at)
          | inr h ↦ h.is
              ∙ sym (ap (slice_get walked) (sym at) ∙ w.hit (suc i) (omega arith) h.set
              ∙ ap (λ j. option_map (in_state (Cancelled n)) (slice_get old j)) at
              ∙ ap (option_map (in_state (Cancelled n))) h.was)
        ])

  -- at the start task n alone is lost
  pub cancel_starts : (keys : List ℕ) → 1 ≤ n → keys ≡ keys_of old
      → Cancelling n old old (slice_set keys (n - 1) 0) None
  cancel_starts keys one e =
      let is : suc (n - 1) ≡ n = omega (arith, one) in
      record {
        long = refl;
        wide = set_long keys (n - 1) 0 ∙ ap length e ∙ keys_long old;
        same = λ i. inl refl;
        keyed = λ i. same_or_not ((get_or (slice_set keys (n - 1) 0) i 0 ≡ key_at old i)
            ⊎ (get_or (slice_set keys (n - 1) 0) i 0 ≡ 0)) (n - 1) i
            (λ d. inr (subst (λ j. get_or (slice_set keys (n - 1) 0) j 0 ≡ 0) d (zero_at keys (n - 1))))
            (λ h. inl (set_other keys (n - 1) i 0 h ∙ ap (λ ks. get_or ks i 0) e ∙ keys_at old i));
        marked = λ i l z. same_or_not ((suc i ≡ n)
            ⊎ IsHit n old old i) (n - 1) i (λ d. inl (ap suc (sym d)
            ∙ is)) (λ h. elim (some_key i l (sym (ap (λ ks. get_or ks i 0) e)
            ∙ (sym (set_other keys (n - 1) i 0 h) ∙ z))) [ ]);
        asked = λ i x z b j f. elim x [
          | inl d ↦ elim (z (subst (λ y. get_or (slice_set keys (n - 1) 0) y 0 ≡ 0)
              (let at : n - 1 ≡ i = omega (arith, d) in at) (zero_at keys (n - 1)))) [ ]
          | inr h ↦ elim (false≢true (sym (hit_waits n old old i h)
              ∙ (ap (λ (o : Option Task). unwrap_or (option_map (λ (t : Task). waits t.state) o) false) h.was
              ∙ h.waited))) [ ]
        ];
      }
    where
      zero_at : (ks : List ℕ) (k : ℕ) → get_or (slice_set ks k 0) k 0 ≡ 0
      zero_at [] k = refl
      zero_at (x ∷ ks) zero = refl
      zero_at (x ∷ ks) (suc k) = zero_at ks k

      some_key : (i : ℕ) → i < length old → get_or (keys_of old) i 0 ≡ 0 → ⊥
      some_key i l z = go (slice_get old i) refl (sym (keys_at old i) ∙ z)
        where
          none : (ts : List Task) (j : ℕ) → slice_get ts j ≡ None → length ts ≤ j
          none [] j e = omega arith
          none (t ∷ ts) zero e = absurd (cc)
          none (t ∷ ts) (suc j) e = let m = none ts j e in omega (arith, m)

          go : (o : Option Task) → slice_get old i ≡ o
              → unwrap_or (option_map (λ (t : Task). key_by t (unmet_of old t.needs)) o) 0 ≡ 0 → ⊥
          go None d e = let far = none old i d in let no : ⊥ = omega (arith, far, l) in no
          go (Some t) d e = by (waits t.state && nat_eq (unmet_of old t.needs) 0) e
            where
              cpus : 1 ≤ t.made.cpus
              cpus = some_cpus i t d

              by : (b : Bool) → (if b then t.made.cpus else NEVER) ≡ 0 → ⊥
              by true e = let no : ⊥ = omega (arith, cpus, e) in no
              by false e = let no : ⊥ = omega (arith, e) in no
