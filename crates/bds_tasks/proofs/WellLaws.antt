-- What is kept behind a good end.
use Rattle.std.proofs.Common.{◌≡◌, ◌⊎◌, inl, inr, ℕ, zero, suc, ◌+◌, ◌-◌, ◌<◌, ◌≤◌, Bool, true, false, List, [], ◌∷◌}
use Rattle.std.proofs.Common.{length, Option, Some, None, refl, sym, ap, ◌∙◌, subst, arith, get_or, nat_eq}
use Rattle.std.proofs.lemmas.Bool.{eq-eqb, eqb-true, false≢true}
use Rattle.std.specs.List.{slice_get}
use Rattle.std.specs.Option.{option_map, unwrap_or}
use Rattle.bds_tasks.specs.declared.task.Task.{Task}
use Rattle.bds_tasks.specs.Kept.{AreUsers, counts, key_at, key_by, key_where, keys, list_at, lowered, needs_at, times}
use Rattle.bds_tasks.specs.Kept.{unmet_of, with_key, with_keys}
use Rattle.bds_tasks.specs.Tasks.{is_good, task_at, waits}
use Rattle.bds_tasks.proofs.PlaceLaws.{eq_zero, list_ext, lowered_at, lowered_long, past_zero, same_or_not, set_here}
use Rattle.bds_tasks.proofs.PlaceLaws.{set_long, set_other, some_rest, times_other}
use Rattle.bds_tasks.proofs.UnmetLaws.{Changes, counts_at, counts_long, get_there, keys_at, keys_long, needs_same}
use Rattle.bds_tasks.proofs.UnmetLaws.{no_key, unmet_fall, unmet_key}

none_there : (ts : List Task) (i : ℕ) → length ts ≤ i → slice_get ts i ≡ None
none_there [] i l = refl
none_there (t ∷ ts) zero l = let no : ⊥ = omega (arith, l) in elim no [ ]
none_there (t ∷ ts) (suc i) l = none_there ts i (omega (arith, l))

-- the counts of those that need it are less by one for each time that they do

module _ (old new : List Task) (k : ℕ) (t u : Task) (c : Changes old new k t u) (before : is_good t ≡ false)
    (behind : is_good u ≡ true) (users : List (List ℕ)) (are : AreUsers old users) (some : (i : ℕ)
    → times 0 (needs_at old i) ≡ 0) where
  falls : (i : ℕ) → unmet_of old (needs_at old i) ≡ unmet_of new (needs_at old i) + times (suc k) (needs_at old i)
  falls i = unmet_fall old new (suc k)
      (λ m l h. ap (λ (o : Option Task). unwrap_or (option_map is_good o) false)
      (c.others (m - 1) (λ e. h (let is : suc k ≡ m = omega (arith, e, l) in is))))
      (ap (λ (o : Option Task). unwrap_or (option_map is_good o) false) (at_place old t c.was) ∙ before)
      (ap (λ (o : Option Task). unwrap_or (option_map is_good o) false) (at_place new u c.here) ∙ behind)
      (needs_at old i) (some i)
    where
      at_place : (ts : List Task) (x : Task) → slice_get ts k ≡ Some x → task_at ts (suc k) ≡ Some x
      at_place ts x e = let is : suc k - 1 ≡ k = omega arith in subst (λ j. slice_get ts j ≡ Some x) (sym is) e

  pub counts_lowered : lowered (list_at users k) (counts old) ≡ counts new
  counts_lowered = list_ext (lowered (list_at users k) (counts old)) (counts new)
      (lowered_long (list_at users k) (counts old) ∙ counts_long old ∙ sym (counts_long new ∙ c.long))
      (λ i.
      lowered_at (list_at users k) (counts old) i (are.some k)
      ∙ ap (λ x. x - times (suc i) (list_at users k)) (counts_at old i)
      ∙ ap (λ x. unmet_of old (needs_at old i) - x) (are.often i k (get_there old k t c.was))
      ∙ less (unmet_of old (needs_at old i)) (unmet_of new (needs_at old i)) (times (suc k) (needs_at old i)) (falls i)
      ∙ ap (unmet_of new) (sym (needs_same old new k t u c i))
      ∙ sym (counts_at new i))
    where
      less : (a b x : ℕ) → a ≡ b + x → a - x ≡ b
      less a b x e = omega (arith, e)

  -- where none of those that need it is named, a key stays; else it has no unmet need, or had and has one
  abbrev Right : ℕ → Type 0
  Right i = (get_or (keys old) i 0 ≡ key_at new i)
      ⊎ ((times (suc i) (list_at users k) ≡ 0 → ⊥) × (get_or (counts new) i 0 ≡ 0))

  pub right : waits t.state ≡ false → waits u.state ≡ false → (i : ℕ) → Right i
  right w v i = same_or_not (Right i) k i (λ e. inl (subst (λ j. get_or (keys old) j 0 ≡ key_at new j) e here))
      (λ h. go h (slice_get old i) refl (nat_eq (times (suc k) (needs_at old i)) 0) refl
      (nat_eq (unmet_of new (needs_at old i)) 0) refl)
    where
      here : get_or (keys old) k 0 ≡ key_at new k
      here =
          keys_at old k
          ∙ ap (λ (o : Option Task). unwrap_or (option_map (λ (x : Task). key_by x (unmet_of old x.needs)) o) 0)
          c.was ∙ no_key t (unmet_of old t.needs) w
          ∙ sym (ap (λ (o : Option Task). unwrap_or (option_map (λ (x : Task). key_by x (unmet_of new x.needs)) o) 0)
          c.here ∙ no_key u (unmet_of new u.needs) v)

      new_at : (k ≡ i → ⊥) → (o : Option Task) → slice_get old i ≡ o
          → key_at new i ≡ unwrap_or (option_map (λ (x : Task). key_by x (unmet_of new x.needs)) o) 0
      new_at h o e = ap (λ (p : Option Task). unwrap_or (option_map (λ (x : Task). key_by x (unmet_of new x.needs)) p)
          0) (c.others i h ∙ e)

      old_at : (o : Option Task) → slice_get old i ≡ o
          → get_or (keys old) i 0 ≡ unwrap_or (option_map (λ (x : Task). key_by x (unmet_of old x.needs)) o) 0
      old_at o e = keys_at old i
          ∙ ap (λ (p : Option Task). unwrap_or (option_map (λ (x : Task). key_by x (unmet_of old x.needs)) p) 0) e

      needs_is : (x : Task) → slice_get old i ≡ Some x → needs_at old i ≡ x.needs
      needs_is x e = ap (λ (o : Option Task). unwrap_or (option_map (λ (y : Task). y.needs) o) []) e

      same : (x : Task) → slice_get old i ≡ Some x → times (suc k) (needs_at old i) ≡ 0
          → unmet_of old x.needs ≡ unmet_of new x.needs
      same x e z = ap (unmet_of old) (sym (needs_is x e)) ∙ falls i
          ∙ (let p : unmet_of new (needs_at old i) + times (suc k) (needs_at old i) ≡ unmet_of new
          (needs_at old i) = omega (arith, z) in p) ∙ ap (unmet_of new) (needs_is x e)

      go : (k ≡ i → ⊥) → (o : Option Task) → slice_get old i ≡ o → (b : Bool)
          → nat_eq (times (suc k) (needs_at old i)) 0 ≡ b → (d : Bool) → nat_eq (unmet_of new (needs_at old i)) 0 ≡ d
          → Right i
      go h None e b f d g = inl (old_at None e ∙ sym (new_at h None e))
      go h (Some x) e true f d g = inl (old_at (Some x) e
          ∙ ap (key_by x) (same x e (eqb-true (times (suc k) (needs_at old i)) 0 f)) ∙ sym (new_at h (Some x) e))
      go h (Some x) e false f true g = inr (
        (λ z. false≢true (sym f
            ∙ eq-eqb (times (suc k) (needs_at old i)) 0 (sym (are.often i k (get_there old k t c.was)) ∙ z))),
        counts_at new i ∙ ap (unmet_of new) (needs_same old new k t u c i)
            ∙ eqb-true (unmet_of new (needs_at old i)) 0 g,
      )
      go h (Some x) e false f false g =
          let more : nat_eq (unmet_of old (needs_at old i)) 0 ≡ false = ap (λ y. nat_eq y 0) (falls i)
          ∙ some_more (unmet_of new (needs_at old i)) (times (suc k) (needs_at old i)) g in
          inl (
          old_at (Some x) e
          ∙ unmet_key x (unmet_of old x.needs) (ap (λ ns. nat_eq (unmet_of old ns) 0) (sym (needs_is x e)) ∙ more)
          ∙ sym (new_at h (Some x) e
          ∙ unmet_key x (unmet_of new x.needs) (ap (λ ns. nat_eq (unmet_of new ns) 0) (sym (needs_is x e)) ∙ g)))
        where
          some_more : (a b : ℕ) → nat_eq a 0 ≡ false → nat_eq (a + b) 0 ≡ false
          some_more zero b z = elim (false≢true (sym z ∙ eq-eqb 0 0 refl)) [ ]
          some_more (suc a) b z =
              let is : suc a + b ≡ suc (a + b) = omega arith in ap (λ y. nat_eq y 0) is ∙ eq_zero (a + b)

key_where_long : (b : Bool) (i : ℕ) (o : Option Task) (ks : List ℕ) → length (key_where b i o ks) ≡ length ks
key_where_long true i (Some t) ks = set_long ks i (key_by t 0)
key_where_long true i None ks = refl
key_where_long false i o ks = refl

pub with_keys_long : (ts : List Task) (cs ms ks : List ℕ) → length (with_keys ts cs ms ks) ≡ length ks
with_keys_long ts cs [] ks = refl
with_keys_long ts cs (m ∷ ms) ks = with_keys_long ts cs ms (with_key ts cs m ks)
    ∙ key_where_long (nat_eq (get_or cs (m - 1) 0) 0) (m - 1) (task_at ts m) ks

-- keys that are right stay so, and those that are named with no unmet need become so
keys_put : (ts : List Task) (ms ks : List ℕ) (i : ℕ) → length ks ≡ length ts → times 0 ms ≡ 0
    → (get_or ks i 0 ≡ key_at ts i) ⊎ ((times (suc i) ms ≡ 0 → ⊥) × (get_or (counts ts) i 0 ≡ 0))
    → get_or (with_keys ts (counts ts) ms ks) i 0 ≡ key_at ts i
keys_put ts [] ks i l z (inl e) = e
keys_put ts [] ks i l z (inr h) = elim (h.0 refl) [ ]
keys_put ts (m ∷ ms) ks i l z r =
    keys_put ts ms (with_key ts (counts ts) m ks) i (key_where_long (nat_eq (get_or (counts ts) (m - 1) 0) 0) (m - 1)
    (task_at ts m) ks ∙ l) (some_rest m ms z)
    (same_or_not ((get_or (with_key ts (counts ts) m ks) i 0 ≡ key_at ts i)
    ⊎ ((times (suc i) ms ≡ 0 → ⊥) × (get_or (counts ts) i 0 ≡ 0))) (m - 1) i
    (λ e. inl (subst (λ j. get_or (key_where (nat_eq (get_or (counts ts) j 0) 0) j (slice_get ts j) ks) i 0 ≡ key_at ts
    i) (sym e) (here (nat_eq (get_or (counts ts) i 0) 0) refl (slice_get ts i) refl r)))
    (λ h. apart h r))
  where
    here : (b : Bool) → nat_eq (get_or (counts ts) i 0) 0 ≡ b → (o : Option Task) → slice_get ts i ≡ o
        → (get_or ks i 0 ≡ key_at ts i) ⊎ ((times (suc i) (m ∷ ms) ≡ 0 → ⊥) × (get_or (counts ts) i 0 ≡ 0))
        → get_or (key_where b i o ks) i 0 ≡ key_at ts i
    here true f (Some t) e r =
        set_here ks i (key_by t 0) (subst (λ x. i < x) (sym l) (get_there ts i t e))
        ∙ ap (key_by t) (sym (eqb-true (get_or (counts ts) i 0) 0 f) ∙ counts_at ts i
        ∙ ap (λ (o : Option Task). unmet_of ts (unwrap_or (option_map (λ (x : Task). x.needs) o) [])) e)
        ∙ sym (ap (λ (o : Option Task). unwrap_or (option_map (λ (x : Task). key_by x (unmet_of ts x.needs)) o) 0) e)
    here true f None e (inl g) = g
    here true f None e (inr h) = past_zero ks i (subst (λ x. x ≤ i) (sym l) (past ts i e))
        ∙ sym (ap (λ (o : Option Task). unwrap_or (option_map (λ (x : Task). key_by x (unmet_of ts x.needs)) o) 0) e)
      where
        past : (us : List Task) (j : ℕ) → slice_get us j ≡ None → length us ≤ j
        past [] j e = omega arith
        past (u ∷ us) zero e = absurd (cc)
        past (u ∷ us) (suc j) e = let l = past us j e in omega (arith, l)
    here false f o e (inl g) = g
    here false f o e (inr h) = elim (false≢true (sym f ∙ eq-eqb (get_or (counts ts) i 0) 0 h.1)) [ ]

    still : (m - 1 ≡ i → ⊥) → (b : Bool) (o : Option Task) → get_or (key_where b (m - 1) o ks) i 0 ≡ get_or ks i 0
    still h true (Some t) = set_other ks (m - 1) i (key_by t 0) h
    still h true None = refl
    still h false o = refl

    apart : (m - 1 ≡ i → ⊥) → (get_or ks i 0 ≡ key_at ts i)
        ⊎ ((times (suc i) (m ∷ ms) ≡ 0 → ⊥) × (get_or (counts ts) i 0 ≡ 0))
        → (get_or (with_key ts (counts ts) m ks) i 0 ≡ key_at ts i)
        ⊎ ((times (suc i) ms ≡ 0 → ⊥) × (get_or (counts ts) i 0 ≡ 0))
    apart h (inl g) = inl (still h (nat_eq (get_or (counts ts) (m - 1) 0) 0) (task_at ts m) ∙ g)
    apart h (inr g) = inr (
      (λ x. g.0 (times_other (suc i) m ms
          (λ is. h (let same : m - 1 ≡ i = omega (arith, is) in same)) ∙ x)),
      g.1,
    )

pub keys_raised : (old new : List Task) (k : ℕ) (t u : Task) → Changes old new k t u → is_good t ≡ false
    → is_good u ≡ true → waits t.state ≡ false → waits u.state ≡ false → (users : List (List ℕ)) → AreUsers old users
    → ((i : ℕ) → times 0 (needs_at old i) ≡ 0)
    → with_keys new (counts new) (list_at users k) (keys old) ≡ keys new
keys_raised old new k t u c before behind w v users are some =
    list_ext (with_keys new (counts new) (list_at users k) (keys old)) (keys new)
    (with_keys_long new (counts new) (list_at users k) (keys old) ∙ keys_long old ∙ sym (keys_long new ∙ c.long))
    (λ i. keys_put new (list_at users k) (keys old) i (keys_long old
    ∙ sym c.long) (are.some k) (right old new k t u c before behind users are some w v i) ∙ sym (keys_at new i))
