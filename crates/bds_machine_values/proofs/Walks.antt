-- A path that fits the type of a well-formed value meets a list at each index, and a map at each key.
use Rattle.std.proofs.Common.{◌≡◌, ◌&&◌, ℕ, ℤ, List, [], ◌∷◌, Bool, true, false, cond, Option, Some, None, Ok, IsSome, is_some, refl, ap, ◌∙◌}
use Rattle.bds_value.specs.declared.faults.PutFault.TheVariants.{NoKey}
use Rattle.bds_value.specs.declared.value.Place.{Place}
use Rattle.bds_value.specs.declared.value.Place.TheVariants.{Index, Key}
use Rattle.bds_value.specs.declared.value.Ty.{Ty, out-Ty}
use Rattle.bds_value.specs.declared.value.Ty.TheVariants as ty
use Rattle.bds_value.specs.declared.value.Value.{Value, out-Value}
use Rattle.bds_value.specs.declared.value.Value.TheVariants as value
use Rattle.bds_value.specs.Path.{at_key, child, fault_at, onward, item_of, put_in, fits_step, further, type_at_path}
use Rattle.bds_value.specs.Value.{type_of, IsWellFormed}
use Rattle.bds_value.proofs.FormedLaws.{value_cases, item_formed}
use Rattle.bds_value.proofs.ValueFieldLaws.{type_of-Bool, type_of-Int, type_of-Text, type_of-List, type_of-Map}
use Rattle.bds_value.specs.RunFaults.{put_fault}
use Rattle.bds_machine_values.specs.Faults.{outcome}
use Rattle.bds_machine_values.specs.Results.{part_of, put_at, has_parts, if_there, walks}
use Rattle.bds_machine_values.specs.Typing.{leads, is_of}
use Rattle.bds_machine_values.proofs.Applied.{there_where}

abbrev IsList : Value → Type 0
IsList v = (t : Ty) × (items : List Value) × (v ≡ value.List t items)

abbrev IsMap : Value → Type 0
IsMap v = (t : Ty) × (ps : List (List ℕ × Value)) × (v ≡ value.Map t ps)

-- what a step that fits a value's type meets
abbrev Steps : Value → Type 0
Steps v = (p : Place) (u : Ty) → fits_step p (out-Ty (type_of v)) ≡ Some u → has_parts p (out-Value v) ≡ true

parts_there : (v : Value) → Steps v
parts_there = value_cases Steps in_bool in_int in_text in_list in_map
  where
    in_bool : (b : Bool) → Steps (value.Bool b)
    in_bool b (Index i) u fits = let none : ◌≡◌ {A = Option Ty} None (Some u) = rw (type_of-Bool b, ty.outs-Bool) at fits in absurd (cc)
    in_bool b (Key k) u fits = let none : ◌≡◌ {A = Option Ty} None (Some u) = rw (type_of-Bool b, ty.outs-Bool) at fits in absurd (cc)

    in_int : (n : ℤ) → Steps (value.Int n)
    in_int n (Index i) u fits = let none : ◌≡◌ {A = Option Ty} None (Some u) = rw (type_of-Int n, ty.outs-Int) at fits in absurd (cc)
    in_int n (Key k) u fits = let none : ◌≡◌ {A = Option Ty} None (Some u) = rw (type_of-Int n, ty.outs-Int) at fits in absurd (cc)

    in_text : (t : List ℕ) → Steps (value.Text t)
    in_text t (Index i) u fits = let none : ◌≡◌ {A = Option Ty} None (Some u) = rw (type_of-Text t, ty.outs-Text) at fits in absurd (cc)
    in_text t (Key k) u fits = let none : ◌≡◌ {A = Option Ty} None (Some u) = rw (type_of-Text t, ty.outs-Text) at fits in absurd (cc)

    in_list : (t : Ty) (items : List Value) → Steps (value.List t items)
    in_list t items (Index i) u fits = ap (has_parts (Index i)) (value.outs-List t items)
    in_list t items (Key k) u fits = let none : ◌≡◌ {A = Option Ty} None (Some u) = rw (type_of-List t items, ty.outs-List t) at fits in absurd (cc)

    in_map : (t : Ty) (ps : List (List ℕ × Value)) → Steps (value.Map t ps)
    in_map t ps (Key k) u fits = ap (has_parts (Key k)) (value.outs-Map t ps)
    in_map t ps (Index i) u fits = let none : ◌≡◌ {A = Option Ty} None (Some u) = rw (type_of-Map t ps, ty.outs-Map t) at fits in absurd (cc)

-- what has entries is a map
maps : (k : List ℕ) (v : Value) → has_parts (Key k) (out-Value v) ≡ true → IsMap v
maps k = value_cases (λ v. has_parts (Key k) (out-Value v) ≡ true → IsMap v)
    (λ b h. let no_map : false ≡ true = rw (value.outs-Bool b) at h in absurd (cc))
    (λ n h. let no_map : false ≡ true = rw (value.outs-Int n) at h in absurd (cc))
    (λ t h. let no_map : false ≡ true = rw (value.outs-Text t) at h in absurd (cc))
    (λ t items h. let no_map : false ≡ true = rw (value.outs-List t items) at h in absurd (cc))
    (λ t ps h. (t, ps, refl))

-- where a key leads to a part there is a map
pub map_there : (k : List ℕ) (v : Value) → IsSome (part_of (Key k) v) → IsMap v
map_there k v h = from (fits_step (Key k) (out-Ty (type_of v))) refl h
  where
    from : (o : Option Ty) → fits_step (Key k) (out-Ty (type_of v)) ≡ o → IsSome (cond (is_some (further o (type_at_path []))) (outcome put_fault (item_of (Key k ∷ []) v)) None) → IsMap v
    from None e h = absurd (cc)
    from (Some u) e h = maps k v (parts_there v (Key k) u e)

-- what has items is a list
lists : (i : ℤ) (v : Value) → has_parts (Index i) (out-Value v) ≡ true → IsList v
lists i = value_cases (λ v. has_parts (Index i) (out-Value v) ≡ true → IsList v)
    (λ b h. let no_list : false ≡ true = rw (value.outs-Bool b) at h in absurd (cc))
    (λ n h. let no_list : false ≡ true = rw (value.outs-Int n) at h in absurd (cc))
    (λ t h. let no_list : false ≡ true = rw (value.outs-Text t) at h in absurd (cc))
    (λ t items h. (t, items, refl))
    (λ t ps h. let no_list : false ≡ true = rw (value.outs-Map t ps) at h in absurd (cc))

-- where a value can be put at a step, the step meets its part
put_parts : (p : Place) (v new : Value) → IsSome (put_at (p ∷ []) v new) → has_parts p (out-Value v) ≡ true
put_parts p v new h = from (fits_step p (out-Ty (type_of v))) refl h
  where
    from : (o : Option Ty) → fits_step p (out-Ty (type_of v)) ≡ o → IsSome (cond (is_of (further o (type_at_path [])) (type_of new)) (outcome put_fault (put_in (p ∷ []) v new)) None) → has_parts p (out-Value v) ≡ true
    from None e h = absurd (cc)
    from (Some u) e h = parts_there v p u e

pub list_suits : (i : ℤ) (v new : Value) → IsSome (put_at (Index i ∷ []) v new) → IsList v
list_suits i v new h = lists i v (put_parts (Index i) v new h)

pub map_suits : (k : List ℕ) (v new : Value) → IsSome (put_at (Key k ∷ []) v new) → IsMap v
map_suits k v new h = maps k v (put_parts (Key k) v new h)

-- the value at a key of a map
pub entry_is : (k : List ℕ) (t : Ty) (ps : List (List ℕ × Value)) → IsSome (part_of (Key k) (value.Map t ps))
    → part_of (Key k) (value.Map t ps) ≡ outcome put_fault (onward (at_key k ps) (NoKey k) (λ v. Ok v))
entry_is k t ps h =
    there_where (leads (Key k ∷ []) (type_of (value.Map t ps))) (outcome put_fault (item_of (Key k ∷ []) (value.Map t ps))) h
    ∙ ap (λ s. outcome put_fault (onward (child (Key k) s) (fault_at (Key k) s) (λ v. Ok v))) (value.outs-Map t ps)

further_some : (o : Option Ty) (go : Ty → Option Ty) (t : Ty) → further o go ≡ Some t → (u : Ty) × (o ≡ Some u) × (go u ≡ Some t)
further_some (Some u) go t e = (u, refl, e)
further_some None go t e = absurd (cc)

both_true : (a b : Bool) → a ≡ true → b ≡ true → (a && b) ≡ true
both_true true true h k = refl
both_true true false h k = absurd (cc)
both_true false b h k = absurd (cc)

below : (path : List Place) (o : Option Value) → ((x : Value) → o ≡ Some x → walks path x ≡ true) → if_there o (walks path) ≡ true
below path None h = refl
below path (Some x) h = h x refl

pub walks-there : (path : List Place) (v : Value) (t p : Ty) → IsWellFormed v → type_of v ≡ t → type_at_path path t ≡ Some p → walks path v ≡ true
walks-there [] v t p formed is fits = refl
walks-there (q ∷ path) v t p formed is fits =
    let inner = further_some (fits_step q (out-Ty t)) (type_at_path path) p fits in
    let step : fits_step q (out-Ty (type_of v)) ≡ Some inner.0 = ap (λ x. fits_step q (out-Ty x)) is ∙ inner.1 in
    both_true (has_parts q (out-Value v)) (if_there (child q (out-Value v)) (walks path)) (parts_there v q inner.0 step)
    (below path (child q (out-Value v)) (λ x there.
    let part = item_formed (q ∷ []) v x inner.0 formed (ap (λ o. further o (type_at_path [])) step) (ap (λ o. onward o (fault_at q (out-Value v)) (item_of [])) there) in
    walks-there path x inner.0 p part.0 part.1 inner.2))
