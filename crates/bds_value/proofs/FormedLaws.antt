-- Calls that take well-formed values give well-formed ones.
use Rattle.std.proofs.Common.{◌≡◌, ℕ, ℤ, pos, negsuc, suc, zero, ◌+◌, List, [], ◌∷◌, length, Bool, true, false, nat_lt, Option, Some, None, Result, Ok, Err, refl, sym, ap, subst, ◌∙◌, slice_get}
use Rattle.std.specs.List.{AllByRecursion}
use Rattle.std.specs.Prelude.{slice_set, ◌≢◌}
use Rattle.std.specs.Str.{bytes_eq}
use Rattle.bds_value.specs.declared.TheConstants.{MAX_ITEMS}
use Rattle.bds_value.specs.declared.faults.PutFault.{PutFault}
use Rattle.bds_value.specs.declared.faults.PutFault.TheVariants.{NoIndex, NoKey, TooLong}
use Rattle.bds_value.specs.declared.value.Place.{Place}
use Rattle.bds_value.specs.declared.value.Place.TheVariants.{Index, Key}
use Rattle.bds_value.specs.declared.value.Ty.{Ty, out-Ty}
use Rattle.bds_value.specs.declared.value.Ty.TheVariants as ty
use Rattle.bds_value.specs.declared.value.Ty.TheOpen.{Ty-F}
use Rattle.bds_value.specs.declared.value.Value.{Value, out-Value}
use Rattle.bds_value.specs.declared.value.Value.TheVariants as value
use Rattle.bds_value.specs.declared.value.Value.TheOpen.{Value-F}
use Rattle.bds_value.specs.Results.{result_map}
use Rattle.bds_value.specs.Order.{KeysRise}
use Rattle.bds_value.specs.Path.{at_index, at_key, child, onward, fault_at, item_of, fits_step, further, type_at_path, nat_of, put_index, set_key, insert_key, add_key, put_key, put_in}
use Rattle.bds_value.specs.TextResult.{held}
use Rattle.bds_value.specs.Value.{type_of, default_at, default_of, FitsHere, IsWellFormed, IsOf}
use Rattle.bds_value.proofs.Induction.{value_induction, ty_induction}
use Rattle.bds_value.proofs.KeyLaws.{rise-set_key, rise-insert_key, all-set_key, all-insert_key}
use Rattle.bds_value.proofs.ValueFieldLaws.{type_of-Bool, type_of-Int, type_of-Text, type_of-List, type_of-Map}
use Rattle.bds_value.proofs.Every.{every-Bool, every-Int, every-Text, every-List, every-Map}

-- an item that is there has what all have
got : {X : Type 0} (P : X → Type 0) (n : ℕ) (xs : List X) (x : X) → slice_get xs n ≡ Some x → AllByRecursion P xs → P x
got P n [] x e h = absurd (cc)
got P zero (y ∷ ys) x e h = let same : y ≡ x = cc in subst P same h.0
got P (suc n) (y ∷ ys) x e h = got P n ys x e h.1

at_index-all : {X : Type 0} (P : X → Type 0) (i : ℤ) (xs : List X) (x : X) → at_index i xs ≡ Some x → AllByRecursion P xs → P x
at_index-all P (pos n) xs x e h = got P n xs x e h
at_index-all P (negsuc n) xs x e h = absurd (cc)

at_key-all : {X : Type 0} (P : List ℕ × X → Type 0) (Q : X → Type 0) (k : List ℕ) (ps : List (List ℕ × X)) (x : X) → ((p : List ℕ × X) → P p → Q p.1) → at_key k ps ≡ Some x → AllByRecursion P ps → Q x
at_key-all P Q k [] x go e h = absurd (cc)
at_key-all P Q k (p ∷ ps) x go e h = by_test (λ f. at_key-all P Q k ps x go f h.1) (bytes_eq p.0 k) refl
  where
    by_test : (at_key k ps ≡ Some x → Q x) → (b : Bool) → bytes_eq p.0 k ≡ b → Q x
    by_test again true t = let f : Some p.1 ≡ Some x = rw t at e in let same : p.1 ≡ x = cc in subst Q same (go p h.0)
    by_test again false t = let f : at_key k ps ≡ Some x = rw t at e in again f

-- a change of an item keeps what all have
set-all : {X : Type 0} (P : X → Type 0) (n : ℕ) (xs : List X) (y : X) → P y → AllByRecursion P xs → AllByRecursion P (slice_set xs n y)
set-all P n [] y py h = tt
set-all P zero (x ∷ xs) y py h = (py, h.1)
set-all P (suc n) (x ∷ xs) y py h = (h.0, set-all P n xs y py h.1)

-- by the kind of a value
pub value_cases : (P : Value → Type 0) → ((b : Bool) → P (value.Bool b)) → ((n : ℤ) → P (value.Int n)) → ((t : List ℕ) → P (value.Text t))
    → ((t : Ty) (items : List Value) → P (value.List t items)) → ((t : Ty) (ps : List (List ℕ × Value)) → P (value.Map t ps)) → (v : Value) → P v
value_cases P boolean integer text list pairs = value_induction P boolean integer text (λ t items h. list t items) (λ t ps h. pairs t ps)

further_some : (o : Option Ty) (go : Ty → Option Ty) (t : Ty) → further o go ≡ Some t → (u : Ty) × ((o ≡ Some u) × (go u ≡ Some t))
further_some (Some u) go t e = (u, (refl, e))
further_some None go t e = absurd (cc)

onward_ok : {W X : Type 0} (o : Option W) (fault : PutFault) (go : W → Result X PutFault) (x : X) → onward o fault go ≡ Ok x → (w : W) × ((o ≡ Some w) × (go w ≡ Ok x))
onward_ok (Some w) fault go x e = (w, (refl, e))
onward_ok None fault go x e = absurd (cc)

mapped_ok : {X Y : Type 0} (f : X → Y) (r : Result X PutFault) (y : Y) → result_map f r ≡ Ok y → (x : X) × ((r ≡ Ok x) × (f x ≡ y))
mapped_ok f (Ok x) y e = (x, (refl, cc))
mapped_ok f (Err fault) y e = absurd (cc)

formed_at : (y : Ty-F Ty) → IsWellFormed (default_at y)
formed_at Ty-F.Bool = (every-Bool FitsHere false).1 tt
formed_at Ty-F.Int = (every-Int FitsHere (pos 0)).1 tt
formed_at Ty-F.Text = (every-Text FitsHere []).1 tt
formed_at (Ty-F.List t) = (every-List FitsHere t []).1 (tt, tt)
formed_at (Ty-F.Map t) = (every-Map FitsHere t []).1 ((tt, tt), tt)
formed_at Ty-F.Void = (every-Bool FitsHere false).1 tt

Typed : Ty → Type 0
Typed t = t ≢ ty.Void → type_of (default_of t) ≡ t

default_typed : (t : Ty) → Typed t
unfolding Typed
default_typed = ty_induction Typed
    (λ h. rw ty.outs-Bool (type_of-Bool false))
    (λ h. rw ty.outs-Int (type_of-Int (pos 0)))
    (λ h. rw ty.outs-Text (type_of-Text []))
    (λ t again h. rw (ty.outs-List t) (type_of-List t []))
    (λ t again h. rw (ty.outs-Map t) (type_of-Map t []))
    (λ h. absurd (h refl))

-- the default of a type is well formed, and of the type
pub default_is : (t : Ty) → t ≢ ty.Void → IsOf (default_of t) t
unfolding Typed
default_is t h = (formed_at (out-Ty t), default_typed t h)

abbrev Steps : Value → Type 0
Steps v = IsWellFormed v → (p : Place) (u : Ty) (w : Value) → fits_step p (out-Ty (type_of v)) ≡ Some u → child p (out-Value v) ≡ Some w → IsOf w u

steps : (v : Value) → Steps v
steps = value_cases Steps
    (λ b h p u w fits is. no_bool b p w (rw (value.outs-Bool b) at is))
    (λ n h p u w fits is. no_int n p w (rw (value.outs-Int n) at is))
    (λ t h p u w fits is. no_text t p w (rw (value.outs-Text t) at is))
    in_list
    in_map
  where
    no_bool : {u : Ty} (b : Bool) (p : Place) (w : Value) → child p (Value-F.Bool b) ≡ Some w → IsOf w u
    no_bool b (Index i) w is = absurd (cc)
    no_bool b (Key k) w is = absurd (cc)

    no_int : {u : Ty} (n : ℤ) (p : Place) (w : Value) → child p (Value-F.Int n) ≡ Some w → IsOf w u
    no_int n (Index i) w is = absurd (cc)
    no_int n (Key k) w is = absurd (cc)

    no_text : {u : Ty} (t : List ℕ) (p : Place) (w : Value) → child p (Value-F.Text t) ≡ Some w → IsOf w u
    no_text t (Index i) w is = absurd (cc)
    no_text t (Key k) w is = absurd (cc)

    in_list : (t : Ty) (items : List Value) → Steps (value.List t items)
    in_list t items h (Index i) u w fits is =
        let parts = (every-List FitsHere t items).0 h in
        let there : at_index i items ≡ Some w = rw (value.outs-List t items) at is in
        let same : Some t ≡ Some u = rw (type_of-List t items, ty.outs-List t) at fits in
        let item_ty : t ≡ u = cc in
        (at_index-all IsWellFormed i items w there parts.1, at_index-all (λ v. type_of v ≡ t) i items w there parts.0 ∙ item_ty)
    in_list t items h (Key k) u w fits is = let none : ◌≡◌ {A = Option Value} None (Some w) = rw (value.outs-List t items) at is in absurd (cc)

    in_map : (t : Ty) (ps : List (List ℕ × Value)) → Steps (value.Map t ps)
    in_map t ps h (Key k) u w fits is =
        let parts = (every-Map FitsHere t ps).0 h in
        let there : at_key k ps ≡ Some w = rw (value.outs-Map t ps) at is in
        let same : Some t ≡ Some u = rw (type_of-Map t ps, ty.outs-Map t) at fits in
        let item_ty : t ≡ u = cc in
        (at_key-all (λ p. IsWellFormed p.1) IsWellFormed k ps w (λ p q. q) there parts.1, at_key-all (λ p. type_of p.1 ≡ t) (λ v. type_of v ≡ t) k ps w (λ p q. q) there parts.0.0 ∙ item_ty)
    in_map t ps h (Index i) u w fits is = let none : ◌≡◌ {A = Option Value} None (Some w) = rw (value.outs-Map t ps) at is in absurd (cc)

-- the part of a well-formed value at a path is well formed, and of the part's type
pub item_formed : (path : List Place) (v w : Value) (t : Ty) → IsWellFormed v → type_at_path path (type_of v) ≡ Some t → item_of path v ≡ Ok w → IsOf w t
item_formed [] v w t h fits is =
    let same : v ≡ w = cc in
    let of_type : type_of v ≡ t = cc in
    subst (λ x. IsOf x t) same (h, of_type)
item_formed (p ∷ path) v w t h fits is =
    let inner = further_some (fits_step p (out-Ty (type_of v))) (type_at_path path) t fits in
    let next = onward_ok (child p (out-Value v)) (fault_at p (out-Value v)) (item_of path) w is in
    let part = steps v h p inner.0 next.0 inner.1.0 next.1.0 in
    item_formed path next.0 w t part.0 (rw (sym part.1) at inner.1.1) next.1.1

-- the pairs of a well-formed map
abbrev Fine : Ty → List (List ℕ × Value) → Type 0
Fine t ps = AllByRecursion {X = List ℕ × Value} (λ p. type_of p.1 ≡ t) ps × (KeysRise ps × AllByRecursion {X = List ℕ × Value} (λ p. IsWellFormed p.1) ps)

replaced : (k : List ℕ) (t : Ty) (ps : List (List ℕ × Value)) (y : Value) → Fine t ps → IsOf y t → Fine t (set_key k y ps)
replaced k t ps y h has = (all-set_key (λ v. type_of v ≡ t) k y ps has.1 h.0, (rise-set_key k y ps h.1.0, all-set_key IsWellFormed k y ps has.0 h.1.1))

added : (path : List Place) (k : List ℕ) (t : Ty) (ps qs : List (List ℕ × Value)) (new : Value) → Fine t ps → IsWellFormed new → type_at_path path t ≡ Some (type_of new) → at_key k ps ≡ None → add_key k new ps path ≡ Ok qs → Fine t qs
added (p ∷ path) k t ps qs new h hn fits none is = absurd (cc)
added [] k t ps qs new h hn fits none is = by_test (nat_lt (length ps) MAX_ITEMS) refl
  where
    by_test : (b : Bool) → nat_lt (length ps) MAX_ITEMS ≡ b → Fine t qs
    by_test true test =
        let g : ◌≡◌ {A = Result (List (List ℕ × Value)) PutFault} (Ok (insert_key k new ps)) (Ok qs) = rw test at is in
        let same : insert_key k new ps ≡ qs = cc in
        let of_type : t ≡ type_of new = cc in
        subst (λ rs. Fine t rs) same (all-insert_key (λ v. type_of v ≡ t) k new ps (sym of_type) h.0, (rise-insert_key k new ps none h.1.0, all-insert_key IsWellFormed k new ps hn h.1.1))
    by_test false test =
        let g : ◌≡◌ {A = Result (List (List ℕ × Value)) PutFault} (Err (TooLong (held (length ps + 1)))) (Ok qs) = rw test at is in
        absurd (cc)

abbrev pub PutFormed : List Place → Value → Type 0
PutFormed path v = (new w : Value) → IsWellFormed v → IsWellFormed new → type_at_path path (type_of v) ≡ Some (type_of new) → put_in path v new ≡ Ok w → IsOf w (type_of v)

module _ (path : List Place) (again : (x : Value) → PutFormed path x) where
  put_list : (i : ℤ) (t : Ty) (items : List Value) → PutFormed (Index i ∷ path) (value.List t items)
  put_list i t items new w h hn fits is =
      let parts = (every-List FitsHere t items).0 h in
      let go = λ (x : Value). put_in path x new in
      let inner : type_at_path path t ≡ Some (type_of new) = rw (type_of-List t items, ty.outs-List t) at fits in
      let there : result_map (value.List t) (put_index i items (λ (x : Value). put_in path x new)) ≡ Ok w = rw (value.outs-List t items) at is in
      let whole = mapped_ok (value.List t) (put_index i items go) w there in
      let found = onward_ok (at_index i items) (NoIndex i (length items)) (λ (x : Value). result_map (λ (y : Value). slice_set items (nat_of i) y) (put_in path x new)) whole.0 whole.1.0 in
      let x = found.0 in
      let put = mapped_ok (λ (y : Value). slice_set items (nat_of i) y) (put_in path x new) whole.0 found.1.1 in
      let x_type = at_index-all (λ v. type_of v ≡ t) i items x found.1.0 parts.0 in
      let y_has = again x new put.0 (at_index-all IsWellFormed i items x found.1.0 parts.1) hn (rw (sym x_type) at inner) put.1.0 in
      let types = set-all (λ v. type_of v ≡ t) (nat_of i) items put.0 (y_has.1 ∙ x_type) parts.0 in
      let formed = set-all IsWellFormed (nat_of i) items put.0 y_has.0 parts.1 in
      let list = slice_set items (nat_of i) put.0 in
      let made : IsOf (value.List t (slice_set items (nat_of i) put.0)) (type_of (value.List t items)) = ((every-List FitsHere t list).1 (types, formed), type_of-List t list ∙ sym (type_of-List t items)) in
      subst (λ u. IsOf u (type_of (value.List t items))) (ap (value.List t) put.1.1 ∙ whole.1.1) made

  put_pairs : (k : List ℕ) (t : Ty) (ps qs : List (List ℕ × Value)) (new : Value) → Fine t ps → IsWellFormed new → type_at_path path t ≡ Some (type_of new)
      → put_key k ps path new (λ x. put_in path x new) ≡ Ok qs → Fine t qs
  put_pairs k t ps qs new h hn inner is = by_found (at_key k ps) refl
    where
      by_found : (o : Option Value) → at_key k ps ≡ o → Fine t qs
      by_found None none = let g : add_key k new ps path ≡ Ok qs = rw none at is in added path k t ps qs new h hn inner none g
      by_found (Some x) there =
          let g : result_map (λ y. set_key k y ps) (put_in path x new) ≡ Ok qs = rw there at is in
          let put = mapped_ok (λ (y : Value). set_key k y ps) (put_in path x new) qs g in
          let x_type = at_key-all (λ p. type_of p.1 ≡ t) (λ v. type_of v ≡ t) k ps x (λ p q. q) there h.0 in
          let x_formed = at_key-all (λ p. IsWellFormed p.1) IsWellFormed k ps x (λ p q. q) there h.1.1 in
          let y_has = again x new put.0 x_formed hn (rw (sym x_type) at inner) put.1.0 in
          subst (λ rs. Fine t rs) put.1.1 (replaced k t ps put.0 h (y_has.0, y_has.1 ∙ x_type))

  put_map : (k : List ℕ) (t : Ty) (ps : List (List ℕ × Value)) → PutFormed (Key k ∷ path) (value.Map t ps)
  put_map k t ps new w h hn fits is =
      let parts = (every-Map FitsHere t ps).0 h in
      let inner : type_at_path path t ≡ Some (type_of new) = rw (type_of-Map t ps, ty.outs-Map t) at fits in
      let there : result_map (value.Map t) (put_key k ps path new (λ (x : Value). put_in path x new)) ≡ Ok w = rw (value.outs-Map t ps) at is in
      let whole = mapped_ok (value.Map t) (put_key k ps path new (λ (x : Value). put_in path x new)) w there in
      let fine = put_pairs k t ps whole.0 new (parts.0.0, (parts.0.1, parts.1)) hn inner whole.1.0 in
      let made : IsOf (value.Map t whole.0) (type_of (value.Map t ps)) = ((every-Map FitsHere t whole.0).1 ((fine.0, fine.1.0), fine.1.1), type_of-Map t whole.0 ∙ sym (type_of-Map t ps)) in
      subst (λ u. IsOf u (type_of (value.Map t ps))) whole.1.1 made

  put_next : (p : Place) (v : Value) → PutFormed (p ∷ path) v
  put_next (Index i) = value_cases (PutFormed (Index i ∷ path))
      (λ b new w h hn fits is. let no : ◌≡◌ {A = Result Value PutFault} (Err (NoIndex i 0)) (Ok w) = rw (value.outs-Bool b) at is in absurd (cc))
      (λ n new w h hn fits is. let no : ◌≡◌ {A = Result Value PutFault} (Err (NoIndex i 0)) (Ok w) = rw (value.outs-Int n) at is in absurd (cc))
      (λ t new w h hn fits is. let no : ◌≡◌ {A = Result Value PutFault} (Err (NoIndex i 0)) (Ok w) = rw (value.outs-Text t) at is in absurd (cc))
      (put_list i)
      (λ t ps new w h hn fits is. let no : ◌≡◌ {A = Result Value PutFault} (Err (NoIndex i 0)) (Ok w) = rw (value.outs-Map t ps) at is in absurd (cc))
  put_next (Key k) = value_cases (PutFormed (Key k ∷ path))
      (λ b new w h hn fits is. let no : ◌≡◌ {A = Result Value PutFault} (Err (NoKey k)) (Ok w) = rw (value.outs-Bool b) at is in absurd (cc))
      (λ n new w h hn fits is. let no : ◌≡◌ {A = Result Value PutFault} (Err (NoKey k)) (Ok w) = rw (value.outs-Int n) at is in absurd (cc))
      (λ t new w h hn fits is. let no : ◌≡◌ {A = Result Value PutFault} (Err (NoKey k)) (Ok w) = rw (value.outs-Text t) at is in absurd (cc))
      (λ t items new w h hn fits is. let no : ◌≡◌ {A = Result Value PutFault} (Err (NoKey k)) (Ok w) = rw (value.outs-List t items) at is in absurd (cc))
      (put_map k)

put_here : (v : Value) → PutFormed [] v
put_here v new w h hn fits is =
    let same : new ≡ w = cc in
    let of_type : type_of v ≡ type_of new = cc in
    subst (λ x. IsOf x (type_of v)) same (hn, sym of_type)

-- what is put into a well-formed value leaves one of the same type
pub put_formed : (path : List Place) (v : Value) → PutFormed path v
put_formed [] v = put_here v
put_formed (p ∷ path) v = put_next path (put_formed path) p v
