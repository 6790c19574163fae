-- Types are fields, both ways.
use Rattle.std.proofs.Common.{◌≡◌, ℕ, zero, suc, ◌+◌, ◌-◌, ◌≤◌, ◌<◌, [], ◌∷◌, ◌++◌, length, Bool, true, false, ◌==◌, ◌&&◌, Some, Ok, Err, refl, sym, ap, subst, ◌∙◌, arith, inl, inr}
use Rattle.std.specs.Bool.{IsTrue}
use Rattle.std.specs.Prelude.{◌⊎◌, if◌then◌else◌}
use Rattle.std.proofs.lemmas.Bool.{eqb-true}
use Rattle.bds_value.specs.declared.TheConstants.{MAX_NESTING}
use Rattle.bds_value.specs.declared.faults.FieldFault.TheVariants.{BadTag}
use Rattle.bds_value.specs.declared.value.Input.{Input}
use Rattle.bds_value.specs.declared.value.Ty.{Ty}
use Rattle.bds_value.specs.declared.value.Ty.TheVariants as ty
use Rattle.bds_value.specs.Fields.{AreBytes, Stretch, Back, ReadsBack, Spelled, ReadsSpelled, IsField, nesting, nesting_step, is_solid, solid_step, IsValueTy, IsFieldTy}
use Rattle.bds_value.specs.Reading.{Read, read_map, rest_of, forward, byte_at, item_ty, ty_of, ty_layer, deeper, ty_at}
use Rattle.bds_value.specs.Spelling.{ty_field, ty_field_step}
use Rattle.bds_value.proofs.FieldLaws.{byte_back, byte_spelled, bind_ok, map_ok, ok_parts, rest-forward, forward-forward, stretch-join, stretch-bytes}
use Rattle.bds_value.proofs.Folds.{ty_fold-Bool, ty_fold-Int, ty_fold-Text, ty_fold-List, ty_fold-Map, ty_fold-Void}
use Rattle.bds_value.proofs.Induction.{ty_induction}
use Rattle.bds_value.proofs.ReadLaws.{deeper-none, deeper-some}

-- a tag alone
one_tag : (void : Bool) (n tag : ℕ) (t : Ty) → ((i : Input) → ty_of void (deeper n) i.at tag (forward 1 i) ≡ Ok (t, forward 1 i)) → Back (ty_layer void (deeper n)) (tag ∷ []) t
one_tag void n tag t h i rest e = rw (byte_back tag i rest e) (h i)

-- a tag before the type of the items
tag_then : (void : Bool) (n tag : ℕ) (wrap : Ty → Ty) (t : Ty) → 0 < n → ((i : Input) → ty_of void (deeper n) i.at tag (forward 1 i) ≡ read_map wrap (item_ty (deeper n) i.at tag (forward 1 i)))
    → Back (ty_layer false (deeper (n - 1))) (ty_field t) t → Back (ty_layer void (deeper n)) (tag ∷ ty_field t) (wrap t)
tag_then void n tag wrap t some h back i rest e =
    let behind : rest_of (forward 1 i) ≡ ty_field t ++ rest = rest-forward i (tag ∷ []) (ty_field t ++ rest) e in
    let size : 1 + length (ty_field t) ≡ length (tag ∷ ty_field t) = omega arith in
    rw (byte_back tag i (ty_field t ++ rest) e, h i, deeper-some n some, back (forward 1 i) rest behind)
    (ap (λ k. Ok (wrap t, k)) (forward-forward i 1 (length (ty_field t)) ∙ ap (λ m. forward m i) size))

abbrev TyBack : Ty → Type 0
TyBack t = (void : Bool) (n : ℕ) → nesting t ≤ n → IsTrue (is_solid t) → Back (ty_layer void (deeper n)) (ty_field t) t

pub ty_back : (t : Ty) → TyBack t
ty_back = ty_induction TyBack
    (λ void n le solid. rw (ty_fold-Bool ty_field_step) (one_tag void n 0 ty.Bool (λ i. refl)))
    (λ void n le solid. rw (ty_fold-Int ty_field_step) (one_tag void n 1 ty.Int (λ i. refl)))
    (λ void n le solid. rw (ty_fold-Text ty_field_step) (one_tag void n 2 ty.Text (λ i. refl)))
    (λ t back void n le solid.
    let deep : nesting t + 1 ≤ n = rw (ty_fold-List nesting_step t) at le in
    let inside : IsTrue (is_solid t) = rw (ty_fold-List solid_step t) at solid in
    rw (ty_fold-List ty_field_step t) (tag_then void n 3 ty.List t (omega arith) (λ i. refl) (back false (n - 1) (omega arith) inside)))
    (λ t back void n le solid.
    let deep : nesting t + 1 ≤ n = rw (ty_fold-Map nesting_step t) at le in
    let inside : IsTrue (is_solid t) = rw (ty_fold-Map solid_step t) at solid in
    rw (ty_fold-Map ty_field_step t) (tag_then void n 4 ty.Map t (omega arith) (λ i. refl) (back false (n - 1) (omega arith) inside)))
    (λ void n le solid. let no : false ≡ true = rw (ty_fold-Void solid_step) at solid in absurd (cc))

pub void_back : (n : ℕ) → Back (ty_layer true (deeper n)) (ty_field ty.Void) ty.Void
void_back n = rw (ty_fold-Void ty_field_step) (one_tag true n 5 ty.Void (λ i. refl))

and_both : (a b : Bool) → (a && b) ≡ true → (a ≡ true) × (b ≡ true)
and_both true true e = (refl, refl)
and_both true false e = absurd (cc)
and_both false b e = absurd (cc)

abbrev pub TyLegal : Bool → ℕ → Ty → Type 0
TyLegal void n t = ((nesting t ≤ n) × IsTrue (is_solid t)) ⊎ ((void ≡ true) × (t ≡ ty.Void))

-- the type of items, one level further inside
abbrev InnerLegal : ℕ → Ty → Type 0
InnerLegal n t = (nesting t + 1 ≤ n) × IsTrue (is_solid t)

abbrev InnerSpelled : ℕ → Type 0
InnerSpelled n = (at tag : ℕ) (i j : Input) (t : Ty) → AreBytes i.bytes → item_ty (deeper n) at tag i ≡ Ok (t, j) → Spelled ty_field (InnerLegal n) i t j

module _ (void : Bool) (n : ℕ) (i j : Input) (t : Ty) where
  abbrev Answer : Type 0
  Answer = Spelled ty_field (TyLegal void n) i t j

  plain : (k : Input) (tag c : ℕ) (u : Ty) → Stretch i (tag ∷ []) k → (tag == c) ≡ true → ◌≡◌ {A = Read Ty} (Ok (u, k)) (Ok (t, j)) → ty_field u ≡ c ∷ [] → TyLegal void n u → Answer
  plain k tag c u s is g spelt legal =
      let p = ok_parts u t k j g in
      let here : Stretch i (c ∷ []) j = subst (λ m. Stretch i (m ∷ []) j) (eqb-true tag c is) (subst (λ x. Stretch i (tag ∷ []) x) p.1 s) in
      subst (λ x. Spelled ty_field (TyLegal void n) i x j) p.0 (record { legal = legal; stretch = subst (λ l. Stretch i l j) (sym spelt) here })

  wrapped : (k : Input) (tag c : ℕ) (wrap : Ty → Ty) → AreBytes k.bytes → InnerSpelled n → Stretch i (tag ∷ []) k → (tag == c) ≡ true
      → read_map wrap (item_ty (deeper n) i.at tag k) ≡ Ok (t, j) → ((u : Ty) → ty_field (wrap u) ≡ c ∷ ty_field u) → ((u : Ty) → InnerLegal n u → TyLegal void n (wrap u)) → Answer
  wrapped k tag c wrap bytes inner s is g spelt legal =
      let found = map_ok wrap (item_ty (deeper n) i.at tag k) (t, j) g in
      let u = found.0.0 in
      let there = inner i.at tag k found.0.1 u bytes found.1.0 in
      let value : wrap u ≡ t = ap (λ (p : Ty × Input). p.0) found.1.1 in
      let next : found.0.1 ≡ j = ap (λ (p : Ty × Input). p.1) found.1.1 in
      let whole : Stretch i (tag ∷ ty_field u) found.0.1 = stretch-join i k found.0.1 (tag ∷ []) (ty_field u) s there.stretch in
      let here : Stretch i (c ∷ ty_field u) j = subst (λ m. Stretch i (m ∷ ty_field u) j) (eqb-true tag c is) (subst (λ x. Stretch i (tag ∷ ty_field u) x) next whole) in
      subst (λ x. Spelled ty_field (TyLegal void n) i x j) value (record { legal = legal u there.legal; stretch = subst (λ l. Stretch i l j) (sym (spelt u)) here })

  list_legal : (u : Ty) → InnerLegal n u → TyLegal void n (ty.List u)
  list_legal u h = inl (rw (ty_fold-List nesting_step u) h.0, rw (ty_fold-List solid_step u) h.1)

  map_legal : (u : Ty) → InnerLegal n u → TyLegal void n (ty.Map u)
  map_legal u h = inl (rw (ty_fold-Map nesting_step u) h.0, rw (ty_fold-Map solid_step u) h.1)

  module _ (k : Input) (tag : ℕ) (bytes : AreBytes k.bytes) (inner : InnerSpelled n) (s : Stretch i (tag ∷ []) k) where
    refused : ◌≡◌ {A = Read Ty} (Err (BadTag i.at tag)) (Ok (t, j)) → Answer
    refused g = absurd (cc)

    at_void : (b : Bool) → (tag == 5 && void) ≡ b → ◌≡◌ {A = Read Ty} (if b then Ok (ty.Void, k) else Err (BadTag i.at tag)) (Ok (t, j)) → Answer
    at_void true is g = plain k tag 5 ty.Void s (and_both (tag == 5) void is).0 g (ty_fold-Void ty_field_step) (inr ((and_both (tag == 5) void is).1, refl))
    at_void false is g = refused g

    at_map : (b : Bool) → (tag == 4) ≡ b → ◌≡◌ {A = Read Ty} (if b then read_map ty.Map (item_ty (deeper n) i.at tag k) else (if tag == 5 && void then Ok (ty.Void, k) else Err (BadTag i.at tag))) (Ok (t, j)) → Answer
    at_map true is g = wrapped k tag 4 ty.Map bytes inner s is g (ty_fold-Map ty_field_step) map_legal
    at_map false is g = at_void (tag == 5 && void) refl g

    at_list : (b : Bool) → (tag == 3) ≡ b → ◌≡◌ {A = Read Ty} (if b then read_map ty.List (item_ty (deeper n) i.at tag k) else
        (if tag == 4 then read_map ty.Map (item_ty (deeper n) i.at tag k) else (if tag == 5 && void then Ok (ty.Void, k) else Err (BadTag i.at tag)))) (Ok (t, j)) → Answer
    at_list true is g = wrapped k tag 3 ty.List bytes inner s is g (ty_fold-List ty_field_step) list_legal
    at_list false is g = at_map (tag == 4) refl g

    at_text : (b : Bool) → (tag == 2) ≡ b → ◌≡◌ {A = Read Ty} (if b then Ok (ty.Text, k) else (if tag == 3 then read_map ty.List (item_ty (deeper n) i.at tag k) else
        (if tag == 4 then read_map ty.Map (item_ty (deeper n) i.at tag k) else (if tag == 5 && void then Ok (ty.Void, k) else Err (BadTag i.at tag))))) (Ok (t, j)) → Answer
    at_text true is g = plain k tag 2 ty.Text s is g (ty_fold-Text ty_field_step) (inl (rw (ty_fold-Text nesting_step) (omega arith), rw (ty_fold-Text solid_step) refl))
    at_text false is g = at_list (tag == 3) refl g

    at_int : (b : Bool) → (tag == 1) ≡ b → ◌≡◌ {A = Read Ty} (if b then Ok (ty.Int, k) else (if tag == 2 then Ok (ty.Text, k) else (if tag == 3 then read_map ty.List (item_ty (deeper n) i.at tag k) else
        (if tag == 4 then read_map ty.Map (item_ty (deeper n) i.at tag k) else (if tag == 5 && void then Ok (ty.Void, k) else Err (BadTag i.at tag)))))) (Ok (t, j)) → Answer
    at_int true is g = plain k tag 1 ty.Int s is g (ty_fold-Int ty_field_step) (inl (rw (ty_fold-Int nesting_step) (omega arith), rw (ty_fold-Int solid_step) refl))
    at_int false is g = at_text (tag == 2) refl g

    at_bool : (b : Bool) → (tag == 0) ≡ b → ◌≡◌ {A = Read Ty} (if b then Ok (ty.Bool, k) else (if tag == 1 then Ok (ty.Int, k) else (if tag == 2 then Ok (ty.Text, k) else (if tag == 3 then read_map ty.List (item_ty (deeper n) i.at tag k) else
        (if tag == 4 then read_map ty.Map (item_ty (deeper n) i.at tag k) else (if tag == 5 && void then Ok (ty.Void, k) else Err (BadTag i.at tag))))))) (Ok (t, j)) → Answer
    at_bool true is g = plain k tag 0 ty.Bool s is g (ty_fold-Bool ty_field_step) (inl (rw (ty_fold-Bool nesting_step) (omega arith), rw (ty_fold-Bool solid_step) refl))
    at_bool false is g = at_int (tag == 1) refl g

tag_spelled : (void : Bool) (n : ℕ) → InnerSpelled n → ReadsSpelled (ty_layer void (deeper n)) ty_field (TyLegal void n)
tag_spelled void n inner i j t bytes e =
    let found = bind_ok (byte_at i) (λ (b : ℕ × Input). ty_of void (deeper n) i.at b.0 b.1) (t, j) e in
    let here = byte_spelled i found.0.1 found.0.0 bytes found.1.0 in
    at_bool void n i j t found.0.1 found.0.0 (stretch-bytes i found.0.1 (found.0.0 ∷ []) here.stretch bytes) inner here.stretch (found.0.0 == 0) refl found.1.1

pub ty_spelled : (n : ℕ) (void : Bool) → ReadsSpelled (ty_layer void (deeper n)) ty_field (TyLegal void n)
ty_spelled zero void = tag_spelled void 0 nowhere
  where
    nowhere : InnerSpelled 0
    nowhere at tag i j t bytes e = let g : ◌≡◌ {A = Read Ty} (Err (BadTag at tag)) (Ok (t, j)) = rw deeper-none at e in absurd (cc)
ty_spelled (suc n) void = tag_spelled void (suc n) (inside (ty_spelled n false))
  where
    legal_inside : (t : Ty) → TyLegal false n t → InnerLegal (suc n) t
    legal_inside t (inl h) = (omega (arith, h.0), h.1)
    legal_inside t (inr h) = let no : false ≡ true = h.0 in absurd (cc)

    inside : ReadsSpelled (ty_layer false (deeper n)) ty_field (TyLegal false n) → InnerSpelled (suc n)
    inside again at tag i j t bytes e =
        let same : suc n - 1 ≡ n = omega arith in
        let level : deeper (suc n) ≡ Some (ty_layer false (deeper n)) = deeper-some (suc n) (omega arith) ∙ ap (λ m. Some (ty_layer false (deeper m))) same in
        let g : ty_layer false (deeper n) i ≡ Ok (t, j) = rw level at e in
        let there = again i j t bytes g in
        record { legal = legal_inside t there.legal; stretch = there.stretch }

-- the type of a value
pub value_ty_is_field : IsField (ty_layer false (deeper MAX_NESTING)) ty_field IsValueTy
value_ty_is_field = record {
  read_back = λ t h. ty_back t false MAX_NESTING h.0 h.1;
  spelled = λ i j t bytes e. let there = ty_spelled MAX_NESTING false i j t bytes e in record { legal = solid t there.legal; stretch = there.stretch };
}
  where
    solid : (t : Ty) → TyLegal false MAX_NESTING t → IsValueTy t
    solid t (inl h) = h
    solid t (inr h) = let no : false ≡ true = h.0 in absurd (cc)

-- a type
pub ty_is_field : IsField ty_at ty_field IsFieldTy
ty_is_field = record {
  read_back = back;
  spelled = λ i j t bytes e. let there = ty_spelled MAX_NESTING true i j t bytes e in record { legal = field t there.legal; stretch = there.stretch };
}
  where
    back : (t : Ty) → IsFieldTy t → ReadsBack ty_at ty_field t
    back t (inl h) = subst (λ u. ReadsBack ty_at ty_field u) (sym h) (void_back MAX_NESTING)
    back t (inr h) = ty_back t true MAX_NESTING h.0 h.1

    field : (t : Ty) → TyLegal true MAX_NESTING t → IsFieldTy t
    field t (inl h) = inr h
    field t (inr h) = inl h.1
