-- The test on lists of types says that they are equal.
use Rattle.std.proofs.Common.{◌≡◌, ◌<◌, ◌≤◌, ◌+◌, ℕ, zero, suc, length, drop, get_or, slice_get, arith, add-one}
use Rattle.std.proofs.Common.{◌&&◌, Bool, true, false, List, [], ◌∷◌, Some, None, Result, cond}
use Rattle.std.proofs.Common.{refl, sym, ap, subst, ◌∙◌}
use Rattle.bds_value.specs.declared.value.Ty.{Ty}
use Rattle.bds_value.specs.Types.{same_ty}
use Rattle.bds_value.proofs.TypeLaws.{same_ty-true, same_ty-refl}
use Rattle.bds_verify.specs.Pass.{same_tys, differs, ChecksOnly}
use Rattle.bds_verify.specs.declared.places.Kind.{Kind}
use Rattle.bds_verify.specs.declared.places.Kind.TheVariants.{Differs}
use Rattle.bds_verify.specs.declared.places.CheckFault.{CheckFault}

both : (a b : Bool) → a && b ≡ true → (a ≡ true) × (b ≡ true)
both true true h = (refl, refl)
both _ _ h = absurd (cc)

pub same_tys-true : (ts us : List Ty) → same_tys ts us ≡ true → ts ≡ us
same_tys-true [] [] h = refl
same_tys-true (t ∷ ts) (u ∷ us) h =
    let p : (same_ty t u ≡ true) × (same_tys ts us ≡ true) = both _ _ h in
    let e : t ≡ u = same_ty-true t u p.0 in
    let es : ts ≡ us = same_tys-true ts us p.1 in cc
same_tys-true _ _ h = absurd (cc)

pub same_tys-refl : (ts : List Ty) → same_tys ts ts ≡ true
same_tys-refl [] = refl
same_tys-refl (t ∷ ts) = rw (same_ty-refl t) (same_tys-refl ts)

chosen : (b : Bool) (k : Kind) → cond b None (Some k) ≡ None → b ≡ true
chosen true k h = refl
chosen false k h = absurd (cc)

pub differs-none : (declared came : List Ty) → differs (Some declared) (Some came) ≡ None → came ≡ declared
differs-none declared came h = same_tys-true came declared (chosen (same_tys came declared) _ h)

pub uneven : (ts us : List Ty) → (length ts ≡ length us → ⊥) → same_tys ts us ≡ false
uneven [] [] never = absurd (never refl)
uneven [] (u ∷ us) never = refl
uneven (t ∷ ts) [] never = refl
uneven (t ∷ ts) (u ∷ us) never = rw (uneven ts us (λ e. never (omega (arith, e)))) (and_false (same_ty t u))
  where
    and_false : (b : Bool) → b && false ≡ false
    and_false true = refl
    and_false false = refl

pub same_step : (ts us : List Ty) (n : ℕ) (t u : Ty) → n < length ts → t ≡ get_or ts n t → slice_get us n ≡ Some u
    → same_tys (drop n ts) (drop n us) ≡ (same_ty t u && same_tys (drop (n + 1) ts) (drop (n + 1) us))
same_step ts us n t u l is at = rw (add-one n) (steps ts us n l is at)
  where
    steps : (ts us : List Ty) (n : ℕ) → n < length ts → t ≡ get_or ts n t → slice_get us n ≡ Some u
        → same_tys (drop n ts) (drop n us) ≡ (same_ty t u && same_tys (drop (suc n) ts) (drop (suc n) us))
    steps [] us n l is at = absurd (omega arith)
    steps (x ∷ ts) [] n l is at = absurd (cc)
    steps (x ∷ ts) (y ∷ us) zero l is at =
        let same : y ≡ u = cc in
        ap (λ a. same_ty a y && same_tys ts us) (sym is) ∙ ap (λ b. same_ty t b && same_tys ts us) same
    steps (x ∷ ts) (y ∷ us) (suc n) l is at = steps ts us n (omega (arith, l)) is at

pub same_end : (ts us : List Ty) (n : ℕ) → length ts ≡ length us → length ts ≤ n
    → same_tys (drop n ts) (drop n us) ≡ true
same_end [] [] n e l = ends n
  where
    ends : (n : ℕ) → same_tys (drop n []) (drop n []) ≡ true
    ends zero = refl
    ends (suc n) = refl
same_end [] (u ∷ us) n e l = absurd (omega (arith, e))
same_end (t ∷ ts) [] n e l = absurd (omega (arith, e))
same_end (t ∷ ts) (u ∷ us) zero e l = absurd (omega (arith, l))
same_end (t ∷ ts) (u ∷ us) (suc n) e l = same_end ts us n (omega (arith, e)) (omega (arith, l))

pub differs_same : (declared came : List Ty) → true ≡ same_tys came declared
    → differs (Some declared) (Some came) ≡ None
differs_same declared came e = ap (λ b. cond b None (Some (Differs came declared))) (sym e)

pub differs_other : (declared came : List Ty) (r : Result (Unit {0}) CheckFault) → false ≡ same_tys came declared
    → ChecksOnly (Some (Differs came declared)) r → ChecksOnly (differs (Some declared) (Some came)) r
differs_other declared came r e h =
    subst (λ bad. ChecksOnly bad r) (ap (λ b. cond b None (Some (Differs came declared))) e) h
