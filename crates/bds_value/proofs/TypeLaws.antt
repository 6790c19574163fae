-- The test on types says that they are equal, and types nest level by level.
use Rattle.std.proofs.Common.{◌≡◌, ◌↔◌, ℕ, zero, suc, ◌+◌, ◌-◌, ◌&&◌, ◌||◌, nat_eq, nat_lt, nat_le, Bool, true, false, refl, sym, subst, ap, ◌∙◌, arith}
use Rattle.std.proofs.lemmas.Grind.{common_steps}
use Rattle.bds_value.specs.declared.value.Ty.{Ty, out-Ty, roll-Ty, ind-Ty, map-Ty, fold-roll-Ty, roll-out-Ty, out-roll-Ty}
use Rattle.bds_value.specs.declared.value.Ty.TheVariants as ty
use Rattle.bds_value.specs.declared.value.Ty.TheOpen.{Ty-F}
use Rattle.bds_value.specs.Fields.{nesting, nesting_step, is_solid, solid_step}
use Rattle.bds_value.specs.Types.{same_ty, same_at, fits_within}
use Rattle.bds_value.proofs.Folds.{ty_fold-Bool, ty_fold-Int, ty_fold-Text, ty_fold-List, ty_fold-Map, ty_fold-Void}

abbrev step : Ty-F (Ty → Bool) → Ty → Bool
step y t = same_at y (out-Ty t)

abbrev Sure : Ty → Type 0
Sure t = (u : Ty) → same_ty t u ≡ true → t ≡ u

abbrev Known : Type 0
Known = (t : Ty) × Sure t

abbrev types : Ty-F Known → Ty-F Ty
types = map-Ty Known Ty (λ e. e.0)

rolled : (x : Ty-F Ty) (u : Ty) → same_ty (roll-Ty x) u ≡ step (map-Ty Ty (Ty → Bool) same_ty x) u
rolled x u = ap (λ (f : Ty → Bool). f u) (fold-roll-Ty (Ty → Bool) step x)

layer_is : (y : Ty-F Known) (w : Ty-F Ty) → same_at (map-Ty Ty (Ty → Bool) same_ty (types y)) w ≡ true → types y ≡ w
layer_is Ty-F.Bool Ty-F.Bool h = refl
layer_is Ty-F.Int Ty-F.Int h = refl
layer_is Ty-F.Text Ty-F.Text h = refl
layer_is Ty-F.Void Ty-F.Void h = refl
layer_is (Ty-F.List e) (Ty-F.List t) h = ap (λ x. Ty-F.List x) (e.1 t h)
layer_is (Ty-F.Map e) (Ty-F.Map t) h = ap (λ x. Ty-F.Map x) (e.1 t h)
layer_is _ _ h = absurd (cc)

pub same_ty-true : (t u : Ty) → same_ty t u ≡ true → t ≡ u
same_ty-true = ind-Ty Sure (λ x y is. subst (λ z. Sure (roll-Ty z)) is
    (λ u h. ap roll-Ty (layer_is y (out-Ty u) (sym (rolled (types y) u) ∙ h)) ∙ roll-out-Ty u))

abbrev Itself : Ty → Type 0
Itself t = same_ty t t ≡ true

layer_same : (y : Ty-F ((t : Ty) × Itself t)) → same_at (map-Ty Ty (Ty → Bool) same_ty (map-Ty ((t : Ty) × Itself t) Ty (λ e. e.0) y)) (map-Ty ((t : Ty) × Itself t) Ty (λ e. e.0) y) ≡ true
layer_same Ty-F.Bool = refl
layer_same Ty-F.Int = refl
layer_same Ty-F.Text = refl
layer_same Ty-F.Void = refl
layer_same (Ty-F.List e) = e.1
layer_same (Ty-F.Map e) = e.1

pub same_ty-refl : (t : Ty) → same_ty t t ≡ true
same_ty-refl = ind-Ty Itself (λ x y is. subst (λ z. Itself (roll-Ty z)) is
    (let x : Ty-F Ty = map-Ty ((t : Ty) × Itself t) Ty (λ e. e.0) y in
    rolled x (roll-Ty x) ∙ ap (same_at (map-Ty Ty (Ty → Bool) same_ty x)) (out-roll-Ty x) ∙ layer_same y))

-- the test is equality
pub same_ty-equal : (t u : Ty) → (same_ty t u ≡ true) ↔ (t ≡ u)
same_ty-equal t u = (same_ty-true t u, λ e. subst (λ w. same_ty t w ≡ true) e (same_ty-refl t))

pub same_ty-Bool : (u : Ty) → same_ty ty.Bool u ≡ same_at Ty-F.Bool (out-Ty u)
same_ty-Bool u = ap (λ x. same_ty x u) (sym ty.rolls-Bool) ∙ rolled Ty-F.Bool u

pub same_ty-Int : (u : Ty) → same_ty ty.Int u ≡ same_at Ty-F.Int (out-Ty u)
same_ty-Int u = ap (λ x. same_ty x u) (sym ty.rolls-Int) ∙ rolled Ty-F.Int u

pub same_ty-Text : (u : Ty) → same_ty ty.Text u ≡ same_at Ty-F.Text (out-Ty u)
same_ty-Text u = ap (λ x. same_ty x u) (sym ty.rolls-Text) ∙ rolled Ty-F.Text u

pub same_ty-Void : (u : Ty) → same_ty ty.Void u ≡ same_at Ty-F.Void (out-Ty u)
same_ty-Void u = ap (λ x. same_ty x u) (sym ty.rolls-Void) ∙ rolled Ty-F.Void u

pub same_ty-List : (t u : Ty) → same_ty (ty.List t) u ≡ same_at (Ty-F.List (same_ty t)) (out-Ty u)
same_ty-List t u = ap (λ x. same_ty x u) (sym (ty.rolls-List t)) ∙ rolled (Ty-F.List t) u

pub same_ty-Map : (t u : Ty) → same_ty (ty.Map t) u ≡ same_at (Ty-F.Map (same_ty t)) (out-Ty u)
same_ty-Map t u = ap (λ x. same_ty x u) (sym (ty.rolls-Map t)) ∙ rolled (Ty-F.Map t) u

pub ruleset same_rules = (same_ty-Bool, same_ty-Int, same_ty-Text, same_ty-Void, same_ty-List, same_ty-Map)

pub room-Bool : (n : ℕ) → fits_within ty.Bool n ≡ true
room-Bool n = rw (ty_fold-Bool nesting_step, ty_fold-Bool solid_step) (at_least n)
  where
    at_least : (n : ℕ) → (nat_le 0 n && true) ≡ true
    at_least n = grind (arith, common_steps)

pub room-Int : (n : ℕ) → fits_within ty.Int n ≡ true
room-Int n = rw (ty_fold-Int nesting_step, ty_fold-Int solid_step) (at_least n)
  where
    at_least : (n : ℕ) → (nat_le 0 n && true) ≡ true
    at_least n = grind (arith, common_steps)

pub room-Text : (n : ℕ) → fits_within ty.Text n ≡ true
room-Text n = rw (ty_fold-Text nesting_step, ty_fold-Text solid_step) (at_least n)
  where
    at_least : (n : ℕ) → (nat_le 0 n && true) ≡ true
    at_least n = grind (arith, common_steps)

pub room-Void : (n : ℕ) → fits_within ty.Void n ≡ false
room-Void n = rw (ty_fold-Void nesting_step, ty_fold-Void solid_step) (never (nat_le 0 n))
  where
    never : (b : Bool) → (b && false) ≡ false
    never true = refl
    never false = refl

one_less : (d n : ℕ) (b : Bool) → (nat_le (d + 1) n && b) ≡ (nat_lt 0 n && (nat_le d (n - 1) && b))
one_less d zero b = let t : nat_le (d + 1) 0 ≡ false = grind (arith, common_steps) in rw t refl
one_less d (suc n) b =
    let t : nat_lt 0 (suc n) ≡ true = grind (arith, common_steps) in
    let m : suc n - 1 ≡ n = omega arith in
    let e : nat_le (d + 1) (suc n) ≡ nat_le d n = grind (arith, common_steps) in
    rw (t, m, e) refl

pub room-List : (t : Ty) (n : ℕ) → fits_within (ty.List t) n ≡ (nat_lt 0 n && fits_within t (n - 1))
room-List t n = rw (ty_fold-List nesting_step t, ty_fold-List solid_step t) (one_less (nesting t) n (is_solid t))

pub room-Map : (t : Ty) (n : ℕ) → fits_within (ty.Map t) n ≡ (nat_lt 0 n && fits_within t (n - 1))
room-Map t n = rw (ty_fold-Map nesting_step t, ty_fold-Map solid_step t) (one_less (nesting t) n (is_solid t))

pub ruleset room_rules = (room-Bool, room-Int, room-Text, room-Void, room-List, room-Map)

never_deeper : (m : ℕ) → nat_lt m 0 ≡ false
never_deeper m = grind (arith, common_steps)

pub deeper-Bool : (m : ℕ) → nat_lt m (nesting ty.Bool) ≡ false
deeper-Bool m = rw (ty_fold-Bool nesting_step) (never_deeper m)

pub deeper-Int : (m : ℕ) → nat_lt m (nesting ty.Int) ≡ false
deeper-Int m = rw (ty_fold-Int nesting_step) (never_deeper m)

pub deeper-Text : (m : ℕ) → nat_lt m (nesting ty.Text) ≡ false
deeper-Text m = rw (ty_fold-Text nesting_step) (never_deeper m)

pub deeper-Void : (m : ℕ) → nat_lt m (nesting ty.Void) ≡ false
deeper-Void m = rw (ty_fold-Void nesting_step) (never_deeper m)

one_deeper : (d m : ℕ) → nat_lt m (d + 1) ≡ (nat_eq m 0 || nat_lt (m - 1) d)
one_deeper d zero = let t : nat_lt 0 (d + 1) ≡ true = grind (arith, common_steps) in rw t refl
one_deeper d (suc m) =
    let t : nat_lt (suc m) (d + 1) ≡ nat_lt m d = grind (arith, common_steps) in
    let z : nat_eq (suc m) 0 ≡ false = grind (arith, common_steps) in
    let k : suc m - 1 ≡ m = omega arith in
    rw (t, z, k) refl

pub deeper-List : (t : Ty) (m : ℕ) → nat_lt m (nesting (ty.List t)) ≡ (nat_eq m 0 || nat_lt (m - 1) (nesting t))
deeper-List t m = rw (ty_fold-List nesting_step t) (one_deeper (nesting t) m)

pub deeper-Map : (t : Ty) (m : ℕ) → nat_lt m (nesting (ty.Map t)) ≡ (nat_eq m 0 || nat_lt (m - 1) (nesting t))
deeper-Map t m = rw (ty_fold-Map nesting_step t) (one_deeper (nesting t) m)

pub ruleset depth_rules = (deeper-Bool, deeper-Int, deeper-Text, deeper-Void, deeper-List, deeper-Map)
