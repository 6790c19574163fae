-- Functions and units from what the pass finds.
use Rattle.std.proofs.Common.{◌≡◌, ◌<◌, ◌≤◌, ◌+◌, ◌&&◌, ℕ, nat_lt, nat_le, List, length, slice_get, get_or, Some, Result, Ok, Err, Bool, true, false, arith, refl, sym, subst, below_more}
use Rattle.std.specs.List.{list_all}
use Rattle.std.proofs.lemmas.Grind.{common_steps}
use Rattle.std.proofs.lemmas.Bool.{ltb-true}
use Rattle.std.proofs.lemmas.Option.{slice_get_read, slice_get_within}
use Rattle.bds_code.specs.declared.unit.Function.{Function}
use Rattle.bds_code.specs.declared.unit.Unit.{Unit as CodeUnit}
use Rattle.bds_verify.specs.declared.places.Kind.{Kind}
use Rattle.bds_verify.specs.declared.places.CodeFault.{CodeFault}
use Rattle.bds_verify.specs.declared.places.CodeFault.TheVariants as code
use Rattle.bds_verify.specs.declared.units.VerifyFault.{VerifyFault}
use Rattle.bds_verify.specs.declared.units.VerifyFault.TheVariants as unit
use Rattle.bds_verify.specs.Verified.{IsVerified, VerifiedUnit}
use Rattle.bds_verify.specs.Whole.{is_heading, is_code, are_labels, are_value_tys, is_text, rises, is_whole, is_whole_unit}
use Rattle.bds_verify.specs.Pass.{FirstFault, Verifies, IsCodeFault, Unwhole, At, IsUnitFault, OfUnit, OfFunction, VerifiesFunctions, VerifiesUnit, at_function, OrMemory}
use Rattle.bds_verify.proofs.Exact.{shape, pass_sound, pass_complete}

both : (a b : Bool) → (a && b) ≡ true → (a ≡ true) × (b ≡ true)
both true true e = (refl, refl)
both true false e = absurd (cc)
both false b e = absurd (cc)

code_is : (u : CodeUnit) (f : Function) → is_whole u f ≡ true → is_code f.code ≡ true
code_is u f h = (both (is_code f.code) _ (both (is_heading f) _ h).1).0

labels_are : (u : CodeUnit) (f : Function) → is_whole u f ≡ true → are_labels (length f.code) f.labels ≡ true
labels_are u f h = (both (are_labels (length f.code) f.labels) _ (both (is_code f.code) _ (both (is_heading f) _ h).1).1).0

pub whole-code : (u : CodeUnit) (f : Function) → is_whole u f ≡ true → 0 < length f.code
whole-code u f h = ltb-true 0 (length f.code) (both (nat_lt 0 (length f.code)) _ (code_is u f h)).0

pub whole-size : (u : CodeUnit) (f : Function) → is_whole u f ≡ true → length f.code ≤ 16777216
whole-size u f h =
    let t : nat_le (length f.code) 16777216 ≡ true = (both (nat_le (length f.code) 16777216) _ (both (nat_lt 0 (length f.code)) _ (code_is u f h)).1).0 in
    grind (arith, common_steps)

pub whole-rises : (u : CodeUnit) (f : Function) → is_whole u f ≡ true → rises f.labels ≡ true
whole-rises u f h = (both (rises f.labels) _ (both (nat_le (length f.labels) 4294967295) _ (labels_are u f h)).1).0

pub few_functions : (u : CodeUnit) → is_whole_unit u ≡ true → length u.functions < 4294967296
few_functions u h =
    let t : nat_le (length u.functions) 4294967295 ≡ true =
    (both (nat_le (length u.functions) 4294967295) _ (both (are_value_tys u.globals) _ (both (nat_le (length u.files) 4294967295 && list_all is_text u.files) _ h).1).1).0 in
    grind (arith, common_steps)

pub verifies : (u : CodeUnit) (f : Function) (r : Result (Unit {0}) CodeFault) → is_whole u f ≡ true → FirstFault u f r → Verifies u f r
verifies u f (Err code.NoMemory) w h = tt
verifies u f (Ok x) w h = record { whole = w; shapes = (shape u f, pass_sound u f (whole-code u f w) h) }
verifies u f (Err (code.Bad at kind)) w h = At at kind w h

pub fault_unverified : (u : CodeUnit) (f : Function) (at : ℕ) (kind : Kind) → IsCodeFault u f at kind → IsVerified u f → ⊥
fault_unverified u f at kind (Unwhole bad) v = let good = v.whole in cc
fault_unverified u f at kind (At _ _ w h) v = let none = pass_complete u f v.shapes.0 v.shapes.1 at h.place in let some = h.fault in cc

pub verifies_functions : (u : CodeUnit) (n : ℕ) (f : Function) (fault : CodeFault) → slice_get u.functions n ≡ Some f
    → ((k : ℕ) (g : Function) → k < n → slice_get u.functions k ≡ Some g → IsVerified u g)
    → Verifies u f (Err fault) → VerifiesFunctions u (Err (at_function n fault))
verifies_functions u n f code.NoMemory is before h = tt
verifies_functions u n f (code.Bad at kind) is before h = record { there = (f, is, h); before = before }

pub verifies_unit : (u : CodeUnit) (r : Result (Unit {0}) VerifyFault) → is_whole_unit u ≡ true → VerifiesFunctions u r → VerifiesUnit u r
verifies_unit u (Ok x) w h = record { whole = w; functions = h }
verifies_unit u (Err unit.NoMemory) w h = tt
verifies_unit u (Err (unit.Bad n at kind)) w h = OfFunction n at kind w h

bad_unit : (u : CodeUnit) (n at : ℕ) (kind : Kind) → IsUnitFault u n at kind → VerifiedUnit u → ⊥
bad_unit u n at kind (OfUnit bad) v = let good = v.whole in cc
bad_unit u n at kind (OfFunction _ _ _ w h) v = fault_unverified u h.there.0 at kind h.there.2 (v.functions n h.there.0 h.there.1)

pub not_verified : (u : CodeUnit) (fault : VerifyFault) → VerifiesUnit u (Err fault) → VerifiedUnit u → OrMemory {X = CodeUnit} (Err fault)
not_verified u unit.NoMemory h v = tt
not_verified u (unit.Bad n at kind) h v = bad_unit u n at kind h v

pub one_more : (u : CodeUnit) (n : ℕ) (f : Function) → slice_get u.functions n ≡ Some f
    → ((k : ℕ) (g : Function) → k < n → slice_get u.functions k ≡ Some g → IsVerified u g) → IsVerified u f
    → (k : ℕ) (g : Function) → k < n + 1 → slice_get u.functions k ≡ Some g → IsVerified u g
one_more u n f is before v k g l at =
    below_more (λ k. (g : Function) → slice_get u.functions k ≡ Some g → IsVerified u g) n (λ k l g at. before k g l at)
    (λ g at. let same : f ≡ g = cc in subst (IsVerified u) same v) k l g at

-- the item of a loop over the functions
pub at_item : (fs gs : List Function) (i j : ℕ) (f : Function) → gs ≡ fs → j ≡ i → i < length gs → f ≡ get_or gs i f → slice_get fs j ≡ Some f
at_item fs gs i j f same at l is =
    subst (λ k. slice_get fs k ≡ Some f) (sym at) (subst (λ x. slice_get x i ≡ Some f) same (slice_get_read gs (length gs) i f refl l is))

pub all_checked : (u : CodeUnit) (n m : ℕ) → length u.functions ≤ m → n ≡ m
    → ((k : ℕ) (g : Function) → k < n → slice_get u.functions k ≡ Some g → IsVerified u g) → (k : ℕ) (g : Function) → slice_get u.functions k ≡ Some g → IsVerified u g
all_checked u n m l e h k g at = let w : k < length u.functions = slice_get_within u.functions k g at in h k g (omega arith) at
