-- Types that can be written: what is made of them can be written too.
use Rattle.std.proofs.Common.{◌≡◌, Bool, true, false, not, ◌&&◌, ◌||◌, Option, Some, None, is_some, refl, ap, sym, subst, ◌∙◌, if◌then◌else◌, rules}
use Rattle.bds_value.specs.declared.value.Ty.{Ty, out-Ty}
use Rattle.bds_value.specs.declared.value.Ty.TheVariants as ty
use Rattle.bds_value.specs.declared.value.Ty.TheOpen.{Ty-F}
use Rattle.bds_value.proofs.Folds.{ty_fold-Bool, ty_fold-Int, ty_fold-Text, ty_fold-List, ty_fold-Map, ty_fold-Void}
use Rattle.bds_value.proofs.Induction.{ty_induction}
use Rattle.bds_value.specs.Fields.{solid_step, is_solid}
use Rattle.bds_value.specs.Types.{is_void_at, list_item, list_item_at, map_item, map_item_at, same_ty}
use Rattle.bds_tree.specs.StmtShape.{is_result}
use Rattle.bds_check_names.specs.Types.{is_known, known_at, or_void, list_of, list_of_at, map_of, map_of_at, joins, sum_ty, common_ty}
use Rattle.bds_check_names.specs.Types.{lacks}

pub bool-written : is_solid ty.Bool ≡ true
bool-written = ty_fold-Bool solid_step

pub int-written : is_solid ty.Int ≡ true
int-written = ty_fold-Int solid_step

pub text-written : is_solid ty.Text ≡ true
text-written = ty_fold-Text solid_step

pub list-written : (t : Ty) → is_solid t ≡ true → is_solid (ty.List t) ≡ true
list-written t h = ty_fold-List solid_step t ∙ h

pub map-written : (t : Ty) → is_solid t ≡ true → is_solid (ty.Map t) ≡ true
map-written t h = ty_fold-Map solid_step t ∙ h

pub texts-written : is_solid (ty.List ty.Text) ≡ true
texts-written = list-written ty.Text text-written

-- by the outermost layer
abbrev written_at : Ty-F Ty → Bool
written_at (Ty-F.List t) = is_solid t
written_at (Ty-F.Map t) = is_solid t
written_at Ty-F.Void = false
written_at _ = true

layered : (t : Ty) (w : Ty-F Ty) (b : Bool) → is_solid t ≡ b → out-Ty t ≡ w → written_at w ≡ b → is_solid t ≡ written_at (out-Ty t)
layered t w b p q r = p ∙ sym r ∙ ap written_at (sym q)

written-layer : (t : Ty) → is_solid t ≡ written_at (out-Ty t)
written-layer = ty_induction (λ t. is_solid t ≡ written_at (out-Ty t))
    (layered ty.Bool Ty-F.Bool true bool-written ty.outs-Bool refl)
    (layered ty.Int Ty-F.Int true int-written ty.outs-Int refl)
    (layered ty.Text Ty-F.Text true text-written ty.outs-Text refl)
    (λ t is. layered (ty.List t) (Ty-F.List t) (is_solid t) (ty_fold-List solid_step t) (ty.outs-List t) refl)
    (λ t is. layered (ty.Map t) (Ty-F.Map t) (is_solid t) (ty_fold-Map solid_step t) (ty.outs-Map t) refl)
    (layered ty.Void Ty-F.Void false (ty_fold-Void solid_step) ty.outs-Void refl)

by-layer : (t : Ty) → is_solid t ≡ true → written_at (out-Ty t) ≡ true
by-layer t h = sym (written-layer t) ∙ h

known-layer : (w : Ty-F Ty) → written_at w ≡ true → known_at w ≡ true
known-layer Ty-F.Bool h = refl
known-layer Ty-F.Int h = refl
known-layer Ty-F.Text h = refl
known-layer (Ty-F.List t) h = refl
known-layer (Ty-F.Map t) h = refl
known-layer Ty-F.Void h = h

pub written-known : (t : Ty) → is_solid t ≡ true → is_known t ≡ true
written-known t h = known-layer (out-Ty t) (by-layer t h)

known-void : (w : Ty-F Ty) → known_at w ≡ true → is_void_at w ≡ false
known-void Ty-F.Bool h = refl
known-void Ty-F.Int h = refl
known-void Ty-F.Text h = refl
known-void (Ty-F.List t) h = refl
known-void (Ty-F.Map t) h = refl
known-void Ty-F.Void h = absurd (search (rules, h))

-- the result of a function, or of a method, where it is one
pub result-written : (t : Ty) → is_result t ≡ true → is_known t ≡ true → is_solid t ≡ true
result-written t h k = ap (λ (b : Bool). b || is_solid t) (sym (known-void (out-Ty t) k)) ∙ h

or-right : (b : Bool) → (b || true) ≡ true
or-right true = refl
or-right false = refl

pub written-result : (t : Ty) → is_solid t ≡ true → is_result t ≡ true
written-result t h = ap (λ (b : Bool). is_void_at (out-Ty t) || b) h ∙ or-right (is_void_at (out-Ty t))

pub void-result : is_result ty.Void ≡ true
void-result = ap (λ (w : Ty-F Ty). is_void_at w || is_solid ty.Void) ty.outs-Void

-- Items

list-item-layer : (w : Ty-F Ty) (t : Ty) → written_at w ≡ true → list_item_at w ≡ Some t → is_solid t ≡ true
list-item-layer Ty-F.Bool t h q = absurd (search (rules, q))
list-item-layer Ty-F.Int t h q = absurd (search (rules, q))
list-item-layer Ty-F.Text t h q = absurd (search (rules, q))
list-item-layer (Ty-F.List u) t h q = subst (λ (o : Option Ty). is_solid (or_void o) ≡ true) q h
list-item-layer (Ty-F.Map u) t h q = absurd (search (rules, q))
list-item-layer Ty-F.Void t h q = absurd (search (rules, h))

pub list-item-written : (t u : Ty) → is_solid t ≡ true → list_item t ≡ Some u → is_solid u ≡ true
list-item-written t u h q = list-item-layer (out-Ty t) u (by-layer t h) q

map-item-layer : (w : Ty-F Ty) (t : Ty) → written_at w ≡ true → map_item_at w ≡ Some t → is_solid t ≡ true
map-item-layer Ty-F.Bool t h q = absurd (search (rules, q))
map-item-layer Ty-F.Int t h q = absurd (search (rules, q))
map-item-layer Ty-F.Text t h q = absurd (search (rules, q))
map-item-layer (Ty-F.List u) t h q = absurd (search (rules, q))
map-item-layer (Ty-F.Map u) t h q = subst (λ (o : Option Ty). is_solid (or_void o) ≡ true) q h
map-item-layer Ty-F.Void t h q = absurd (search (rules, h))

pub map-item-written : (t u : Ty) → is_solid t ≡ true → map_item t ≡ Some u → is_solid u ≡ true
map-item-written t u h q = map-item-layer (out-Ty t) u (by-layer t h) q

-- the part of a whole that doesn't lack it
part-written : (t : Ty) (o : Option Ty) → is_solid t ≡ true → ((u : Ty) → o ≡ Some u → is_solid u ≡ true) → lacks t (is_some o) ≡ false → is_solid (or_void o) ≡ true
part-written t (Some u) h k q = k u refl
part-written t None h k q = absurd (let known : (is_known t && true) ≡ true = ap (λ (b : Bool). b && true) (written-known t h) in search (rules, sym known ∙ q))

pub list-part-written : (t : Ty) → is_solid t ≡ true → lacks t (is_some (list_item t)) ≡ false → is_solid (or_void (list_item t)) ≡ true
list-part-written t h q = part-written t (list_item t) h (λ u e. list-item-written t u h e) q

pub map-part-written : (t : Ty) → is_solid t ≡ true → lacks t (is_some (map_item t)) ≡ false → is_solid (or_void (map_item t)) ≡ true
map-part-written t h q = part-written t (map_item t) h (λ u e. map-item-written t u h e) q

list-of-layer : (w : Ty-F Ty) (t : Ty) → known_at w ≡ true → is_solid t ≡ true → is_solid (list_of_at w t) ≡ true
list-of-layer Ty-F.Bool t k h = list-written t h
list-of-layer Ty-F.Int t k h = list-written t h
list-of-layer Ty-F.Text t k h = list-written t h
list-of-layer (Ty-F.List u) t k h = list-written t h
list-of-layer (Ty-F.Map u) t k h = list-written t h
list-of-layer Ty-F.Void t k h = absurd (search (rules, k))

pub list-of-written : (t : Ty) → is_solid t ≡ true → is_solid (list_of t) ≡ true
list-of-written t h = list-of-layer (out-Ty t) t (written-known t h) h

map-of-layer : (w : Ty-F Ty) (t : Ty) → known_at w ≡ true → is_solid t ≡ true → is_solid (map_of_at w t) ≡ true
map-of-layer Ty-F.Bool t k h = map-written t h
map-of-layer Ty-F.Int t k h = map-written t h
map-of-layer Ty-F.Text t k h = map-written t h
map-of-layer (Ty-F.List u) t k h = map-written t h
map-of-layer (Ty-F.Map u) t k h = map-written t h
map-of-layer Ty-F.Void t k h = absurd (search (rules, k))

pub map-of-written : (t : Ty) → is_solid t ≡ true → is_solid (map_of t) ≡ true
map-of-written t h = map-of-layer (out-Ty t) t (written-known t h) h

-- Sums and choices

pub void-unknown : is_known ty.Void ≡ false
void-unknown = ap known_at ty.outs-Void

sum-choice : (a : Ty) (b c d e f : Bool) → is_solid a ≡ true →
    is_known (if b then ty.Text else (if c then ty.Void else (if d then a else (if e then ty.Int else (if f then ty.Text else ty.Void))))) ≡ true →
    is_solid (if b then ty.Text else (if c then ty.Void else (if d then a else (if e then ty.Int else (if f then ty.Text else ty.Void))))) ≡ true
sum-choice a true c d e f h k = text-written
sum-choice a false true d e f h k = absurd (search (rules, sym void-unknown ∙ k))
sum-choice a false false true e f h k = h
sum-choice a false false false true f h k = int-written
sum-choice a false false false false true h k = text-written
sum-choice a false false false false false h k = absurd (search (rules, sym void-unknown ∙ k))

pub sum-written : (a b : Ty) → is_solid a ≡ true → is_known (sum_ty a b) ≡ true → is_solid (sum_ty a b) ≡ true
sum-written a b h k = sum-choice a (same_ty a ty.Text) (not (is_known a && is_known b)) (joins a b (list_item a)) (same_ty a ty.Int && same_ty b ty.Int) (same_ty b ty.Text) h k

not-false : (b : Bool) → not b ≡ false → b ≡ true
not-false true q = refl
not-false false q = absurd (search (rules, q))

-- a sum that breaks no rule
pub sum-known : (a b c : Bool) → a ≡ true → b ≡ true → (a && b && not c) ≡ false → c ≡ true
sum-known true true c p q r = not-false c r
sum-known true false c p q r = absurd (search (rules, q))
sum-known false b c p q r = absurd (search (rules, p))

common-choice : (x y : Bool) (a : Ty) → x ≡ true → y ≡ true → is_solid a ≡ true → is_solid (if x && y then a else ty.Void) ≡ true
common-choice true true a p q h = h
common-choice true false a p q h = absurd (search (rules, q))
common-choice false y a p q h = absurd (search (rules, p))

pub common-written : (a b : Ty) → is_solid a ≡ true → is_solid b ≡ true → is_solid (common_ty a b) ≡ true
common-written a b h k = common-choice (is_known a) (is_known b) a (written-known a h) (written-known b k) h
