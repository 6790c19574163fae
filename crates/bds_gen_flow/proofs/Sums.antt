-- What a sum is, and what its type says of its operands.
use Rattle.std.proofs.Common.{◌≡◌, Bool, true, false, not, ◌&&◌, ◌||◌, Option, Some, None, refl, sym, ◌∙◌, ap, ap₂, subst, if◌then◌else◌, rules}
use Rattle.bds_value.specs.declared.value.Ty.{Ty, out-Ty, roll-Ty, roll-out-Ty}
use Rattle.bds_value.specs.declared.value.Ty.TheVariants as ty
use Rattle.bds_value.specs.declared.value.Ty.TheOpen.{Ty-F}
use Rattle.bds_check_names.specs.Types.{is_known, joins, sum_ty}
use Rattle.bds_value.specs.Types.{list_item, list_item_at, map_item, map_item_at, same_at, same_ty}
use Rattle.bds_check_size.specs.declared.sums.Sum.{Sum}
use Rattle.bds_check_size.specs.declared.sums.Sum.TheVariants as sums
use Rattle.bds_check_size.specs.ExprSize.{sum_by, sum_of}
use Rattle.bds_check_typing.proofs.Written.{void-unknown}
use Rattle.bds_value.proofs.TypeLaws.{same_ty-true, same_ty-Text}

abbrev pub SumFits : Sum → Ty → Ty → Type 0
SumFits sums.Numbers a b = (a ≡ ty.Int) × (b ≡ ty.Int) × (sum_ty a b ≡ ty.Int)
SumFits sums.ItemAdded a b = (list_item a ≡ Some b) × (sum_ty a b ≡ a)
SumFits sums.ListsJoined a b = (a ≡ b) × ((t : Ty) × (list_item a ≡ Some t)) × (sum_ty a b ≡ a)
SumFits sums.Texts a b = sum_ty a b ≡ ty.Text

list-layer : (w : Ty-F Ty) (t : Ty) → list_item_at w ≡ Some t → w ≡ Ty-F.List t
list-layer (Ty-F.List u) t h = let e : u ≡ t = cc in ap (λ x. Ty-F.List x) e
list-layer Ty-F.Bool t h = absurd (search (rules, h))
list-layer Ty-F.Int t h = absurd (search (rules, h))
list-layer Ty-F.Text t h = absurd (search (rules, h))
list-layer (Ty-F.Map u) t h = absurd (search (rules, h))
list-layer Ty-F.Void t h = absurd (search (rules, h))

-- a type with items is a list of them
pub list-is : (l t : Ty) → list_item l ≡ Some t → l ≡ ty.List t
list-is l t h = sym (roll-out-Ty l) ∙ ap roll-Ty (list-layer (out-Ty l) t h) ∙ ty.rolls-List t

map-layer : (w : Ty-F Ty) (t : Ty) → map_item_at w ≡ Some t → w ≡ Ty-F.Map t
map-layer (Ty-F.Map u) t h = let e : u ≡ t = cc in ap (λ x. Ty-F.Map x) e
map-layer Ty-F.Bool t h = absurd (search (rules, h))
map-layer Ty-F.Int t h = absurd (search (rules, h))
map-layer Ty-F.Text t h = absurd (search (rules, h))
map-layer (Ty-F.List u) t h = absurd (search (rules, h))
map-layer Ty-F.Void t h = absurd (search (rules, h))

pub map-is : (m t : Ty) → map_item m ≡ Some t → m ≡ ty.Map t
map-is m t h = sym (roll-out-Ty m) ∙ ap roll-Ty (map-layer (out-Ty m) t h) ∙ ty.rolls-Map t

int-no_list : list_item ty.Int ≡ None
int-no_list = ap list_item_at ty.outs-Int

-- behind a text all is joined as texts
text-sum : (b : Ty) → sum_of ty.Text b ≡ sums.Texts
text-sum b =
    ap (sum_by ty.Text b) (ap list_item_at ty.outs-Text)
    ∙ ap (λ (x : Bool). if x && same_ty b ty.Int then sums.Numbers else sums.Texts) (same_ty-Text ty.Int ∙ ap (same_at Ty-F.Text) ty.outs-Int)

-- a sum's type and kind, by the tests
abbrev ty_by : Ty → Bool → Bool → Bool → Bool → Bool → Ty
ty_by a x k j n w = if x then ty.Text else (if not k then ty.Void else (if j then a else (if n then ty.Int else (if w then ty.Text else ty.Void))))

both : (a b : Bool) → (a && b) ≡ true → (a ≡ true) × (b ≡ true)
both true b h = (refl, h)
both false b h = absurd (search (rules, h))

module _ (a b : Ty) (ka : is_known a ≡ true) (kb : is_known b ≡ true) (known : is_known (sum_ty a b) ≡ true) where
  abbrev is : (x j n w : Bool) → same_ty a ty.Text ≡ x → joins a b (list_item a) ≡ j → (same_ty a ty.Int && same_ty b ty.Int) ≡ n → same_ty b ty.Text ≡ w → Type 0
  is x j n w p q r s = sum_ty a b ≡ ty_by a x true j n w

  by_tests : (x j n w : Bool) → same_ty a ty.Text ≡ x → joins a b (list_item a) ≡ j → (same_ty a ty.Int && same_ty b ty.Int) ≡ n → same_ty b ty.Text ≡ w → sum_ty a b ≡ ty_by a x true j n w
  by_tests x j n w p q r s = rw (p, ka, kb, q, r, s) refl

  text_last : (n w : Bool) → (sum_ty a b ≡ ty_by a false true false false w) → same_ty b ty.Text ≡ w → sum_ty a b ≡ ty.Text
  text_last n true e s = e
  text_last n false e s = absurd (search (rules, sym void-unknown ∙ ap is_known (sym e) ∙ known))

  plain : (n : Bool) → same_ty a ty.Text ≡ false → joins a b (list_item a) ≡ false → (same_ty a ty.Int && same_ty b ty.Int) ≡ n → SumFits (if n then sums.Numbers else sums.Texts) a b
  plain true p q r =
      let parts : (same_ty a ty.Int ≡ true) × (same_ty b ty.Int ≡ true) = both (same_ty a ty.Int) (same_ty b ty.Int) r in
      (same_ty-true a ty.Int parts.0, same_ty-true b ty.Int parts.1, by_tests false false true (same_ty b ty.Text) p q r refl)
  plain false p q r = text_last false (same_ty b ty.Text) (by_tests false false false (same_ty b ty.Text) p q r refl) refl

  -- a list isn't a number
  no_number : (n : Bool) (t : Ty) → list_item a ≡ Some t → (same_ty a ty.Int && same_ty b ty.Int) ≡ n → n ≡ false
  no_number false t h r = refl
  no_number true t h r =
      let parts : (same_ty a ty.Int ≡ true) × (same_ty b ty.Int ≡ true) = both (same_ty a ty.Int) (same_ty b ty.Int) r in
      absurd (search (rules, sym int-no_list ∙ ap list_item (sym (same_ty-true a ty.Int parts.0)) ∙ h))

  listed : (t : Ty) (s1 s2 : Bool) → same_ty a ty.Text ≡ false → list_item a ≡ Some t → same_ty t b ≡ s1 → same_ty a b ≡ s2 → SumFits (if s1 then sums.ItemAdded else (if s2 then sums.ListsJoined else sums.Texts)) a b
  listed t true s2 p h e1 e2 =
      let joined : joins a b (list_item a) ≡ true = ap (joins a b) h ∙ ap (λ (x : Bool). x || same_ty a b) e1 in
      (h ∙ ap (λ (x : Ty). Some x) (same_ty-true t b e1), by_tests false true (same_ty a ty.Int && same_ty b ty.Int) (same_ty b ty.Text) p joined refl refl)
  listed t false true p h e1 e2 =
      let joined : joins a b (list_item a) ≡ true = ap (joins a b) h ∙ ap₂ (λ (x y : Bool). x || y) e1 e2 in
      (same_ty-true a b e2, (t, h), by_tests false true (same_ty a ty.Int && same_ty b ty.Int) (same_ty b ty.Text) p joined refl refl)
  listed t false false p h e1 e2 =
      let joined : joins a b (list_item a) ≡ false = ap (joins a b) h ∙ ap₂ (λ (x y : Bool). x || y) e1 e2 in
      let n : (same_ty a ty.Int && same_ty b ty.Int) ≡ false = no_number (same_ty a ty.Int && same_ty b ty.Int) t h refl in
      text_last false (same_ty b ty.Text) (by_tests false false false (same_ty b ty.Text) p joined n refl) refl

  behind : (o : Option Ty) → same_ty a ty.Text ≡ false → list_item a ≡ o → SumFits (sum_by a b o) a b
  behind None p h = plain (same_ty a ty.Int && same_ty b ty.Int) p (ap (joins a b) h) refl
  behind (Some t) p h = listed t (same_ty t b) (same_ty a b) p h refl refl

  whole : (x : Bool) → same_ty a ty.Text ≡ x → SumFits (sum_by a b (list_item a)) a b
  whole true p =
      let is_text : ty.Text ≡ a = sym (same_ty-true a ty.Text p) in
      let kind : sum_of a b ≡ sums.Texts = subst (λ (x : Ty). sum_of x b ≡ sums.Texts) is_text (text-sum b) in
      subst (λ (s : Sum). SumFits s a b) (sym kind) (by_tests true (joins a b (list_item a)) (same_ty a ty.Int && same_ty b ty.Int) (same_ty b ty.Text) p refl refl refl)
  whole false p = behind (list_item a) p refl

  pub sum-fits : SumFits (sum_of a b) a b
  sum-fits = whole (same_ty a ty.Text) refl
