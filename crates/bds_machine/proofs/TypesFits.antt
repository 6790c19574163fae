-- What the types of the operands are where a row accepts them.
use Rattle.std.proofs.Common.{◌≡◌, ℕ, zero, suc, List, [], ◌∷◌, ◌++◌, Bool, true, false, cond, Option, Some, None, Result, Ok, Err, refl, sym, ap, ◌∙◌, subst}
use Rattle.std.specs.Bool.{IsTrue}
use Rattle.std.specs.Option.{ok_or}
use Rattle.bds_value.specs.declared.value.Ty.{Ty, out-Ty, roll-Ty, roll-out-Ty}
use Rattle.bds_value.specs.declared.value.Ty.TheVariants as ty
use Rattle.bds_value.specs.declared.value.Ty.TheOpen.{Ty-F}
use Rattle.bds_value.specs.Fields.{IsValueTy, is_solid, solid_step}
use Rattle.bds_value.proofs.Folds.{ty_fold-Void}
use Rattle.bds_value.specs.Types.{is_void, is_void_at, same_ty}
use Rattle.bds_value.proofs.TypeLaws.{same_ty-true}
use Rattle.bds_value.specs.Results.{◌>>=◌}
use Rattle.bds_code.specs.declared.effects.EffectFault.{EffectFault}
use Rattle.bds_code.specs.declared.effects.EffectFault.TheVariants.{Needs}
use Rattle.bds_code.specs.Operands.{there, provided, any_taken, taken, all_taken, item_at, item_of, entry_at, entry_of, given, giving, swapped, pair_taken, pairs_taken}

pub bind_ok : {A B : Type 0} (r : Result A EffectFault) (go : A → Result B EffectFault) (y : B) → (r >>= go) ≡ Ok y → (x : A) × (r ≡ Ok x) × (go x ≡ Ok y)
bind_ok (Ok x) go y h = (x, refl, h)
bind_ok (Err e) go y h = absurd (cc)

pub there-ok : {X : Type 0} (o : Option X) (n : ℕ) (x : X) → there o n ≡ Ok x → o ≡ Some x
there-ok None n x h = absurd (cc)
there-ok (Some y) n x h = let e : y ≡ x = cc in ap Some e

pub wanted-ok : {X : Type 0} (o : Option X) (x : X) → ok_or o Needs ≡ Ok x → o ≡ Some x
wanted-ok None x h = absurd (cc)
wanted-ok (Some y) x h = let e : y ≡ x = cc in ap Some e

pub provided-ok : {X : Type 0} (b : Bool) (x y : X) → provided b x ≡ Ok y → (b ≡ true) × (x ≡ y)
provided-ok true x y h = (refl, cc)
provided-ok false x y h = absurd (cc)

-- below a first type
pub below_first : (t : Ty) (s xs ys : List Ty) → s ≡ t ∷ xs → xs ≡ ys → s ≡ t ∷ ys
below_first t s xs ys e d = e ∙ ap (λ zs. t ∷ zs) d

any_ok : (b : Bool) (t : Ty) (ts : List Ty) (r : Ty × List Ty) → cond b (Err Needs) (Ok (t, ts)) ≡ Ok r → (t, ts) ≡ r
any_ok false t ts r h = cc
any_ok true t ts r h = absurd (cc)

pub any-ok : (s : List Ty) (r : Ty × List Ty) → any_taken s ≡ Ok r → s ≡ r.0 ∷ r.1
any-ok [] r h = absurd (cc)
any-ok (t ∷ ts) r h = ap (λ (p : Ty × List Ty). p.0 ∷ p.1) (any_ok (is_void t) t ts r h)

pub taken-ok : (t : Ty) (s rest : List Ty) → taken t s ≡ Ok rest → s ≡ t ∷ rest
taken-ok t s rest h =
    let first = bind_ok (any_taken s) (λ r. provided (same_ty t r.0) r.1) rest h in
    let same = provided-ok (same_ty t first.0.0) first.0.1 rest first.2 in
    any-ok s first.0 first.1 ∙ ap (λ x. x ∷ first.0.1) (sym (same_ty-true t first.0.0 same.0)) ∙ ap (λ xs. t ∷ xs) same.1

pub all_taken-ok : (ts s rest : List Ty) → all_taken ts s ≡ Ok rest → s ≡ ts ++ rest
all_taken-ok [] s rest h = let e : s ≡ rest = cc in e
all_taken-ok (t ∷ ts) s rest h =
    let first = bind_ok (taken t s) (all_taken ts) rest h in
    taken-ok t s first.0 first.1 ∙ ap (λ r. t ∷ r) (all_taken-ok ts first.0 rest first.2)

pub giving-ok : (t : Ty) (s next : List Ty) → giving t s ≡ Ok next → next ≡ given t ++ s
giving-ok t s next h = cc

pub swapped-ok : (ts : List Ty) (t : Ty) (s next : List Ty) → swapped ts t s ≡ Ok next → (rest : List Ty) × (s ≡ ts ++ rest) × (next ≡ given t ++ rest)
swapped-ok ts t s next h =
    let first = bind_ok (all_taken ts s) (giving t) next h in
    (first.0, all_taken-ok ts s first.0 first.1, giving-ok t first.0 next first.2)

value_ok : (b : Bool) (x t : Ty) → cond b (Err Needs) (Ok x) ≡ Ok t → x ≡ t
value_ok false x t h = cc
value_ok true x t h = absurd (cc)

-- a type by its kind
pub rolled : (t : Ty) (y : Ty-F Ty) → out-Ty t ≡ y → t ≡ roll-Ty y
rolled t y e = sym (roll-out-Ty t) ∙ ap roll-Ty e

item_at-ok : (y : Ty-F Ty) (t : Ty) → item_at y ≡ Ok t → y ≡ Ty-F.List t
item_at-ok (Ty-F.List x) t h = ap Ty-F.List (value_ok (is_void x) x t h)
item_at-ok Ty-F.Bool t h = absurd (cc)
item_at-ok Ty-F.Int t h = absurd (cc)
item_at-ok Ty-F.Text t h = absurd (cc)
item_at-ok (Ty-F.Map x) t h = absurd (cc)
item_at-ok Ty-F.Void t h = absurd (cc)

pub item-ok : (l t : Ty) → item_of l ≡ Ok t → l ≡ ty.List t
item-ok l t h = rolled l (Ty-F.List t) (item_at-ok (out-Ty l) t h) ∙ ty.rolls-List t

entry_at-ok : (y : Ty-F Ty) (t : Ty) → entry_at y ≡ Ok t → y ≡ Ty-F.Map t
entry_at-ok (Ty-F.Map x) t h = ap Ty-F.Map (value_ok (is_void x) x t h)
entry_at-ok Ty-F.Bool t h = absurd (cc)
entry_at-ok Ty-F.Int t h = absurd (cc)
entry_at-ok Ty-F.Text t h = absurd (cc)
entry_at-ok (Ty-F.List x) t h = absurd (cc)
entry_at-ok Ty-F.Void t h = absurd (cc)

pub entry-ok : (m t : Ty) → entry_of m ≡ Ok t → m ≡ ty.Map t
entry-ok m t h = rolled m (Ty-F.Map t) (entry_at-ok (out-Ty m) t h) ∙ ty.rolls-Map t

-- a value and a key of each of so many pairs, the last first
abbrev pub pair_tys : ℕ → Ty → List Ty
pair_tys zero t = []
pair_tys (suc n) t = t ∷ ty.Text ∷ pair_tys n t

pub pairs_taken-ok : (n : ℕ) (t : Ty) (s rest : List Ty) → pairs_taken n t s ≡ Ok rest → s ≡ pair_tys n t ++ rest
pairs_taken-ok zero t s rest h = let e : s ≡ rest = cc in e
pairs_taken-ok (suc n) t s rest h =
    let first = bind_ok (pair_taken t s) (pairs_taken n t) rest h in
    let inner = bind_ok (taken t s) (taken ty.Text) first.0 first.1 in
    taken-ok t s inner.0 inner.1 ∙ ap (λ r. t ∷ r) (taken-ok ty.Text inner.0 first.0 inner.2 ∙ ap (λ r. ty.Text ∷ r) (pairs_taken-ok n t first.0 rest first.2))

is_void-ok : (y : Ty-F Ty) → is_void_at y ≡ true → y ≡ Ty-F.Void
is_void-ok Ty-F.Void h = refl
is_void-ok Ty-F.Bool h = absurd (cc)
is_void-ok Ty-F.Int h = absurd (cc)
is_void-ok Ty-F.Text h = absurd (cc)
is_void-ok (Ty-F.List t) h = absurd (cc)
is_void-ok (Ty-F.Map t) h = absurd (cc)

pub void-is : (t : Ty) → is_void t ≡ true → t ≡ ty.Void
void-is t h = rolled t Ty-F.Void (is_void-ok (out-Ty t) h) ∙ ty.rolls-Void

-- a type of values isn't Void
pub value-not_void : (t : Ty) → IsValueTy t → is_void t ≡ false
value-not_void t h = from (is_void t) refl
  where
    from : (b : Bool) → is_void t ≡ b → is_void t ≡ false
    from false e = e
    from true e =
        let solid : IsTrue (is_solid ty.Void) = subst (λ x. IsTrue (is_solid x)) (void-is t e) h.1 in
        let no : false ≡ true = rw (ty_fold-Void solid_step) at solid in
        absurd (cc)

pub given-value : (t : Ty) → IsValueTy t → given t ≡ t ∷ []
given-value t h = ap (λ b. cond b [] (t ∷ [])) (value-not_void t h)
