-- Written types are read, both ways.
use Rattle.std.proofs.Common.{◌≡◌, ◌≢◌, ℕ, zero, suc, ◌+◌, ◌-◌, ◌≤◌, Bool, true, false, List, [], ◌∷◌, ◌++◌, Option, Some, None, refl, sym, ap, ◌∙◌, subst, arith, true≢false}
use Rattle.bds_value.specs.declared.value.Ty.{Ty}
use Rattle.bds_value.specs.declared.value.Ty.TheVariants as ty
use Rattle.bds_value.proofs.Folds.{ty_fold-Bool, ty_fold-Int, ty_fold-Text, ty_fold-List, ty_fold-Map, ty_fold-Void}
use Rattle.bds_value.proofs.Induction.{ty_induction}
use Rattle.bds_value.specs.Fields.{solid_step, is_solid, nesting_step, nesting}
use Rattle.bds_tree.specs.declared.token.Word.{Word}
use Rattle.bds_tree.specs.declared.token.Word.TheVariants as w
use Rattle.bds_tree.specs.declared.token.Token.{Token}
use Rattle.bds_tree.specs.Spelling.{sign}
use Rattle.bds_tree.specs.StmtShape.{over_type}
use Rattle.bds_tree.specs.StmtSpelling.{type_step, spell_type}
use Rattle.bds_parse_expr.specs.Spells.{token, Sign}
use Rattle.bds_parse_expr.proofs.Steps.{bind_some}
use Rattle.bds_parse_expr.proofs.Sound.{bind_ok, some_same, sign_at}
use Rattle.bds_parse_stmt_parts.specs.declared.types.Wrapper.{Wrapper}
use Rattle.bds_parse_stmt_parts.specs.declared.types.Wrapper.TheVariants as wrapper
use Rattle.bds_parse_stmt_parts.specs.Types.{wrap, wrapper_of, wrapper_at, wrap_step, wrapped, plain_type, type_below, type_at}
use Rattle.bds_parse_stmt_parts.proofs.Fronting.{Spelled, join, cut, one, one_is}

open_word : Wrapper → Word
open_word wrapper.List = w.OpenSquare
open_word wrapper.Map = w.OpenValue

close_word : Wrapper → Word
close_word wrapper.List = w.CloseSquare
close_word wrapper.Map = w.CloseValue

wrap_written : (k : Wrapper) (t : Ty) → is_solid (wrap k t) ≡ is_solid t
wrap_written wrapper.List t = ty_fold-List solid_step t
wrap_written wrapper.Map t = ty_fold-Map solid_step t

wrap_height : (k : Wrapper) (t : Ty) → nesting (wrap k t) ≡ nesting t + 1
wrap_height wrapper.List t = ty_fold-List nesting_step t
wrap_height wrapper.Map t = ty_fold-Map nesting_step t

wrap_spelled : (k : Wrapper) (t : Ty) → spell_type (wrap k t) ≡ spell_type t ++ (sign (open_word k) ++ sign (close_word k))
unfolding open_word close_word
wrap_spelled wrapper.List t = ty_fold-List type_step t
wrap_spelled wrapper.Map t = ty_fold-Map type_step t

wrapper_is : (a b : Word) (k : Wrapper) → wrapper_of a b ≡ Some k → (a ≡ open_word k) × (b ≡ close_word k)
unfolding open_word close_word
wrapper_is w.OpenSquare w.CloseSquare k e = let f : wrapper.List ≡ k = cc in (ap open_word f, ap close_word f)
wrapper_is w.OpenValue w.CloseValue k e = let f : wrapper.Map ≡ k = cc in (ap open_word f, ap close_word f)
wrapper_is _ _ k e = cc

wrapper_sound : (ts : List Token) (x : Wrapper × List Token) → wrapper_at ts ≡ Some x → (mid : List Token) × Sign (open_word x.0) ts mid × Sign (close_word x.0) mid x.1
wrapper_sound [] x e = cc
wrapper_sound (t ∷ []) x e = cc
wrapper_sound (t ∷ u ∷ ts) x e =
    let p = bind_ok _ _ _ e in
    let is = wrapper_is t.word u.word p.0 p.1 in
    let same : (p.0, ts) ≡ x = some_same _ _ p.2 in
    subst (λ (y : Wrapper × List Token). (mid : List Token) × Sign (open_word y.0) (t ∷ u ∷ ts) mid × Sign (close_word y.0) mid y.1) same
    (u ∷ ts, sign_at (open_word p.0) t (u ∷ ts) is.0, sign_at (close_word p.0) u ts is.1)

wrapper_finds : (k : Wrapper) (ts mid rest : List Token) → Sign (open_word k) ts mid → Sign (close_word k) mid rest → wrapper_at ts ≡ Some (k, rest)
unfolding open_word close_word
wrapper_finds wrapper.List ts mid rest f g = ap wrapper_at (f.1 ∙ ap (λ u. token f.0 w.OpenSquare ∷ u) g.1)
wrapper_finds wrapper.Map ts mid rest f g = ap wrapper_at (f.1 ∙ ap (λ u. token f.0 w.OpenValue ∷ u) g.1)

no_wrapper : (n : List ℕ) (ts rest : List Token) → Sign (w.Name n) ts rest → wrapper_at ts ≡ None
no_wrapper n ts [] f = ap wrapper_at f.1
no_wrapper n ts (u ∷ us) f = ap wrapper_at f.1

pub record IsType (most : ℕ) (t : Ty) (ts rest : List Token) : Type 0 where
  pub written : is_solid t ≡ true
  pub spelled : Spelled (spell_type t) ts rest
  pub low : over_type t ≤ most

by_wrapper : (k : Wrapper) (t : Ty) (ts mid rest : List Token) → Spelled (spell_type t) ts mid → ((a : List Token) × Sign (open_word k) mid a × Sign (close_word k) a rest) → Spelled (spell_type (wrap k t)) ts rest
by_wrapper k t ts mid rest f g = subst (λ ms. Spelled ms ts rest) (sym (wrap_spelled k t)) (join f (join (one g.1) (one g.2)))

wrapped_sound : (room : ℕ) (t : Ty) (ts us : List Token) (x : Ty × List Token) → is_solid t ≡ true → Spelled (spell_type t) ts us → wrapped room t us ≡ Some x → IsType (nesting t + room + 1) x.0 ts x.1
unfolding wrapped
wrapped_sound zero t ts us x wr sp e = go (wrapper_at us) e
  where
    go : (o : Option (Wrapper × List Token)) → wrap_step (λ u v. None) t us o ≡ Some x → IsType (nesting t + zero + 1) x.0 ts x.1
    go None g = subst (λ (y : Ty × List Token). IsType (nesting t + zero + 1) y.0 ts y.1) (some_same _ _ g) (record { written = wr; spelled = sp; low = omega arith })
    go (Some k) g = cc
wrapped_sound (suc room) t ts us x wr sp e =
    go (wrapper_at us) refl e (λ k f g.
    let inner = wrapped_sound room (wrap k.0 t) ts k.1 x (wrap_written k.0 t ∙ wr) (by_wrapper k.0 t ts us k.1 sp (wrapper_sound us k f)) g in
    record { written = inner.written; spelled = inner.spelled; low = omega (arith, inner.low, wrap_height k.0 t) })
  where
    go : (o : Option (Wrapper × List Token)) → wrapper_at us ≡ o → wrap_step (wrapped room) t us o ≡ Some x →
        ((k : Wrapper × List Token) → wrapper_at us ≡ Some k → wrapped room (wrap k.0 t) k.1 ≡ Some x → IsType (nesting t + suc room + 1) x.0 ts x.1) → IsType (nesting t + suc room + 1) x.0 ts x.1
    go None f g h = subst (λ (y : Ty × List Token). IsType (nesting t + suc room + 1) y.0 ts y.1) (some_same _ _ g) (record { written = wr; spelled = sp; low = omega arith })
    go (Some k) f g h = h k f g

plain_sound : (word : Word) (t : Ty) → plain_type word ≡ Some t → (is_solid t ≡ true) × (spell_type t ≡ sign word) × (nesting t ≡ 0)
plain_sound w.Bool t e = let f : ty.Bool ≡ t = cc in subst (λ (u : Ty). (is_solid u ≡ true) × (spell_type u ≡ sign w.Bool) × (nesting u ≡ 0)) f (ty_fold-Bool solid_step, ty_fold-Bool type_step, ty_fold-Bool nesting_step)
plain_sound w.Int t e = let f : ty.Int ≡ t = cc in subst (λ (u : Ty). (is_solid u ≡ true) × (spell_type u ≡ sign w.Int) × (nesting u ≡ 0)) f (ty_fold-Int solid_step, ty_fold-Int type_step, ty_fold-Int nesting_step)
plain_sound w.String t e = let f : ty.Text ≡ t = cc in subst (λ (u : Ty). (is_solid u ≡ true) × (spell_type u ≡ sign w.String) × (nesting u ≡ 0)) f (ty_fold-Text solid_step, ty_fold-Text type_step, ty_fold-Text nesting_step)
plain_sound _ t e = cc

below_sound : (most : ℕ) (t : Ty) (ts us : List Token) (x : Ty × List Token) → is_solid t ≡ true → Spelled (spell_type t) ts us → nesting t ≡ 0 → type_below most t us ≡ Some x → IsType most x.0 ts x.1
below_sound zero t ts us x wr sp h e = cc
below_sound (suc room) t ts us x wr sp h e =
    let r = wrapped_sound room t ts us x wr sp e in
    record { written = r.written; spelled = r.spelled; low = omega (arith, r.low) }

pub type_sound : (most : ℕ) (ts : List Token) (x : Ty × List Token) → type_at most ts ≡ Some x → IsType most x.0 ts x.1
type_sound most [] x e = cc
type_sound most (t ∷ ts) x e =
    let p = bind_ok _ _ _ e in
    let f = plain_sound t.word p.0 p.1 in
    below_sound most p.0 (t ∷ ts) ts x f.0 (subst (λ ms. Spelled ms (t ∷ ts) ts) (sym f.1) (one (sign_at t.word t ts refl))) f.2 p.2

-- reading comes by the type, and goes on from there
abbrev Comes : Ty → Type 0
Comes t = (room : ℕ) (ts us : List Token) → is_solid t ≡ true → Spelled (spell_type t) ts us → type_at (suc (nesting t + room)) ts ≡ wrapped room t us

comes_plain : (word : Word) (t : Ty) → plain_type word ≡ Some t → Comes t
comes_plain word t e room ts us wr sp =
    let f = plain_sound word t e in
    let s = one_is word (subst (λ ms. Spelled ms ts us) f.1 sp) in
    let same : nesting t + room ≡ room = omega (arith, f.2) in
    ap (type_at (suc (nesting t + room))) s.1 ∙ bind_some _ t _ _ e (ap (λ r. wrapped r t us) same)

comes_wrap : (k : Wrapper) (t : Ty) → Comes t → Comes (wrap k t)
unfolding wrapped
comes_wrap k t c room ts us wr sp =
    let p = cut (spell_type t) (sign (open_word k) ++ sign (close_word k)) (subst (λ ms. Spelled ms ts us) (wrap_spelled k t) sp) in
    let q = cut (sign (open_word k)) (sign (close_word k)) p.back in
    let at = wrapper_finds k p.mid q.mid us (one_is (open_word k) q.front) (one_is (close_word k) q.back) in
    let same : suc (nesting (wrap k t) + room) ≡ suc (nesting t + suc room) = omega (arith, wrap_height k t) in
    ap (λ m. type_at m ts) same ∙ c (suc room) ts p.mid (sym (wrap_written k t) ∙ wr) p.front ∙ ap (wrap_step (wrapped room) t p.mid) at

comes_void : Comes ty.Void
comes_void room ts us wr sp = absurd (true≢false (sym wr ∙ ty_fold-Void solid_step))

comes : (t : Ty) → Comes t
comes = ty_induction Comes (comes_plain w.Bool ty.Bool refl) (comes_plain w.Int ty.Int refl) (comes_plain w.String ty.Text refl) (comes_wrap wrapper.List) (comes_wrap wrapper.Map) comes_void

pub stays : (room : ℕ) (t : Ty) (us : List Token) → wrapper_at us ≡ None → wrapped room t us ≡ Some (t, us)
unfolding wrapped
stays zero t us e = ap (wrap_step (λ u v. None) t us) e
stays (suc room) t us e = ap (wrap_step (wrapped room) t us) e

pub type_finds : (t : Ty) (most : ℕ) (n : List ℕ) (ts us rest : List Token) → is_solid t ≡ true → Spelled (spell_type t) ts us → over_type t ≤ most → Sign (w.Name n) us rest → type_at most ts ≡ Some (t, us)
type_finds t most n ts us rest wr sp hi name = go (room_of most hi)
  where
    room_of : (m : ℕ) → nesting t + 1 ≤ m → (room : ℕ) × (m ≡ suc (nesting t + room))
    room_of m h = (m - suc (nesting t), omega arith)

    go : (r : (room : ℕ) × (most ≡ suc (nesting t + room))) → type_at most ts ≡ Some (t, us)
    go r = ap (λ m. type_at m ts) r.1 ∙ comes t r.0 ts us wr sp ∙ stays r.0 t us (no_wrapper n us rest name)

-- what is read with little room is read with more
wrapped_more : (room : ℕ) (t : Ty) (us : List Token) (x : Ty × List Token) → wrapped room t us ≡ Some x → wrapped (suc room) t us ≡ Some x
unfolding wrapped
wrapped_more zero t us x e = go (wrapper_at us) e
  where
    go : (o : Option (Wrapper × List Token)) → wrap_step (λ u v. None) t us o ≡ Some x → wrap_step (wrapped zero) t us o ≡ Some x
    go None g = g
    go (Some k) g = cc
wrapped_more (suc room) t us x e = go (wrapper_at us) e (λ k g. wrapped_more room (wrap k.0 t) k.1 x g)
  where
    go : (o : Option (Wrapper × List Token)) → wrap_step (wrapped room) t us o ≡ Some x → ((k : Wrapper × List Token) → wrapped room (wrap k.0 t) k.1 ≡ Some x → wrapped (suc room) (wrap k.0 t) k.1 ≡ Some x) → wrap_step (wrapped (suc room)) t us o ≡ Some x
    go None g h = g
    go (Some k) g h = h k g

below_more : (most : ℕ) (t : Ty) (us : List Token) (x : Ty × List Token) → type_below most t us ≡ Some x → type_below (suc most) t us ≡ Some x
below_more zero t us x e = cc
below_more (suc room) t us x e = wrapped_more room t us x e

pub type_more : (most : ℕ) (ts : List Token) (x : Ty × List Token) → type_at most ts ≡ Some x → type_at (suc most) ts ≡ Some x
type_more most [] x e = cc
type_more most (t ∷ ts) x e = let p = bind_ok (plain_type t.word) (λ u. type_below most u ts) x e in bind_some (plain_type t.word) p.0 (λ u. type_below (suc most) u ts) (Some x) p.1 (below_more most p.0 ts x p.2)

pub no_room : (room : ℕ) (t : Ty) (ts : List Token) (k : Wrapper × List Token) → room ≡ 0 → wrapper_at ts ≡ Some k → wrapped room t ts ≡ None
unfolding wrapped
no_room zero t ts k z e = ap (wrap_step (λ u us. None) t ts) e
no_room (suc room) t ts k z e = absurd (omega arith)

pub goes_on : (room : ℕ) (t : Ty) (ts : List Token) (k : Wrapper × List Token) (u : Ty) → 1 ≤ room → wrapper_at ts ≡ Some k → u ≡ wrap k.0 t → wrapped room t ts ≡ wrapped (room - 1) u k.1
unfolding wrapped
goes_on zero t ts k u h e is = absurd (omega arith)
goes_on (suc room) t ts k u h e is =
    let same : suc room - 1 ≡ room = omega arith in
    ap (wrap_step (wrapped room) t ts) e ∙ ap (λ v. wrapped room v k.1) (sym is) ∙ ap (λ m. wrapped m u k.1) (sym same)
