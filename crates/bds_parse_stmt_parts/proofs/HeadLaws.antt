-- How lines begin is read, both ways.
use Rattle.std.proofs.Common.{◌≡◌, ◌≢◌, ℕ, ◌+◌, ◌≤◌, Bool, true, false, List, [], ◌∷◌, ◌++◌, Some, None, refl, sym, ap, ◌∙◌, subst, arith, true≢false, ◌⊎◌, ⊎_elim, inl, inr}
use Rattle.std.specs.Prelude.{⊤}
use Rattle.bds_value.specs.declared.value.Ty.{Ty}
use Rattle.bds_value.specs.Fields.{is_solid}
use Rattle.bds_tree.specs.declared.token.Word.{Word}
use Rattle.bds_tree.specs.declared.token.Word.TheVariants as w
use Rattle.bds_tree.specs.declared.token.Token.{Token}
use Rattle.bds_tree.specs.declared.stmt.StepOp.{StepOp}
use Rattle.bds_tree.specs.declared.stmt.StepOp.TheVariants as step_op
use Rattle.bds_tree.specs.Tree.{Tree}
use Rattle.bds_tree.specs.Shape.{Shaped}
use Rattle.bds_tree.specs.Spelling.{Mark, any, sign, begins, spell}
use Rattle.bds_tree.specs.StmtTree.{SuffixTree, PlaceTree, step_after, step_before}
use Rattle.bds_tree.specs.StmtShape.{IsPlaceShaped, IsStepShaped, is_call, over, over_type, over_place, over_step}
use Rattle.bds_tree.specs.StmtSpelling.{spell_type, spell_name, spell_suffixes, spell_place, spell_step_op, spell_step, spell_update_op}
use Rattle.bds_parse_expr.specs.Spells.{token, Sign}
use Rattle.bds_parse_expr.specs.Reading.{Read, ahead, strength, first_of, begins_none}
use Rattle.bds_parse_expr.proofs.Steps.{bind_some, if_true, begins as expr_begins}
use Rattle.bds_parse_expr.proofs.Sound.{bind_ok, some_same, sign_at, chosen}
use Rattle.bds_parse_stmt_parts.specs.declared.words.HeadKind.{HeadKind}
use Rattle.bds_parse_stmt_parts.specs.declared.words.HeadKind.TheVariants as kind
use Rattle.bds_parse_stmt_parts.specs.declared.words.PlaceSign.{PlaceSign}
use Rattle.bds_parse_stmt_parts.specs.declared.words.PlaceSign.TheVariants as sig
use Rattle.bds_parse_stmt_parts.specs.Words.{head_kind, place_sign, nothing_ahead, is_stop}
use Rattle.bds_parse_stmt_parts.specs.Types.{plain_type, type_at}
use Rattle.bds_parse_stmt_parts.specs.Heads.{HeadTree, declares, infers, assigns, updates, steps, calls}
use Rattle.bds_parse_stmt_parts.specs.Reading.{suffix_by, next_suffix, infer_by, placed_by, sign_behind, placed, called, or_else, named, declared, head_by, head}
use Rattle.bds_parse_stmt_parts.proofs.Fronting.{Spelled, join, cut, one, one_is, unbegun, expr_of}
use Rattle.bds_parse_stmt_parts.proofs.SignLaws.{sign_name, expr_sound, expr_finds, none_of, stop_ahead, expr_there, place_stops, update_word, update_spelled, update_sign, update_is, step_word, step_spelled, step_sign, step_is, infer_is, assign_is, name_finds}
use Rattle.bds_parse_stmt_parts.proofs.TypeLaws.{type_sound, type_finds}
use Rattle.bds_parse_stmt_parts.proofs.PlaceLaws.{IsPlace, place_sound, place_finds, place_name_at, no_call, bare, bare_spelled}

abbrev pub IsHeadShaped : HeadTree → Type 0
IsHeadShaped (declares t n) = is_solid t ≡ true
IsHeadShaped (infers n) = ⊤
IsHeadShaped (assigns p) = IsPlaceShaped p
IsHeadShaped (updates p o) = IsPlaceShaped p
IsHeadShaped (steps x) = IsStepShaped x
IsHeadShaped (calls e) = (is_call e ≡ true) × Shaped e

abbrev pub spell_head : HeadTree → List Mark
spell_head (declares t n) = spell_type t ++ spell_name n
spell_head (infers n) = spell_name n ++ sign w.Declare
spell_head (assigns p) = spell_place p ++ sign w.Assign
spell_head (updates p o) = spell_place p ++ spell_update_op o
spell_head (steps x) = spell_step x
spell_head (calls e) = spell e

abbrev pub over_head : HeadTree → ℕ
over_head (declares t n) = over_type t
over_head (infers n) = 0
over_head (assigns p) = over_place p
over_head (updates p o) = over_place p
over_head (steps x) = over_step x
over_head (calls e) = over e

-- the whole line or part, where nothing may stand behind
abbrev pub EndsHead : HeadTree → List Token → Type 0
EndsHead (steps x) rest = nothing_ahead rest ≡ true
EndsHead (calls e) rest = nothing_ahead rest ≡ true
EndsHead _ rest = ⊤

pub record IsHead (most : ℕ) (h : HeadTree) (ts rest : List Token) : Type 0 where
  pub shaped : IsHeadShaped h
  pub spelled : Spelled (spell_head h) ts rest
  pub low : over_head h ≤ most

name_alone : (p : PlaceTree) (ts rest : List Token) → p.suffixes ≡ [] → Spelled (spell_place p) ts rest → Spelled (spell_name p.name) ts rest
name_alone p ts rest none sp =
    let e : spell_place p ≡ begins p.at.line (spell_name p.name) = ap (λ ss. begins p.at.line (spell_name p.name ++ spell_suffixes ss)) none in
    (unbegun p.at.line (spell_name p.name) (any (w.Name p.name), [], refl) (subst (λ ms. Spelled ms ts rest) e sp)).1

infer_sound : (n : List ℕ) (ss : List SuffixTree) (ts : List Token) (x : HeadTree × List Token) → infer_by n ss ts ≡ Some x → (ss ≡ []) × ((infers n, ts) ≡ x)
infer_sound n [] ts x e = (refl, some_same _ _ e)
infer_sound n (y ∷ ss) ts x e = cc

placed_sound_by : (most : ℕ) (p : PlaceTree) (k : PlaceSign) (ts : List Token) (t : Token) (rest : List Token) (x : HeadTree × List Token) → IsPlace most p ts (t ∷ rest) → place_sign t.word ≡ k → placed_by p k rest ≡ Some x → IsHead most x.0 ts x.1
placed_sound_by most p sig.Infer ts t rest x is k e =
    let f = infer_sound p.name p.suffixes rest x e in
    subst (λ (y : HeadTree × List Token). IsHead most y.0 ts y.1) f.1
    (record { shaped = tt; spelled = join (name_alone p ts (t ∷ rest) f.0 is.spelled) (one (sign_at w.Declare t rest (infer_is t.word k))); low = omega arith })
placed_sound_by most p sig.Assign ts t rest x is k e =
    subst (λ (y : HeadTree × List Token). IsHead most y.0 ts y.1) (some_same _ _ e)
    (record { shaped = is.shaped; spelled = join is.spelled (one (sign_at w.Assign t rest (assign_is t.word k))); low = is.low })
placed_sound_by most p (sig.Update o) ts t rest x is k e =
    subst (λ (y : HeadTree × List Token). IsHead most y.0 ts y.1) (some_same _ _ e)
    (record { shaped = is.shaped; spelled = join is.spelled (subst (λ ms. Spelled ms (t ∷ rest) rest) (sym (update_spelled o)) (one (sign_at (update_word o) t rest (update_is t.word o k)))); low = is.low })
placed_sound_by most p (sig.Step o) ts t rest x is k e =
    subst (λ (y : HeadTree × List Token). IsHead most y.0 ts y.1) (some_same _ _ e)
    (record { shaped = is.shaped; spelled = join is.spelled (subst (λ ms. Spelled ms (t ∷ rest) rest) (sym (step_spelled o)) (one (sign_at (step_word o) t rest (step_is t.word o k)))); low = is.low })
placed_sound_by most p sig.Other ts t rest x is k e = cc

sign_sound : (most : ℕ) (p : PlaceTree) (ts mid : List Token) (x : HeadTree × List Token) → IsPlace most p ts mid → sign_behind p mid ≡ Some x → IsHead most x.0 ts x.1
sign_sound most p ts [] x is e = cc
sign_sound most p ts (t ∷ rest) x is e = placed_sound_by most p (place_sign t.word) ts t rest x is refl e

placed_sound : (most : ℕ) (ts : List Token) (x : HeadTree × List Token) → placed most ts ≡ Some x → IsHead most x.0 ts x.1
placed_sound most ts x e =
    let p = bind_ok _ _ _ e in
    sign_sound most p.0.0 ts p.0.1 x (place_sound most ts p.0 p.1) p.2

called_sound : (most : ℕ) (ts : List Token) (x : HeadTree × List Token) → called most ts ≡ Some x → IsHead most x.0 ts x.1
called_sound most ts x e =
    let p = bind_ok _ _ _ e in
    let f = expr_sound most ts p.0 p.1 in
    ⊎_elim
    (λ (q : (is_call p.0.0 ≡ true) × (Some (calls p.0.0, p.0.1) ≡ Some x)).
    let same : (calls p.0.0, p.0.1) ≡ x = some_same _ _ q.1 in
    subst (λ (y : HeadTree × List Token). IsHead most y.0 ts y.1) same (record { shaped = (q.0, f.shaped); spelled = f.spelled; low = f.low }))
    (λ (q : (is_call p.0.0 ≡ false) × (None ≡ Some x)). let r = q.1 in cc)
    (chosen _ _ _ _ p.2)

named_sound : (most : ℕ) (ts : List Token) (x : HeadTree × List Token) → named most ts ≡ Some x → IsHead most x.0 ts x.1
named_sound most ts x e = go (placed most ts) refl e
  where
    go : (r : Read HeadTree) → placed most ts ≡ r → or_else r (called most ts) ≡ Some x → IsHead most x.0 ts x.1
    go None f g = called_sound most ts x g
    go (Some y) f g = placed_sound most ts x (f ∙ g)

declared_sound : (most : ℕ) (ts : List Token) (x : HeadTree × List Token) → declared most ts ≡ Some x → IsHead most x.0 ts x.1
declared_sound most ts x e =
    let t = bind_ok _ _ _ e in
    let n = bind_ok _ _ _ t.2 in
    let f = type_sound most ts t.0 t.1 in
    let same : (declares t.0.0 n.0.0, n.0.1) ≡ x = some_same _ _ n.2 in
    subst (λ (y : HeadTree × List Token). IsHead most y.0 ts y.1) same
    (record { shaped = f.written; spelled = join f.spelled (one (sign_name t.0.1 n.0 n.1)); low = f.low })

step_kind : (word : Word) (o : StepOp) → head_kind word ≡ kind.Step o → word ≡ step_word o
step_kind w.Increment o e = let f : step_op.Increment ≡ o = cc in ap step_word f
step_kind w.Decrement o e = let f : step_op.Decrement ≡ o = cc in ap step_word f
step_kind _ o e = cc

kind_sound : (most : ℕ) (k : HeadKind) (t : Token) (ts : List Token) (x : HeadTree × List Token) → head_kind t.word ≡ k → head_by most k (t ∷ ts) ts ≡ Some x → IsHead most x.0 (t ∷ ts) x.1
kind_sound most kind.Type t ts x k e = declared_sound most (t ∷ ts) x e
kind_sound most (kind.Step o) t ts x k e =
    let p = bind_ok _ _ _ e in
    let f = place_sound most ts p.0 p.1 in
    let same : (steps (step_before o p.0.0), p.0.1) ≡ x = some_same _ _ p.2 in
    subst (λ (y : HeadTree × List Token). IsHead most y.0 (t ∷ ts) y.1) same
    (record { shaped = f.shaped; spelled = join (subst (λ ms. Spelled ms (t ∷ ts) ts) (sym (step_spelled o)) (one (sign_at (step_word o) t ts (step_kind t.word o k)))) f.spelled; low = f.low })
kind_sound most kind.Name t ts x k e = named_sound most (t ∷ ts) x e
kind_sound most kind.Other t ts x k e = called_sound most (t ∷ ts) x e

pub head_sound : (most : ℕ) (ts : List Token) (x : HeadTree × List Token) → head most ts ≡ Some x → IsHead most x.0 ts x.1
head_sound most [] x e = cc
head_sound most (t ∷ ts) x e = kind_sound most (head_kind t.word) t ts x refl e

-- the other way

ends_place : (most : ℕ) (word : Word) (ts rest : List Token) → place_sign word ≢ sig.Other → Sign word ts rest → next_suffix most ts ≡ Some None
ends_place most word ts rest h f = ap (next_suffix most) f.1 ∙ by_word word h
  where
    by_word : (u : Word) → place_sign u ≢ sig.Other → suffix_by most u rest ≡ Some None
    by_word w.OpenSquare h = absurd (h refl)
    by_word w.OpenValue h = absurd (h refl)
    by_word _ h = refl

nothing_ends : (most : ℕ) (ts : List Token) → nothing_ahead ts ≡ true → next_suffix most ts ≡ Some None
nothing_ends most [] e = refl
nothing_ends most (t ∷ ts) e = by_word t.word e
  where
    by_word : (u : Word) → is_stop u ≡ true → suffix_by most u ts ≡ Some None
    by_word w.OpenSquare e = cc
    by_word w.OpenValue e = cc
    by_word _ e = refl

-- what begins with a name is read so
by_name : (most : ℕ) (n : List ℕ) (ts rest : List Token) → Sign (w.Name n) ts rest → head most ts ≡ named most ts
by_name most n ts rest f = ap (head most) f.1 ∙ sym (ap (named most) f.1)

by_placed : (most : ℕ) (p : PlaceTree) (k : PlaceSign) (word : Word) (ts mid rest : List Token) (h : HeadTree) → IsPlaceShaped p → Spelled (spell_place p) ts mid → over_place p ≤ most →
    place_sign word ≡ k → k ≢ sig.Other → Sign word mid rest → placed_by p k rest ≡ Some (h, rest) → head most ts ≡ Some (h, rest)
by_placed most p k word ts mid rest h sh sp hi is ne s e =
    let n = place_name_at p ts mid sp in
    let there : placed most ts ≡ Some (h, rest) =
    bind_some _ (p, mid) _ _ (place_finds p most ts mid sh sp hi (ends_place most word mid rest (λ o. ne (sym is ∙ o)) s))
    (ap (sign_behind p) s.1 ∙ ap (λ j. placed_by p j rest) is ∙ e) in
    by_name most p.name ts n.0 n.1 ∙ ap (λ r. or_else r (called most ts)) there

head_infer : (most : ℕ) (n : List ℕ) (ts rest : List Token) → Spelled (spell_name n ++ sign w.Declare) ts rest → head most ts ≡ Some (infers n, rest)
head_infer most n ts rest sp =
    let c = cut (spell_name n) (sign w.Declare) sp in
    let s = one_is (w.Name n) c.front in
    by_placed most (bare n s.0) sig.Infer w.Declare ts c.mid rest (infers n) (refl, tt) (bare_spelled n ts c.mid s) (omega arith) refl (λ e. cc) (one_is w.Declare c.back) refl

-- a call isn't read as a place
not_placed : (most : ℕ) (e : Tree) (ts rest : List Token) → Shaped e → Spelled (spell e) ts rest → ahead rest ≡ 0 → is_call e ≡ true → placed most ts ≡ None
not_placed most e ts rest sh sp ah call = none_of _ (λ x r. let p = bind_ok _ _ _ r in against p.0.0 p.0.1 x (place_sound most ts p.0 p.1) p.2)
  where
    signed : (p : PlaceTree) (t : Token) (us : List Token) (k : PlaceSign) (x : HeadTree × List Token) → place_sign t.word ≡ k → placed_by p k us ≡ Some x → k ≢ sig.Other
    signed p t us sig.Infer x k e = λ o. cc
    signed p t us sig.Assign x k e = λ o. cc
    signed p t us (sig.Update o) x k e = λ f. cc
    signed p t us (sig.Step o) x k e = λ f. cc
    signed p t us sig.Other x k e = cc

    against : (p : PlaceTree) (mid : List Token) (x : HeadTree × List Token) → IsPlace most p ts mid → sign_behind p mid ≡ Some x → ⊥
    against p [] x is f = cc
    against p (t ∷ us) x is f =
        no_call p e ts (t ∷ us) rest is.shaped is.spelled (ap strength (place_stops t.word (signed p t us (place_sign t.word) x refl f))) sh sp ah call

call_kind : (word : Word) → first_of word ≢ begins_none → ((n : List ℕ) × (word ≡ w.Name n)) ⊎ (head_kind word ≡ kind.Other)
call_kind w.Bool h = absurd (h refl)
call_kind w.Int h = absurd (h refl)
call_kind w.String h = absurd (h refl)
call_kind w.Increment h = absurd (h refl)
call_kind w.Decrement h = absurd (h refl)
call_kind (w.Name n) h = inl (n, refl)
call_kind _ h = inr refl

head_call : (most : ℕ) (e : Tree) (ts rest : List Token) → is_call e ≡ true → Shaped e → Spelled (spell e) ts rest → over e ≤ most → nothing_ahead rest ≡ true → head most ts ≡ Some (calls e, rest)
head_call most e ts rest call sh sp hi end =
    let ah = stop_ahead rest end in
    let b = expr_begins e ts rest (expr_of e sp) in
    let read : called most ts ≡ Some (calls e, rest) = bind_some _ (e, rest) _ _ (expr_finds e most ts rest sh sp hi ah) (if_true _ _ _ _ call refl) in
    ⊎_elim
    (λ (n : (m : List ℕ) × (b.0.word ≡ w.Name m)).
    by_name most n.0 ts b.1 (b.0.line, b.2 ∙ ap (λ u. token b.0.line u ∷ b.1) n.1) ∙ ap (λ r. or_else r (called most ts)) (not_placed most e ts rest sh sp ah call) ∙ read)
    (λ (o : head_kind b.0.word ≡ kind.Other). ap (head most) b.2 ∙ ap (λ k. head_by most k (b.0 ∷ b.1) b.1) o ∙ sym (ap (called most) b.2) ∙ read)
    (call_kind b.0.word b.3)

type_kind : (word : Word) (t : Ty) → plain_type word ≡ Some t → head_kind word ≡ kind.Type
type_kind w.Bool t e = refl
type_kind w.Int t e = refl
type_kind w.String t e = refl
type_kind _ t e = cc

pub by_type : (most : ℕ) (ts : List Token) (x : Ty × List Token) → type_at most ts ≡ Some x → head most ts ≡ declared most ts
by_type most [] x e = cc
by_type most (t ∷ ts) x e = let p = bind_ok _ _ _ e in ap (λ k. head_by most k (t ∷ ts) ts) (type_kind t.word p.0 p.1)

step_head : (o : StepOp) → head_kind (step_word o) ≡ kind.Step o
step_head step_op.Increment = refl
step_head step_op.Decrement = refl

pub head_finds : (h : HeadTree) (most : ℕ) (ts rest : List Token) → IsHeadShaped h → Spelled (spell_head h) ts rest → over_head h ≤ most → EndsHead h rest → head most ts ≡ Some (h, rest)
head_finds (declares t n) most ts rest sh sp hi end =
    let c = cut (spell_type t) (spell_name n) sp in
    let s = one_is (w.Name n) c.back in
    let read = type_finds t most n ts c.mid rest sh c.front hi s in
    by_type most ts (t, c.mid) read ∙ bind_some _ (t, c.mid) _ _ read (bind_some _ (n, rest) _ _ (name_finds n c.mid rest s) refl)
head_finds (infers n) most ts rest sh sp hi end = head_infer most n ts rest sp
head_finds (assigns p) most ts rest sh sp hi end =
    let c = cut (spell_place p) (sign w.Assign) sp in
    by_placed most p sig.Assign w.Assign ts c.mid rest (assigns p) sh c.front hi refl (λ e. cc) (one_is w.Assign c.back) refl
head_finds (updates p o) most ts rest sh sp hi end =
    let c = cut (spell_place p) (spell_update_op o) sp in
    by_placed most p (sig.Update o) (update_word o) ts c.mid rest (updates p o) sh c.front hi (update_sign o) (λ e. cc) (one_is (update_word o) (subst (λ ms. Spelled ms c.mid rest) (update_spelled o) c.back)) refl
head_finds (steps (step_after p o)) most ts rest sh sp hi end =
    let c = cut (spell_place p) (spell_step_op o) sp in
    by_placed most p (sig.Step o) (step_word o) ts c.mid rest (steps (step_after p o)) sh c.front hi (step_sign o) (λ e. cc) (one_is (step_word o) (subst (λ ms. Spelled ms c.mid rest) (step_spelled o) c.back)) refl
head_finds (steps (step_before o p)) most ts rest sh sp hi end =
    let c = cut (spell_step_op o) (spell_place p) sp in
    let s = one_is (step_word o) (subst (λ ms. Spelled ms ts c.mid) (step_spelled o) c.front) in
    ap (head most) s.1 ∙ ap (λ k. head_by most k (token s.0 (step_word o) ∷ c.mid) c.mid) (step_head o)
    ∙ bind_some _ (p, rest) _ _ (place_finds p most c.mid rest sh c.back hi (nothing_ends most rest end)) refl
head_finds (calls e) most ts rest sh sp hi end = head_call most e ts rest sh.0 sh.1 sp hi end

-- where nothing stands, no head is read
pub no_head : (most : ℕ) (ts : List Token) (x : HeadTree × List Token) → nothing_ahead ts ≡ true → head most ts ≡ Some x → ⊥
no_head most [] x e f = cc
no_head most (t ∷ ts) x e f = by_kind
  where
    other : (u : Word) → is_stop u ≡ true → head_kind u ≡ kind.Other
    other w.Semicolon e = refl
    other w.CloseRound e = refl
    other w.Else e = refl
    other _ e = cc

    by_kind : ⊥
    by_kind =
        let g : called most (t ∷ ts) ≡ Some x = sym (ap (λ k. head_by most k (t ∷ ts) ts) (other t.word e)) ∙ f in
        let p = bind_ok _ _ _ g in
        let r = expr_sound most (t ∷ ts) p.0 p.1 in
        let q = expr_there p.0.0 (t ∷ ts) p.0.1 r.spelled in
        true≢false (sym e ∙ q)
