-- Places are read, both ways; and a place is no call.
use Rattle.std.proofs.Common.{◌≡◌, ◌≢◌, ℕ, ◌+◌, ◌<◌, ◌≤◌, true, false, List, [], ◌∷◌, ◌++◌, length, Some, None, refl, sym, ap, ◌∙◌, subst, arith, true≢false}
use Rattle.std.specs.List.{AllByRecursion}
use Rattle.bds_tree.specs.declared.token.Word.{Word}
use Rattle.bds_tree.specs.declared.token.Word.TheVariants as w
use Rattle.bds_tree.specs.declared.token.Token.{Token}
use Rattle.bds_tree.specs.Tree.{Tree, name, item, key, line_of}
use Rattle.bds_tree.specs.Shape.{Shaped, height, follow}
use Rattle.bds_tree.specs.Spelling.{Mark, any, sign, spell}
use Rattle.bds_tree.specs.StmtTree.{SuffixTree, at_index, at_key, PlaceTree}
use Rattle.bds_tree.specs.StmtShape.{IsSuffixShaped, IsPlaceShaped, is_call, over_suffixes, over_place}
use Rattle.bds_tree.specs.StmtSpelling.{spell_name, spell_suffixes, spell_place}
use Rattle.bds_parse_expr.specs.Spells.{token, Sign, Starts, Spells}
use Rattle.bds_parse_expr.specs.declared.words.Next.TheVariants.{Stops as stops}
use Rattle.bds_parse_expr.specs.Reading.{fresh, ahead, expression, line_ahead}
use Rattle.bds_parse_expr.proofs.Steps.{bind_some, sign_ahead, starts, level_one, shorter}
use Rattle.bds_parse_expr.proofs.Complete.{finds}
use Rattle.bds_parse_expr.proofs.Sound.{bind_ok, some_same, sign_at}
use Rattle.bds_parse_stmt_parts.specs.declared.words.Sign.TheVariants as s
use Rattle.bds_parse_stmt_parts.specs.Reading.{here, suffix_by, next_suffix, place}
use Rattle.bds_parse_stmt_parts.proofs.Fronting.{Spelled, join, cut, nothing, one, one_is, begun, unbegun, expr_of, starts_first, first_is, nothing_is}
use Rattle.bds_parse_stmt_parts.proofs.Many.{Chain, Takes, onto_sound, onto_finds}
use Rattle.bds_parse_stmt_parts.proofs.SignLaws.{sign_name, behind_sound, behind_finds, expr_sound, expr_finds, name_finds}

-- a suffix alone
abbrev spell_suffix : SuffixTree → List Mark
spell_suffix x = spell_suffixes (x ∷ [])

record IsSuffix (most : ℕ) (x : SuffixTree) (ts rest : List Token) : Type 0 where
  shaped : IsSuffixShaped x
  spelled : (ss : List SuffixTree) (end : List Token) → Spelled (spell_suffixes ss) rest end → Spelled (spell_suffixes (x ∷ ss)) ts end
  low : over_suffixes (x ∷ []) ≤ most

suffix_sound : (most : ℕ) (word : Word) (t : Token) (ts : List Token) (x : SuffixTree × List Token) → t.word ≡ word → suffix_by most word ts ≡ Some (Some x) → IsSuffix most x.0 (t ∷ ts) x.1
suffix_sound most w.OpenSquare t ts x is e =
    let read = bind_ok _ _ _ e in
    let closing = bind_ok _ _ _ read.2 in
    let f = expr_sound most ts read.0 read.1 in
    let same : (at_index read.0.0, closing.0) ≡ x = some_same _ _ (some_same _ _ closing.2) in
    subst (λ (y : SuffixTree × List Token). IsSuffix most y.0 (t ∷ ts) y.1) same
    (record { shaped = f.shaped; spelled = λ ss end g. join (one (sign_at w.OpenSquare t ts is)) (join f.spelled (join (one (behind_sound s.CloseSquare read.0.1 closing.0 closing.1)) g)); low = omega (arith, f.low) })
suffix_sound most w.OpenValue t ts x is e =
    let read = bind_ok _ _ _ e in
    let closing = bind_ok _ _ _ read.2 in
    let f = expr_sound most ts read.0 read.1 in
    let same : (at_key read.0.0, closing.0) ≡ x = some_same _ _ (some_same _ _ closing.2) in
    subst (λ (y : SuffixTree × List Token). IsSuffix most y.0 (t ∷ ts) y.1) same
    (record { shaped = f.shaped; spelled = λ ss end g. join (one (sign_at w.OpenValue t ts is)) (join f.spelled (join (one (behind_sound s.CloseValue read.0.1 closing.0 closing.1)) g)); low = omega (arith, f.low) })
suffix_sound most _ t ts x is e = cc

next_sound : (most : ℕ) (ts : List Token) (x : SuffixTree × List Token) → next_suffix most ts ≡ Some (Some x) → IsSuffix most x.0 ts x.1
next_sound most [] x e = cc
next_sound most (t ∷ ts) x e = suffix_sound most t.word t ts x refl e

record AreSuffixes (most : ℕ) (ss : List SuffixTree) (ts rest : List Token) : Type 0 where
  shaped : AllByRecursion IsSuffixShaped ss
  spelled : Spelled (spell_suffixes ss) ts rest
  low : over_suffixes ss ≤ most

suffixes_sound : (most : ℕ) (ss : List SuffixTree) (ts rest : List Token) → Chain (IsSuffix most) ss ts rest → AreSuffixes most ss ts rest
suffixes_sound most [] ts rest c = record { shaped = tt; spelled = subst (λ u. Spelled [] ts u) c (nothing ts); low = omega arith }
suffixes_sound most (at_index e ∷ ss) ts rest c =
    let r = suffixes_sound most ss c.0 rest c.2 in
    record { shaped = (c.1.shaped, r.shaped); spelled = c.1.spelled ss rest r.spelled; low = omega (arith, c.1.low, r.low) }
suffixes_sound most (at_key e ∷ ss) ts rest c =
    let r = suffixes_sound most ss c.0 rest c.2 in
    record { shaped = (c.1.shaped, r.shaped); spelled = c.1.spelled ss rest r.spelled; low = omega (arith, c.1.low, r.low) }

pub record IsPlace (most : ℕ) (p : PlaceTree) (ts rest : List Token) : Type 0 where
  pub shaped : IsPlaceShaped p
  pub spelled : Spelled (spell_place p) ts rest
  pub low : over_place p ≤ most

pub place_sound : (most : ℕ) (ts : List Token) (x : PlaceTree × List Token) → place most ts ≡ Some x → IsPlace most x.0 ts x.1
place_sound most ts x e =
    let n = bind_ok _ _ _ e in
    let ss = bind_ok _ _ _ n.2 in
    let m = onto_sound (next_suffix most) (IsSuffix most) (next_sound most) [] n.0.1 ss.0 ss.1 in
    let are = suffixes_sound most m.0 n.0.1 ss.0.1 m.2.chain in
    let sign = sign_name ts n.0 n.1 in
    let first : Starts (line_ahead ts) ts = starts_first (spell_name n.0.0) ts n.0.1 (any (w.Name n.0.0), [], refl) (one sign) in
    let same : (record { at = here (line_ahead ts); name = n.0.0; suffixes = ss.0.0 }, ss.0.1) ≡ x = some_same _ _ ss.2 in
    subst (λ (y : PlaceTree × List Token). IsPlace most y.0 ts y.1) same
    (subst (λ us. IsPlace most (record { at = here (line_ahead ts); name = n.0.0; suffixes = us }) ts ss.0.1) (sym m.1)
    (record { shaped = (refl, are.shaped); spelled = begun (line_ahead ts) first (join (one sign) are.spelled); low = are.low }))

-- what is needed to read a suffix
abbrev SuffixSpelled : SuffixTree → List Token → List Token → Type 0
SuffixSpelled (at_index e) ts rest = (a b : List Token) × Sign w.OpenSquare ts a × Spelled (spell e) a b × Sign w.CloseSquare b rest
SuffixSpelled (at_key e) ts rest = (a b : List Token) × Sign w.OpenValue ts a × Spelled (spell e) a b × Sign w.CloseValue b rest

cut_suffix : (x : SuffixTree) (ss : List SuffixTree) (ts rest : List Token) → Spelled (spell_suffixes (x ∷ ss)) ts rest → (mid : List Token) × SuffixSpelled x ts mid × Spelled (spell_suffixes ss) mid rest
cut_suffix (at_index e) ss ts rest f =
    let p = cut (sign w.OpenSquare) (spell e ++ (sign w.CloseSquare ++ spell_suffixes ss)) f in
    let q = cut (spell e) (sign w.CloseSquare ++ spell_suffixes ss) p.back in
    let r = cut (sign w.CloseSquare) (spell_suffixes ss) q.back in
    (r.mid, (p.mid, q.mid, one_is w.OpenSquare p.front, q.front, one_is w.CloseSquare r.front), r.back)
cut_suffix (at_key e) ss ts rest f =
    let p = cut (sign w.OpenValue) (spell e ++ (sign w.CloseValue ++ spell_suffixes ss)) f in
    let q = cut (spell e) (sign w.CloseValue ++ spell_suffixes ss) p.back in
    let r = cut (sign w.CloseValue) (spell_suffixes ss) q.back in
    (r.mid, (p.mid, q.mid, one_is w.OpenValue p.front, q.front, one_is w.CloseValue r.front), r.back)

expr_nonempty : (e : Tree) (ts rest : List Token) → Spelled (spell e) ts rest → length rest < length ts
expr_nonempty e ts rest f = shorter e ts rest (expr_of e f)

takes : (most : ℕ) (x : SuffixTree) (ts rest : List Token) → IsSuffixShaped x → over_suffixes (x ∷ []) ≤ most → SuffixSpelled x ts rest → Takes (next_suffix most) x ts rest
takes most (at_index e) ts rest sh hi f =
    let closed = sign_ahead w.CloseSquare stops f.1 rest refl f.4 in (
      ap (next_suffix most) f.2.1 ∙ bind_some _ (e, f.1) _ _ (expr_finds e most f.0 f.1 sh f.3 (omega arith) (omega arith)) (bind_some _ rest _ _ (behind_finds s.CloseSquare f.1 rest f.4) refl),
      omega (arith, ap length f.2.1, expr_nonempty e f.0 f.1 f.3, ap length f.4.1),
    )
takes most (at_key e) ts rest sh hi f =
    let closed = sign_ahead w.CloseValue stops f.1 rest refl f.4 in (
      ap (next_suffix most) f.2.1 ∙ bind_some _ (e, f.1) _ _ (expr_finds e most f.0 f.1 sh f.3 (omega arith) (omega arith)) (bind_some _ rest _ _ (behind_finds s.CloseValue f.1 rest f.4) refl),
      omega (arith, ap length f.2.1, expr_nonempty e f.0 f.1 f.3, ap length f.4.1),
    )

suffixes_low : (x : SuffixTree) (ss : List SuffixTree) (most : ℕ) → over_suffixes (x ∷ ss) ≤ most → (over_suffixes (x ∷ []) ≤ most) × (over_suffixes ss ≤ most)
suffixes_low (at_index e) ss most h = (omega arith, omega arith)
suffixes_low (at_key e) ss most h = (omega arith, omega arith)

suffixes_take : (most : ℕ) (ss : List SuffixTree) (ts rest : List Token) → AllByRecursion IsSuffixShaped ss → over_suffixes ss ≤ most → Spelled (spell_suffixes ss) ts rest → Chain (Takes (next_suffix most)) ss ts rest
suffixes_take most [] ts rest sh hi f = nothing_is f
suffixes_take most (x ∷ ss) ts rest sh hi f =
    let p = cut_suffix x ss ts rest f in
    let lows = suffixes_low x ss most hi in
    (p.0, takes most x ts p.0 sh.0 lows.0 p.1, suffixes_take most ss p.0 rest sh.1 lows.1 p.2)

-- a place begins with its name
place_parts : (p : PlaceTree) (ts rest : List Token) → Spelled (spell_place p) ts rest → (mid : List Token) × Starts p.at.line ts × Sign (w.Name p.name) ts mid × Spelled (spell_suffixes p.suffixes) mid rest
place_parts p ts rest f =
    let u = unbegun p.at.line (spell_name p.name ++ spell_suffixes p.suffixes) (any (w.Name p.name), spell_suffixes p.suffixes, refl) f in
    let c = cut (spell_name p.name) (spell_suffixes p.suffixes) u.1 in
    (c.mid, u.0, one_is (w.Name p.name) c.front, c.back)

place_is : (p : PlaceTree) (l : ℕ) → p.at.file ≡ 0 → l ≡ p.at.line → record { at = here l; name = p.name; suffixes = p.suffixes } ≡ p
place_is p l f g = ap (λ k. record { at = record { file = 0; line = k }; name = p.name; suffixes = p.suffixes }) g ∙ ap (λ k. record { at = record { file = k; line = p.at.line }; name = p.name; suffixes = p.suffixes }) (sym f)

pub place_finds : (p : PlaceTree) (most : ℕ) (ts rest : List Token) → IsPlaceShaped p → Spelled (spell_place p) ts rest → over_place p ≤ most → next_suffix most rest ≡ Some None → place most ts ≡ Some (p, rest)
place_finds p most ts rest sh sp hi stop =
    let f = place_parts p ts rest sp in
    bind_some _ (p.name, f.0) _ _ (name_finds p.name ts f.0 f.2)
    (bind_some _ (p.suffixes, rest) _ _ (onto_finds (next_suffix most) [] p.suffixes f.0 rest (suffixes_take most p.suffixes f.0 rest sh.1 hi f.3) stop)
    (ap (λ q. Some (q, rest)) (place_is p (line_ahead ts) sh.0 (first_is p.at.line ts f.1))))

pub place_name_at : (p : PlaceTree) (ts rest : List Token) → Spelled (spell_place p) ts rest → (mid : List Token) × Sign (w.Name p.name) ts mid
place_name_at p ts rest sp = let f = place_parts p ts rest sp in (f.0, f.2)

-- a place as an expression
suffixed : Tree → List SuffixTree → Tree
suffixed e [] = e
suffixed e (at_index i ∷ ss) = suffixed (fresh (line_of e) (item e i)) ss
suffixed e (at_key k ∷ ss) = suffixed (fresh (line_of e) (key e k)) ss

record IsNoCall (e : Tree) (ts rest : List Token) : Type 0 where
  shaped : Shaped e
  spelled : Spells e ts rest
  plain : is_call e ≡ false
  tight : follow e ≡ 10

suffixed_spells : (ss : List SuffixTree) (e : Tree) (ts mid rest : List Token) → IsNoCall e ts mid → AllByRecursion IsSuffixShaped ss → Spelled (spell_suffixes ss) mid rest → IsNoCall (suffixed e ss) ts rest
unfolding suffixed
suffixed_spells [] e ts mid rest n sh f = subst (λ u. IsNoCall e ts u) (nothing_is f) n
suffixed_spells (at_index i ∷ ss) e ts mid rest n sh f =
    let p = cut_suffix (at_index i) ss mid rest f in
    suffixed_spells ss (fresh (line_of e) (item e i)) ts p.0 rest
    (record { shaped = (refl, refl, (omega (arith, n.tight), n.shaped, sh.0)); spelled = (starts e ts mid n.spelled, (mid, p.1.0, p.1.1, n.spelled, p.1.2, expr_of i p.1.3, p.1.4)); plain = refl; tight = refl }) sh.1 p.2
suffixed_spells (at_key k ∷ ss) e ts mid rest n sh f =
    let p = cut_suffix (at_key k) ss mid rest f in
    suffixed_spells ss (fresh (line_of e) (key e k)) ts p.0 rest
    (record { shaped = (refl, refl, (omega (arith, n.tight), n.shaped, sh.0)); spelled = (starts e ts mid n.spelled, (mid, p.1.0, p.1.1, n.spelled, p.1.2, expr_of k p.1.3, p.1.4)); plain = refl; tight = refl }) sh.1 p.2

as_tree : (p : PlaceTree) (ts rest : List Token) → IsPlaceShaped p → Spelled (spell_place p) ts rest → (e : Tree) × IsNoCall e ts rest
as_tree p ts rest sh sp =
    let f = place_parts p ts rest sp in
    let n : IsNoCall (fresh p.at.line (name p.name)) ts f.0 = record { shaped = (refl, refl, tt); spelled = (f.1, f.2); plain = refl; tight = refl } in
    (suffixed (fresh p.at.line (name p.name)) p.suffixes, suffixed_spells p.suffixes (fresh p.at.line (name p.name)) ts f.0 rest n sh.1 f.3)

-- an expression that is spelled where a place is, with nothing behind either that continues it, is that place
pub one_reading : (p : PlaceTree) (e : Tree) (ts a b : List Token) → IsPlaceShaped p → Spelled (spell_place p) ts a → ahead a ≡ 0 → Shaped e → Spelled (spell e) ts b → ahead b ≡ 0 → (is_call e ≡ false) × (a ≡ b)
one_reading p e ts a b shp spp ha sh sp hb =
    let t = as_tree p ts a shp spp in
    let most = height t.0 + height e + 1 in
    let first : expression most 1 ts ≡ Some (t.0, a) = finds t.0 most 1 ts a t.1.shaped t.1.spelled (omega arith) (level_one t.0) (omega arith) in
    let second : expression most 1 ts ≡ Some (e, b) = finds e most 1 ts b sh (expr_of e sp) (omega arith) (level_one e) (omega arith) in
    let same : (t.0, a) ≡ (e, b) = some_same _ _ (sym first ∙ second) in
    (sym (ap (λ (x : Tree × List Token). is_call x.0) same) ∙ t.1.plain, ap (λ (x : Tree × List Token). x.1) same)

-- no call is spelled where a place is
pub no_call : (p : PlaceTree) (e : Tree) (ts a b : List Token) → IsPlaceShaped p → Spelled (spell_place p) ts a → ahead a ≡ 0 → Shaped e → Spelled (spell e) ts b → ahead b ≡ 0 → is_call e ≡ true → ⊥
no_call p e ts a b shp spp ha sh sp hb call = true≢false (sym call ∙ (one_reading p e ts a b shp spp ha sh sp hb).0)

abbrev pub bare : List ℕ → ℕ → PlaceTree
bare n l = record { at = here l; name = n; suffixes = [] }

pub bare_spelled : (n : List ℕ) (ts rest : List Token) (f : Sign (w.Name n) ts rest) → Spelled (spell_place (bare n f.0)) ts rest
bare_spelled n ts rest f = begun f.0 (token f.0 (w.Name n), rest, f.1, refl) (one f)
