-- Statements that are read are legal and spelled so.
use Rattle.std.proofs.Common.{◌≡◌, ◌≢◌, ℕ, zero, suc, ◌≤◌, Bool, true, false, List, [], ◌∷◌, ◌++◌, Option, Some, None, refl, sym, ap, ◌∙◌, subst, arith, true≢false, ⊎_elim}
use Rattle.std.specs.Prelude.{if◌then◌else◌, ◌||◌}
use Rattle.bds_value.specs.declared.value.Ty.{Ty}
use Rattle.bds_value.specs.Fields.{is_solid}
use Rattle.bds_value.specs.Options.{◌>>=◌}
use Rattle.bds_tree.specs.declared.token.Word.{Word}
use Rattle.bds_tree.specs.declared.token.Word.TheVariants as w
use Rattle.bds_tree.specs.declared.token.Token.{Token}
use Rattle.bds_tree.specs.Tree.{Tree}
use Rattle.bds_tree.specs.Shape.{Shaped}
use Rattle.bds_tree.specs.Spelling.{Mark, sign, spell}
use Rattle.bds_tree.specs.StmtTree.{StmtTree, SmallTree, BlockTree, stmt, inner_block, line, when, while, for, each, no_stmt, a_stmt, switch, to_cases}
use Rattle.bds_tree.specs.StmtShape.{IsMaybeShaped, IsSmallShaped, is_closed, is_empty_stmt, over, over_type, over_maybe, over_small}
use Rattle.bds_tree.specs.StmtSpelling.{spell_stmt, spell_type, spell_name, spell_maybe, spell_small, line_ends_in_brace}
use Rattle.bds_parse_expr.specs.Spells.{Sign}
use Rattle.bds_parse_expr.specs.Reading.{Read, behind}
use Rattle.bds_parse_expr.proofs.Sound.{bind_ok, some_same, sign_at, chosen}
use Rattle.bds_parse_stmt_parts.specs.declared.words.Sign.TheVariants as s
use Rattle.bds_parse_stmt_parts.specs.declared.words.StmtKind.{StmtKind}
use Rattle.bds_parse_stmt_parts.specs.declared.words.StmtKind.TheVariants as kind
use Rattle.bds_parse_stmt_parts.specs.Words.{is_sign, stmt_kind, line_end}
use Rattle.bds_parse_stmt_parts.specs.Reading.{here, StmtSub, BlockSub, test, else_part, while_form, each_front, each_rest, for_parts, for_rest, for_by, for_form, switch_form, line_form, statement_by_kind, statement_by, reads, statement, block}
use Rattle.bds_parse_stmt_parts.proofs.Fronting.{Spelled, join, nothing, one, begun, first_starts}
use Rattle.bds_parse_stmt_parts.proofs.SignLaws.{sign_name, behind_sound, not_false, expr_sound}
use Rattle.bds_parse_stmt_parts.proofs.TypeLaws.{type_sound}
use Rattle.bds_parse_stmt_parts.proofs.SmallLaws.{maybe_sound, maybe_small_sound}
use Rattle.bds_parse_stmt_body.proofs.LineLaws.{IsBlock, line_sound}
use Rattle.bds_parse_stmt_body.proofs.StmtFirst.{no_else}
use Rattle.bds_parse_stmt_body.proofs.BlockSound.{else_ahead, IsStmt, IsSound, HasNoElse, block_by_sound, cases_sound}

-- what ends a line
abbrev pub end_marks : Bool → Bool → List Mark
end_marks before_else braced = if before_else || braced then [] else sign w.Semicolon

braced_marks : (b : Bool) (ts : List Token) → Spelled (end_marks b true) ts ts
braced_marks true ts = nothing ts
braced_marks false ts = nothing ts

pub end_sound : (braced : Bool) (ts rest : List Token) → line_end braced ts ≡ Some rest → Spelled (end_marks (else_ahead rest) braced) ts rest
end_sound true ts rest e = subst (λ u. Spelled (end_marks (else_ahead u) true) ts u) (some_same _ _ e) (braced_marks (else_ahead ts) ts)
end_sound false ts rest e =
    ⊎_elim
    (λ (p : (else_ahead ts ≡ true) × (Some ts ≡ Some rest)).
    subst (λ u. Spelled (end_marks (else_ahead u) false) ts u) (some_same _ _ p.1) (subst (λ b. Spelled (end_marks b false) ts ts) (sym p.0) (nothing ts)))
    (λ (p : (else_ahead ts ≡ false) × ((behind (is_sign s.Semicolon) ts >>= λ rest. if else_ahead rest then None else Some rest) ≡ Some rest)).
    let a = bind_ok _ _ _ p.1 in
    ⊎_elim
    (λ (q : (else_ahead a.0 ≡ true) × (None ≡ Some rest)). let r = q.1 in cc)
    (λ (q : (else_ahead a.0 ≡ false) × (Some a.0 ≡ Some rest)).
    subst (λ u. Spelled (end_marks (else_ahead u) false) ts u) (some_same _ _ q.1) (subst (λ b. Spelled (end_marks b false) ts a.0) (sym q.0) (one (behind_sound s.Semicolon ts a.0 a.1))))
    (chosen _ _ _ _ a.2))
    (chosen _ _ _ _ e)

abbrev keyword : StmtKind → Word
keyword kind.Block = w.OpenBlock
keyword kind.Empty = w.Semicolon
keyword kind.If = w.If
keyword kind.While = w.While
keyword kind.For = w.For
keyword kind.Switch = w.Switch
keyword kind.Line = w.Else

keyword_is : (word : Word) → stmt_kind word ≢ kind.Line → word ≡ keyword (stmt_kind word)
keyword_is w.OpenBlock h = refl
keyword_is w.Semicolon h = refl
keyword_is w.If h = refl
keyword_is w.While h = refl
keyword_is w.For h = refl
keyword_is w.Switch h = refl
keyword_is _ h = absurd (h refl)

word_kind : (word : Word) (k : StmtKind) → stmt_kind word ≡ k → k ≢ kind.Line → word ≡ keyword k
word_kind word k e h = keyword_is word (λ n. h (sym e ∙ n)) ∙ ap keyword e

record IsTest (most : ℕ) (c : Tree) (ts rest : List Token) : Type 0 where
  shaped : Shaped c
  spelled : (ms : List Mark) (end : List Token) → Spelled ms rest end → Spelled (sign w.OpenRound ++ (spell c ++ (sign w.CloseRound ++ ms))) ts end
  low : over c ≤ most

test_sound : (most : ℕ) (ts : List Token) (x : Tree × List Token) → test most ts ≡ Some x → IsTest most x.0 ts x.1
test_sound most ts x e =
    let a = bind_ok _ _ _ e in
    let c = bind_ok _ _ _ a.2 in
    let b = bind_ok _ _ _ c.2 in
    let f = expr_sound most a.0 c.0 c.1 in
    let same : (c.0.0, b.0) ≡ x = some_same _ _ b.2 in
    subst (λ (y : Tree × List Token). IsTest most y.0 ts y.1) same
    (record {
      shaped = f.shaped;
      spelled = λ ms end g. join (one (behind_sound s.OpenRound ts a.0 a.1)) (join f.spelled (join (one (behind_sound s.CloseRound c.0.1 b.0 b.1)) g));
      low = f.low;
    })

record IsEach (most : ℕ) (t : Ty) (n : List ℕ) (ts rest : List Token) : Type 0 where
  written : is_solid t ≡ true
  spelled : (ms : List Mark) (end : List Token) → Spelled ms rest end → Spelled (spell_type t ++ (spell_name n ++ (sign w.Colon ++ ms))) ts end
  low : over_type t ≤ most

each_sound : (most : ℕ) (ts : List Token) (x : (Ty × List ℕ) × List Token) → each_front most ts ≡ Some x → IsEach most x.0.0 x.0.1 ts x.1
each_sound most ts x e =
    let t = bind_ok _ _ _ e in
    let n = bind_ok _ _ _ t.2 in
    let b = bind_ok _ _ _ n.2 in
    let f = type_sound most ts t.0 t.1 in
    let same : ((t.0.0, n.0.0), b.0) ≡ x = some_same _ _ b.2 in
    subst (λ (y : (Ty × List ℕ) × List Token). IsEach most y.0.0 y.0.1 ts y.1) same
    (record {
      written = f.written;
      spelled = λ ms end g. join f.spelled (join (one (sign_name t.0.1 n.0 n.1)) (join (one (behind_sound s.Colon n.0.1 b.0 b.1)) g));
      low = f.low;
    })

abbrev ForHead : Type 0
ForHead = Option SmallTree × Option Tree × Option SmallTree

record IsFor (most : ℕ) (h : ForHead) (ts rest : List Token) : Type 0 where
  first : IsSmallShaped h.0
  condition : IsMaybeShaped h.1
  next : IsSmallShaped h.2
  spelled : (ms : List Mark) (end : List Token) → Spelled ms rest end → Spelled (spell_small h.0 ++ (sign w.Semicolon ++ (spell_maybe h.1 ++ (sign w.Semicolon ++ (spell_small h.2 ++ (sign w.CloseRound ++ ms)))))) ts end
  first_low : over_small h.0 ≤ most
  condition_low : over_maybe h.1 ≤ most
  next_low : over_small h.2 ≤ most

for_sound : (most : ℕ) (ts : List Token) (x : ForHead × List Token) → for_parts most ts ≡ Some x → IsFor most x.0 ts x.1
for_sound most ts x e =
    let f = bind_ok _ _ _ e in
    let a = bind_ok _ _ _ f.2 in
    let c = bind_ok _ _ _ a.2 in
    let b = bind_ok _ _ _ c.2 in
    let n = bind_ok _ _ _ b.2 in
    let d = bind_ok _ _ _ n.2 in
    let is_first = maybe_small_sound most ts f.0 f.1 in
    let is_condition = maybe_sound most a.0 c.0 c.1 in
    let is_next = maybe_small_sound most b.0 n.0 n.1 in
    let same : ((f.0.0, c.0.0, n.0.0), d.0) ≡ x = some_same _ _ d.2 in
    subst (λ (y : ForHead × List Token). IsFor most y.0 ts y.1) same
    (record {
      first = is_first.shaped;
      condition = is_condition.shaped;
      next = is_next.shaped;
      spelled = λ ms end g. join is_first.spelled (join (one (behind_sound s.Semicolon f.0.1 a.0 a.1)) (join is_condition.spelled (join (one (behind_sound s.Semicolon c.0.1 b.0 b.1)) (join is_next.spelled (join (one (behind_sound s.CloseRound n.0.1 d.0 d.1)) g)))));
      first_low = is_first.low;
      condition_low = is_condition.low;
      next_low = is_next.low;
    })

abbrev IsBlockSound : ℕ → BlockSub → Type 0
IsBlockSound most block = (ts : List Token) (x : BlockTree × List Token) → block ts ≡ Some x → IsBlock most x.0 ts x.1

module _ (most : ℕ) (sub : StmtSub) (sound : IsSound most sub) (no_else : HasNoElse sub) where
  fork_sound : (t : Token) (ts mid : List Token) (c : Tree) (a : StmtTree × List Token) (x : StmtTree × List Token) → t.word ≡ w.If → IsTest most c ts mid → IsStmt most a.0 mid a.1 → else_part sub t.line c a.0 a.1 ≡ Some x → IsStmt (suc most) x.0 (t ∷ ts) x.1
  fork_sound t ts mid c a x is ct sa e =
      let word = one (sign_at w.If t ts is) in
      ⊎_elim
      (λ (p : (else_ahead a.1 ≡ true) × ((if is_empty_stmt a.0 then None else (behind (is_sign s.Else) a.1 >>= λ u. sub u >>= λ b. Some (stmt (here t.line) (when c a.0 (a_stmt b.0)), b.1))) ≡ Some x)).
      ⊎_elim
      (λ (q : (is_empty_stmt a.0 ≡ true) × (None ≡ Some x)). let r = q.1 in cc)
      (λ (q : (is_empty_stmt a.0 ≡ false) × ((behind (is_sign s.Else) a.1 >>= λ u. sub u >>= λ b. Some (stmt (here t.line) (when c a.0 (a_stmt b.0)), b.1)) ≡ Some x)).
      let u = bind_ok _ _ _ q.1 in
      let b = bind_ok _ _ _ u.2 in
      let sb = sound u.0 b.0 b.1 in
      let shut : is_closed a.0 ≡ true = not_false (is_closed a.0) (λ f. true≢false (sym p.0 ∙ sa.shut f)) in
      let inner : Spelled (spell_stmt a.0 true) mid a.1 = subst (λ k. Spelled (spell_stmt a.0 k) mid a.1) p.0 sa.spelled in
      let same : (stmt (here t.line) (when c a.0 (a_stmt b.0.0)), b.0.1) ≡ x = some_same _ _ b.2 in
      subst (λ (y : StmtTree × List Token). IsStmt (suc most) y.0 (t ∷ ts) y.1) same
      (record {
        shaped = (refl, (ct.shaped, sa.shaped, (shut, q.0, sb.shaped)));
        spelled = begun t.line (first_starts t ts) (join word (ct.spelled _ _ (join inner (join (one (behind_sound s.Else a.1 u.0 u.1)) sb.spelled))));
        low = omega (arith, ct.low, sa.low, sb.low);
        shut = sb.shut;
      }))
      (chosen _ _ _ _ p.1))
      (λ (p : (else_ahead a.1 ≡ false) × (Some (stmt (here t.line) (when c a.0 no_stmt), a.1) ≡ Some x)).
      let same : (stmt (here t.line) (when c a.0 no_stmt), a.1) ≡ x = some_same _ _ p.1 in
      subst (λ (y : StmtTree × List Token). IsStmt (suc most) y.0 (t ∷ ts) y.1) same
      (record {
        shaped = (refl, (ct.shaped, sa.shaped, tt));
        spelled = begun t.line (first_starts t ts) (join word (ct.spelled _ _ (join sa.spelled (nothing a.1))));
        low = omega (arith, ct.low, sa.low);
        shut = λ f. p.0;
      }))
      (chosen _ _ _ _ e)

  while_sound : (t : Token) (ts : List Token) (x : StmtTree × List Token) → t.word ≡ w.While → while_form most sub t.line ts ≡ Some x → IsStmt (suc most) x.0 (t ∷ ts) x.1
  while_sound t ts x is e =
      let c = bind_ok _ _ _ e in
      let a = bind_ok _ _ _ c.2 in
      let ct = test_sound most ts c.0 c.1 in
      let sa = sound c.0.1 a.0 a.1 in
      let same : (stmt (here t.line) (while c.0.0 a.0.0), a.0.1) ≡ x = some_same _ _ a.2 in
      subst (λ (y : StmtTree × List Token). IsStmt (suc most) y.0 (t ∷ ts) y.1) same
      (record {
        shaped = (refl, (ct.shaped, sa.shaped));
        spelled = begun t.line (first_starts t ts) (join (one (sign_at w.While t ts is)) (ct.spelled _ _ sa.spelled));
        low = omega (arith, ct.low, sa.low);
        shut = sa.shut;
      })

  each_rest_sound : (t : Token) (ts a mid : List Token) (ty : Ty) (n : List ℕ) (x : StmtTree × List Token) → t.word ≡ w.For → Sign w.OpenRound ts a → IsEach most ty n a mid → each_rest most sub t.line ty n mid ≡ Some x → IsStmt (suc most) x.0 (t ∷ ts) x.1
  each_rest_sound t ts a mid ty n x is opened f e =
      let l = bind_ok _ _ _ e in
      let b = bind_ok _ _ _ l.2 in
      let r = bind_ok _ _ _ b.2 in
      let g = expr_sound most mid l.0 l.1 in
      let sa = sound b.0 r.0 r.1 in
      let same : (stmt (here t.line) (each ty n l.0.0 r.0.0), r.0.1) ≡ x = some_same _ _ r.2 in
      subst (λ (y : StmtTree × List Token). IsStmt (suc most) y.0 (t ∷ ts) y.1) same
      (record {
        shaped = (refl, (f.written, g.shaped, sa.shaped));
        spelled = begun t.line (first_starts t ts) (join (one (sign_at w.For t ts is)) (join (one opened) (f.spelled _ _ (join g.spelled (join (one (behind_sound s.CloseRound l.0.1 b.0 b.1)) sa.spelled)))));
        low = omega (arith, f.low, g.low, sa.low);
        shut = sa.shut;
      })

  for_rest_sound : (t : Token) (ts a : List Token) (x : StmtTree × List Token) → t.word ≡ w.For → Sign w.OpenRound ts a → for_rest most sub t.line a ≡ Some x → IsStmt (suc most) x.0 (t ∷ ts) x.1
  for_rest_sound t ts a x is opened e =
      let p = bind_ok _ _ _ e in
      let r = bind_ok _ _ _ p.2 in
      let f = for_sound most a p.0 p.1 in
      let sa = sound p.0.1 r.0 r.1 in
      let same : (stmt (here t.line) (for p.0.0.0 p.0.0.1 p.0.0.2 r.0.0), r.0.1) ≡ x = some_same _ _ r.2 in
      subst (λ (y : StmtTree × List Token). IsStmt (suc most) y.0 (t ∷ ts) y.1) same
      (record {
        shaped = (refl, (f.first, f.condition, f.next, sa.shaped));
        spelled = begun t.line (first_starts t ts) (join (one (sign_at w.For t ts is)) (join (one opened) (f.spelled _ _ sa.spelled)));
        low = omega (arith, f.first_low, f.condition_low, f.next_low, sa.low);
        shut = sa.shut;
      })

  for_form_sound : (t : Token) (ts : List Token) (x : StmtTree × List Token) → t.word ≡ w.For → for_form most sub t.line ts ≡ Some x → IsStmt (suc most) x.0 (t ∷ ts) x.1
  for_form_sound t ts x is e =
      let a = bind_ok _ _ _ e in
      go a.0 (behind_sound s.OpenRound ts a.0 a.1) (each_front most a.0) refl a.2
    where
      go : (a : List Token) → Sign w.OpenRound ts a → (o : Read (Ty × List ℕ)) → each_front most a ≡ o → for_by most sub t.line a o ≡ Some x → IsStmt (suc most) x.0 (t ∷ ts) x.1
      go a opened None f g = for_rest_sound t ts a x is opened g
      go a opened (Some y) f g = each_rest_sound t ts a y.1 y.0.0 y.0.1 x is opened (each_sound most a y f) g

  switch_sound : (t : Token) (ts : List Token) (x : StmtTree × List Token)
      → t.word ≡ w.Switch → switch_form most sub t.line ts ≡ Some x → IsStmt (suc most) x.0 (t ∷ ts) x.1
  switch_sound t ts x is e =
      let c = bind_ok _ _ _ e in
      let cs = bind_ok _ _ _ c.2 in
      let ct = test_sound most ts c.0 c.1 in
      let f = cases_sound most sub sound no_else c.0.1 cs.0 cs.1 in
      let same : (stmt (here t.line) (switch c.0.0 (to_cases cs.0.0)), cs.0.1) ≡ x = some_same _ _ cs.2 in
      subst (λ (y : StmtTree × List Token). IsStmt (suc most) y.0 (t ∷ ts) y.1) same
      (record {
        shaped = (refl, (ct.shaped, f.2.shaped));
        spelled = begun t.line (first_starts t ts)
            (join (one (sign_at w.Switch t ts is)) (ct.spelled _ _ (join (one f.1) f.2.spelled)));
        low = omega (arith, ct.low, f.2.low);
        shut = λ c. absurd (true≢false c);
      })

  module _ (block : BlockSub) (block_sound : IsBlockSound most block) where
    line_form_sound : (t : Token) (ts : List Token) (x : StmtTree × List Token) → line_form most block t.line (t ∷ ts) ≡ Some x → IsStmt (suc most) x.0 (t ∷ ts) x.1
    line_form_sound t ts x e =
        let l = bind_ok _ _ _ e in
        let b = bind_ok _ _ _ l.2 in
        let f = line_sound most block block_sound (t ∷ ts) l.0 l.1 in
        let same : (stmt (here t.line) (line l.0.0), b.0) ≡ x = some_same _ _ b.2 in
        subst (λ (y : StmtTree × List Token). IsStmt (suc most) y.0 (t ∷ ts) y.1) same
        (record {
          shaped = (refl, f.shaped);
          spelled = begun t.line (first_starts t ts) (join f.spelled (end_sound (line_ends_in_brace l.0.0) l.0.1 b.0 b.1));
          low = omega (arith, f.low);
          shut = λ c. absurd (true≢false c);
        })

    kind_sound : (k : StmtKind) (t : Token) (ts : List Token) (x : StmtTree × List Token) → stmt_kind t.word ≡ k → statement_by_kind most block sub t.line k (t ∷ ts) ts ≡ Some x → IsStmt (suc most) x.0 (t ∷ ts) x.1
    kind_sound kind.Block t ts x k e =
        let b = bind_ok _ _ _ e in
        let f = block_sound (t ∷ ts) b.0 b.1 in
        let same : (stmt (here t.line) (inner_block b.0.0), b.0.1) ≡ x = some_same _ _ b.2 in
        subst (λ (y : StmtTree × List Token). IsStmt (suc most) y.0 (t ∷ ts) y.1) same
        (record { shaped = (refl, f.shaped); spelled = begun t.line (first_starts t ts) f.spelled; low = omega (arith, f.low); shut = λ c. absurd (true≢false c) })
    kind_sound kind.Empty t ts x k e =
        subst (λ (y : StmtTree × List Token). IsStmt (suc most) y.0 (t ∷ ts) y.1) (some_same _ _ e)
        (record { shaped = (refl, tt); spelled = begun t.line (first_starts t ts) (one (sign_at w.Semicolon t ts (word_kind t.word kind.Empty k (λ n. cc)))); low = omega arith; shut = λ c. absurd (true≢false c) })
    kind_sound kind.If t ts x k e =
        let c = bind_ok _ _ _ e in
        let a = bind_ok _ _ _ c.2 in
        fork_sound t ts c.0.1 c.0.0 a.0 x (word_kind t.word kind.If k (λ n. cc)) (test_sound most ts c.0 c.1) (sound c.0.1 a.0 a.1) a.2
    kind_sound kind.While t ts x k e = while_sound t ts x (word_kind t.word kind.While k (λ n. cc)) e
    kind_sound kind.For t ts x k e = for_form_sound t ts x (word_kind t.word kind.For k (λ n. cc)) e
    kind_sound kind.Switch t ts x k e = switch_sound t ts x (word_kind t.word kind.Switch k (λ n. cc)) e
    kind_sound kind.Line t ts x k e = line_form_sound t ts x e

    statement_sound : (ts : List Token) (x : StmtTree × List Token) → statement_by most block sub ts ≡ Some x → IsStmt (suc most) x.0 ts x.1
    statement_sound [] x e = cc
    statement_sound (t ∷ ts) x e = kind_sound (stmt_kind t.word) t ts x refl e

record AreSound (most : ℕ) : Type 0 where
  stmts : IsSound most (statement most)
  blocks : IsBlockSound most (block most)

are_sound : (most : ℕ) → AreSound most
unfolding reads
are_sound zero = record { stmts = λ ts x e. cc; blocks = λ ts x e. cc }
are_sound (suc most) =
    let below = are_sound most in
    record {
      stmts = statement_sound most (statement most) below.stmts (no_else most) (block most) below.blocks;
      blocks = block_by_sound most (statement most) below.stmts (no_else most);
    }

pub sound : (most : ℕ) → IsSound most (statement most)
sound most = (are_sound most).stmts

pub block_sound : (most : ℕ) → IsBlockSound most (block most)
block_sound most = (are_sound most).blocks
