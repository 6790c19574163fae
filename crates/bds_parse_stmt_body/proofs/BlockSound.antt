-- Statements and cases in their braces: what is read is legal and spelled so.
use Rattle.std.proofs.Common.{◌≡◌, ℕ, suc, ◌+◌, ◌≤◌, Bool, true, false, List, [], ◌∷◌, ◌++◌, Option, Some, None, refl, sym, ap, ◌∙◌, subst, arith, ⊎_elim}
use Rattle.bds_tree.specs.declared.token.Word.TheVariants as w
use Rattle.bds_tree.specs.declared.token.Token.{Token}
use Rattle.bds_tree.specs.Tree.{Tree}
use Rattle.bds_tree.specs.Spelling.{Mark, any, sign}
use Rattle.bds_tree.specs.StmtTree.{StmtTree, BlockTree, CaseTree, block as block_tree, a_case, to_stmts, to_cases}
use Rattle.bds_tree.specs.StmtShape.{IsMaybeShaped, IsStmtShaped, AreStmtsShaped, IsCaseShaped, AreCasesShaped, is_closed, over_maybe, stmt_height, over_stmts, over_case, over_cases}
use Rattle.bds_tree.specs.StmtSpelling.{spell_label, spell_stmt, spell_stmts, spell_case, spell_cases}
use Rattle.bds_parse_expr.specs.Spells.{Sign, Starts}
use Rattle.bds_parse_expr.specs.Reading.{line_ahead}
use Rattle.bds_parse_expr.proofs.Sound.{bind_ok, some_same, chosen}
use Rattle.bds_parse_stmt_parts.specs.declared.words.Sign.TheVariants as s
use Rattle.bds_parse_stmt_parts.specs.Words.{sign_ahead, end_ahead}
use Rattle.bds_parse_stmt_parts.specs.Reading.{here, many_onto, StmtSub, next_stmt, default_label, case_label, label, case_by, next_case, cases_by, block_by}
use Rattle.bds_parse_stmt_parts.proofs.Fronting.{Spelled, join, nothing, one, begun, starts_first}
use Rattle.bds_parse_stmt_parts.proofs.Many.{Chain, onto_sound, next_some, next_none}
use Rattle.bds_parse_stmt_parts.proofs.SignLaws.{behind_sound, end_no_else, expr_sound}
use Rattle.bds_parse_stmt_body.proofs.LineLaws.{IsBlock}

abbrev pub else_ahead : List Token → Bool
else_ahead = sign_ahead s.Else

pub record IsStmt (most : ℕ) (x : StmtTree) (ts rest : List Token) : Type 0 where
  pub shaped : IsStmtShaped x
  pub spelled : Spelled (spell_stmt x (else_ahead rest)) ts rest
  pub low : stmt_height x + 1 ≤ most
  pub shut : is_closed x ≡ false → else_ahead rest ≡ false

abbrev pub IsSound : ℕ → StmtSub → Type 0
IsSound most sub = (ts : List Token) (x : StmtTree × List Token) → sub ts ≡ Some x → IsStmt most x.0 ts x.1

record IsLabel (most : ℕ) (l : Option Tree) (ts rest : List Token) : Type 0 where
  shaped : IsMaybeShaped l
  spelled : (ms : List Mark) (end : List Token)
      → Spelled ms rest end → Spelled (spell_label l ++ (sign w.CaseColon ++ ms)) ts end
  low : over_maybe l ≤ most
  first : Starts (line_ahead ts) ts

label_sound : (most : ℕ) (ts : List Token) (x : Option Tree × List Token)
    → label most ts ≡ Some x → IsLabel most x.0 ts x.1
label_sound most ts x e =
    ⊎_elim
    (λ (p : (sign_ahead s.Default ts ≡ true) × (default_label ts ≡ Some x)).
    let a = bind_ok _ _ _ p.1 in
    let b = bind_ok _ _ _ a.2 in
    let word = one (behind_sound s.Default ts a.0 a.1) in
    let same : (None, b.0) ≡ x = some_same _ _ b.2 in
    subst (λ (y : Option Tree × List Token). IsLabel most y.0 ts y.1) same
    (record {
      shaped = tt;
      spelled = λ ms end g. join word (join (one (behind_sound s.CaseColon a.0 b.0 b.1)) g);
      low = omega arith;
      first = starts_first (sign w.Default) ts a.0 (any w.Default, [], refl) word;
    }))
    (λ (p : (sign_ahead s.Default ts ≡ false) × (case_label most ts ≡ Some x)).
    let a = bind_ok _ _ _ p.1 in
    let l = bind_ok _ _ _ a.2 in
    let b = bind_ok _ _ _ l.2 in
    let f = expr_sound most a.0 l.0 l.1 in
    let word = one (behind_sound s.Case ts a.0 a.1) in
    let same : (Some l.0.0, b.0) ≡ x = some_same _ _ b.2 in
    subst (λ (y : Option Tree × List Token). IsLabel most y.0 ts y.1) same
    (record {
      shaped = f.shaped;
      spelled = λ ms end g. join (join word f.spelled) (join (one (behind_sound s.CaseColon l.0.1 b.0 b.1)) g);
      low = f.low;
      first = starts_first (sign w.Case) ts a.0 (any w.Case, [], refl) word;
    }))
    (chosen _ _ _ _ e)

-- no statement that is read begins with `else`
abbrev pub HasNoElse : StmtSub → Type 0
HasNoElse sub = (ts : List Token) (x : StmtTree × List Token) → sub ts ≡ Some x → else_ahead ts ≡ false

module _ (most : ℕ) (sub : StmtSub) (sound : IsSound most sub) (no_else : HasNoElse sub) where
  record IsInner (x : StmtTree) (ts rest : List Token) : Type 0 where
    is : IsStmt most x ts rest
    free : else_ahead ts ≡ false

  inner_sound : (ts : List Token) (x : StmtTree × List Token) → next_stmt sub ts ≡ Some (Some x) → IsInner x.0 ts x.1
  inner_sound ts x e =
      let f = next_some (end_ahead ts) (sub ts) x e in
      record { is = sound ts x f; free = no_else ts x f }

  record AreStmts (xs : List StmtTree) (ts rest : List Token) : Type 0 where
    shaped : AreStmtsShaped (to_stmts xs)
    spelled : Spelled (spell_stmts (to_stmts xs)) ts rest
    low : over_stmts (to_stmts xs) ≤ most
    free : else_ahead ts ≡ false

  stmts_behind : (xs : List StmtTree) (ts rest : List Token)
      → Chain IsInner xs ts rest → else_ahead rest ≡ false → AreStmts xs ts rest
  stmts_behind [] ts rest c free =
      let spelled = subst (λ u. Spelled [] ts u) c (nothing ts) in
      record { shaped = tt; spelled = spelled; low = omega arith; free = ap else_ahead c ∙ free }
  stmts_behind (x ∷ xs) ts rest c free =
      let r = stmts_behind xs c.0 rest c.2 free in
      let front : Spelled (spell_stmt x false) ts c.0 = subst (λ b. Spelled (spell_stmt x b) ts c.0) r.free c.1.is.spelled in
      record {
        shaped = (c.1.is.shaped, r.shaped);
        spelled = join front r.spelled;
        low = omega (arith, c.1.is.low, r.low);
        free = c.1.free;
      }

  stmts_sound : (ts : List Token) (x : List StmtTree × List Token)
      → many_onto (next_stmt sub) [] ts ≡ Some x → AreStmts x.0 ts x.1
  stmts_sound ts x e =
      let m = onto_sound (next_stmt sub) IsInner inner_sound [] ts x e in
      let free = end_no_else x.1 (next_none (end_ahead x.1) (sub x.1) m.2.stop) in
      subst (λ us. AreStmts us ts x.1) (sym m.1) (stmts_behind m.0 ts x.1 m.2.chain free)

  pub block_by_sound : (ts : List Token) (x : BlockTree × List Token) → block_by sub ts ≡ Some x → IsBlock (suc most) x.0 ts x.1
  block_by_sound ts x e =
      let a = bind_ok _ _ _ e in
      let ss = bind_ok _ _ _ a.2 in
      let b = bind_ok _ _ _ ss.2 in
      let opened = one (behind_sound s.OpenBlock ts a.0 a.1) in
      let close = one (behind_sound s.CloseBlock ss.0.1 b.0 b.1) in
      let r = stmts_sound a.0 ss.0 ss.1 in
      let first = starts_first (sign w.OpenBlock) ts a.0 (any w.OpenBlock, [], refl) opened in
      let same : (block_tree (here (line_ahead ts)) (to_stmts ss.0.0), b.0) ≡ x = some_same _ _ b.2 in
      subst (λ (y : BlockTree × List Token). IsBlock (suc most) y.0 ts y.1) same
      (record {
        shaped = (refl, r.shaped);
        spelled = begun (line_ahead ts) first (join opened (join r.spelled close));
        low = omega (arith, r.low);
      })

  record IsCase (c : CaseTree) (ts rest : List Token) : Type 0 where
    shaped : IsCaseShaped c
    spelled : Spelled (spell_case c) ts rest
    low : over_case c ≤ most

  case_sound : (ts : List Token) (x : CaseTree × List Token) → case_by most sub ts ≡ Some x → IsCase x.0 ts x.1
  case_sound ts x e =
      let l = bind_ok _ _ _ e in
      let ss = bind_ok _ _ _ l.2 in
      let f = label_sound most ts l.0 l.1 in
      let r = stmts_sound l.0.1 ss.0 ss.1 in
      let same : (a_case (here (line_ahead ts)) l.0.0 (to_stmts ss.0.0), ss.0.1) ≡ x = some_same _ _ ss.2 in
      subst (λ (y : CaseTree × List Token). IsCase y.0 ts y.1) same
      (record {
        shaped = (refl, f.shaped, r.shaped);
        spelled = begun (line_ahead ts) f.first (f.spelled _ _ r.spelled);
        low = omega (arith, f.low, r.low);
      })

  next_sound : (ts : List Token) (x : CaseTree × List Token) → next_case most sub ts ≡ Some (Some x) → IsCase x.0 ts x.1
  next_sound ts x e = case_sound ts x (next_some (sign_ahead s.CloseBlock ts) (case_by most sub ts) x e)

  pub record AreCases (xs : List CaseTree) (ts rest : List Token) : Type 0 where
    pub shaped : AreCasesShaped (to_cases xs)
    pub spelled : Spelled (spell_cases (to_cases xs)) ts rest
    pub low : over_cases (to_cases xs) ≤ most

  cases_behind : (xs : List CaseTree) (ts mid rest : List Token)
      → Chain IsCase xs ts mid → Sign w.CloseBlock mid rest → AreCases xs ts rest
  cases_behind [] ts mid rest c close =
      let spelled = subst (λ u. Spelled (sign w.CloseBlock) u rest) (sym c) (one close) in
      record { shaped = tt; spelled = spelled; low = omega arith }
  cases_behind (x ∷ xs) ts mid rest c close =
      let r = cases_behind xs c.0 mid rest c.2 close in
      record {
        shaped = (c.1.shaped, r.shaped);
        spelled = join c.1.spelled r.spelled;
        low = omega (arith, c.1.low, r.low);
      }

  pub cases_sound : (ts : List Token) (x : List CaseTree × List Token)
      → cases_by most sub ts ≡ Some x → (a : List Token) × Sign w.OpenBlock ts a × AreCases x.0 a x.1
  cases_sound ts x e =
      let a = bind_ok _ _ _ e in
      let cs = bind_ok _ _ _ a.2 in
      let b = bind_ok _ _ _ cs.2 in
      let m = onto_sound (next_case most sub) IsCase next_sound [] a.0 cs.0 cs.1 in
      let r = cases_behind m.0 a.0 cs.0.1 b.0 m.2.chain (behind_sound s.CloseBlock cs.0.1 b.0 b.1) in
      let same : (cs.0.0, b.0) ≡ x = some_same _ _ b.2 in
      let all : AreCases cs.0.0 a.0 b.0 = subst (λ us. AreCases us a.0 b.0) (sym m.1) r in
      (a.0, behind_sound s.OpenBlock ts a.0 a.1, subst (λ (y : List CaseTree × List Token). AreCases y.0 a.0 y.1) same all)
