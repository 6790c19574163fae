-- Each `if` and each loop that is spelled is read.
use Rattle.std.proofs.Common.{◌≡◌, ℕ, ◌≤◌, Bool, true, false, List, [], ◌∷◌, ◌++◌, Option, Some, None, refl, sym, ap, ◌∙◌, subst, arith, true≢false}
use Rattle.bds_value.specs.declared.value.Ty.{Ty}
use Rattle.bds_value.specs.Options.{◌>>=◌}
use Rattle.bds_tree.specs.declared.token.Word.{Word}
use Rattle.bds_tree.specs.declared.token.Word.TheVariants as w
use Rattle.bds_tree.specs.declared.token.Token.{Token}
use Rattle.bds_tree.specs.Tree.{Tree}
use Rattle.bds_tree.specs.Shape.{Shaped}
use Rattle.bds_tree.specs.Spelling.{Mark, sign, spell}
use Rattle.bds_tree.specs.StmtTree.{SmallTree, small_declare, StmtTree, LineTree, BlockTree, stmt, inner_block, empty, line, when, while, for, each, no_stmt, a_stmt}
use Rattle.bds_tree.specs.StmtShape.{over}
use Rattle.bds_tree.specs.StmtSpelling.{spell_type, spell_name, spell_maybe, spell_small, spell_stmt, spell_line, line_ends_in_brace}
use Rattle.bds_parse_expr.specs.Spells.{token, Sign, Starts}
use Rattle.bds_parse_expr.specs.declared.words.Next.TheVariants.{Stops as stops}
use Rattle.bds_parse_expr.specs.Reading.{behind, name_at, line_ahead}
use Rattle.bds_parse_expr.proofs.Steps.{bind_some, sign_ahead as ahead_of_sign, if_true, if_false}
use Rattle.bds_parse_expr.proofs.Sound.{bind_ok, some_same}
use Rattle.bds_parse_stmt_parts.specs.declared.words.Sign.TheVariants as s
use Rattle.bds_parse_stmt_parts.specs.Words.{is_sign, nothing_ahead, stmt_kind, line_end}
use Rattle.bds_parse_stmt_parts.specs.Types.{type_at}
use Rattle.bds_parse_stmt_parts.specs.Heads.{declares}
use Rattle.bds_parse_stmt_parts.specs.Reading.{here, line_by, head, test, maybe_expr, maybe_small, each_front, for_parts, for_by, statement_by_kind, statement_by, statement, block}
use Rattle.bds_parse_stmt_parts.proofs.Fronting.{Spelled, cut, nothing_is, one_is}
use Rattle.bds_parse_stmt_parts.proofs.SignLaws.{behind_sound, behind_finds, ahead_is, nothing_is as no_stop, not_true, none_of, sign_there, expr_finds, name_finds}
use Rattle.bds_parse_stmt_parts.proofs.TypeLaws.{type_finds}
use Rattle.bds_parse_stmt_parts.proofs.HeadLaws.{no_head, by_type}
use Rattle.bds_parse_stmt_parts.proofs.SmallLaws.{maybe_finds, maybe_small_finds}
use Rattle.bds_parse_stmt_body.proofs.StmtFirst.{line_stmt}
use Rattle.bds_parse_stmt_body.proofs.StmtSound.{end_marks}
use Rattle.bds_parse_stmt_body.proofs.BlockSound.{else_ahead}
use Rattle.bds_parse_stmt_body.proofs.LineComplete.{CompleteBlock, CompleteLine, CompleteStmt, CompleteForm, line_is, block_opens}

end_finds : (braced : Bool) (ts rest : List Token) → Spelled (end_marks (else_ahead rest) braced) ts rest → (line_end braced ts ≡ Some rest) × (braced ≡ false → nothing_ahead ts ≡ true)
end_finds true ts rest sp = (ap Some (all (else_ahead rest) sp), λ e. absurd (true≢false e))
  where
    all : (b : Bool) → Spelled (end_marks b true) ts rest → ts ≡ rest
    all true f = nothing_is f
    all false f = nothing_is f
end_finds false ts rest sp = by_else (else_ahead rest) refl sp
  where
    by_else : (b : Bool) → else_ahead rest ≡ b → Spelled (end_marks b false) ts rest → (line_end false ts ≡ Some rest) × (false ≡ false → nothing_ahead ts ≡ true)
    by_else true e f =
        let same = nothing_is f in
        let there = sign_there s.Else rest e in
        (if_true _ _ _ _ (ap else_ahead same ∙ e) (ap Some same), λ r. ap nothing_ahead same ∙ no_stop true w.Else rest there.0 there.1 refl)
    by_else false e f =
        let semicolon = one_is w.Semicolon f in (
          if_false _ _ _ _ (ahead_is s.Else false w.Semicolon ts rest semicolon refl) (bind_some _ rest _ _ (behind_finds s.Semicolon ts rest semicolon) (if_false _ _ _ _ e refl)),
          λ r. no_stop true w.Semicolon ts rest semicolon refl,
        )

-- a statement, by its first word
pub by_stmt : (most l : ℕ) (word : Word) (ts a : List Token) (x : StmtTree × List Token) → Starts l ts → Sign word ts a → statement_by_kind most (block most) (statement most) l (stmt_kind word) ts a ≡ Some x → statement_by most (block most) (statement most) ts ≡ Some x
by_stmt most l word ts a x st f e =
    ap (statement_by most (block most) (statement most)) f.1
    ∙ ap (λ k. statement_by_kind most (block most) (statement most) k (stmt_kind word) (token f.0 word ∷ a) a) (line_is l word ts a st f)
    ∙ sym (ap (λ u. statement_by_kind most (block most) (statement most) l (stmt_kind word) u a) f.1) ∙ e

pub form_block : (b : BlockTree) → CompleteBlock b → CompleteForm (inner_block b)
form_block b cb most l ts rest sh st sp hi cl =
    let o = block_opens b ts rest sp in
    by_stmt most l w.OpenBlock ts o.1 (stmt (here l) (inner_block b), rest) st o.3 (bind_some _ (b, rest) _ _ (cb most ts rest sh sp hi) refl)

pub form_empty : CompleteForm empty
form_empty most l ts rest sh st sp hi cl = by_stmt most l w.Semicolon ts rest (stmt (here l) empty, rest) st (one_is w.Semicolon sp) refl

pub form_line : (x : LineTree) → CompleteLine x → CompleteForm (line x)
form_line x cx most l ts rest sh st sp hi cl =
    let c = cut (spell_line x) (end_marks (else_ahead rest) (line_ends_in_brace x)) sp in
    let end = end_finds (line_ends_in_brace x) c.mid rest c.back in
    let read : line_by most (block most) (st.0 ∷ st.1) ≡ Some (x, c.mid) = subst (λ u. line_by most (block most) u ≡ Some (x, c.mid)) st.2 (cx most ts c.mid sh c.front hi end.1) in
    ap (statement_by most (block most) (statement most)) st.2
    ∙ ap (λ k. statement_by_kind most (block most) (statement most) st.0.line k (st.0 ∷ st.1) st.1) (line_stmt most st.0 st.1 (x, c.mid) read)
    ∙ bind_some _ (x, c.mid) _ _ read (bind_some _ rest _ _ end.0 (ap (λ k. Some (stmt (here k) (line x), rest)) st.3))

pub record Tested (most : ℕ) (c : Tree) (ms : List Mark) (ts rest : List Token) : Type 0 where
  pub mid : List Token
  pub read : test most ts ≡ Some (c, mid)
  pub back : Spelled ms mid rest

pub test_finds : (most : ℕ) (c : Tree) (ms : List Mark) (ts rest : List Token) → Shaped c → Spelled (sign w.OpenRound ++ (spell c ++ (sign w.CloseRound ++ ms))) ts rest → over c ≤ most → Tested most c ms ts rest
test_finds most c ms ts rest sh sp hi =
    let a = cut (sign w.OpenRound) (spell c ++ (sign w.CloseRound ++ ms)) sp in
    let b = cut (spell c) (sign w.CloseRound ++ ms) a.back in
    let d = cut (sign w.CloseRound) ms b.back in
    let close = one_is w.CloseRound d.front in
    record {
      mid = d.mid;
      read = bind_some _ a.mid _ _ (behind_finds s.OpenRound ts a.mid (one_is w.OpenRound a.front))
          (bind_some _ (c, b.mid) _ _ (expr_finds c most a.mid b.mid sh b.front hi (ahead_of_sign w.CloseRound stops b.mid d.mid refl close))
          (bind_some _ d.mid _ _ (behind_finds s.CloseRound b.mid d.mid close) refl));
      back = d.back;
    }

pub form_when : (c : Tree) (a : StmtTree) → CompleteStmt a → CompleteForm (when c a no_stmt)
form_when c a ca most l ts rest sh st sp hi cl =
    let free : else_ahead rest ≡ false = not_true _ (λ y. true≢false (sym (cl y))) in
    let f = cut (sign w.If) (sign w.OpenRound ++ (spell c ++ (sign w.CloseRound ++ (spell_stmt a (else_ahead rest) ++ [])))) sp in
    let t = test_finds most c (spell_stmt a (else_ahead rest) ++ []) f.mid rest sh.0 f.back (omega arith) in
    let d = cut (spell_stmt a (else_ahead rest)) [] t.back in
    let inner : Spelled (spell_stmt a (else_ahead rest)) t.mid rest = subst (λ u. Spelled (spell_stmt a (else_ahead rest)) t.mid u) (nothing_is d.back) d.front in
    by_stmt most l w.If ts f.mid (stmt (here l) (when c a no_stmt), rest) st (one_is w.If f.front)
    (bind_some _ (c, t.mid) _ _ t.read
    (bind_some _ (a, rest) _ _ (ca most t.mid rest sh.1 inner (omega arith) (λ y. absurd (true≢false (sym y ∙ free))))
    (if_false _ _ _ _ free refl)))

pub form_fork : (c : Tree) (a b : StmtTree) → CompleteStmt a → CompleteStmt b → CompleteForm (when c a (a_stmt b))
form_fork c a b ca cb most l ts rest sh st sp hi cl =
    let f = cut (sign w.If) (sign w.OpenRound ++ (spell c ++ (sign w.CloseRound ++ (spell_stmt a true ++ (sign w.Else ++ spell_stmt b (else_ahead rest)))))) sp in
    let t = test_finds most c (spell_stmt a true ++ (sign w.Else ++ spell_stmt b (else_ahead rest))) f.mid rest sh.0 f.back (omega arith) in
    let d = cut (spell_stmt a true) (sign w.Else ++ spell_stmt b (else_ahead rest)) t.back in
    let g = cut (sign w.Else) (spell_stmt b (else_ahead rest)) d.back in
    let other = one_is w.Else g.front in
    let is : else_ahead d.mid ≡ true = ahead_is s.Else true w.Else d.mid g.mid other refl in
    let inner : Spelled (spell_stmt a (else_ahead d.mid)) t.mid d.mid = subst (λ k. Spelled (spell_stmt a k) t.mid d.mid) (sym is) d.front in
    by_stmt most l w.If ts f.mid (stmt (here l) (when c a (a_stmt b)), rest) st (one_is w.If f.front)
    (bind_some _ (c, t.mid) _ _ t.read
    (bind_some _ (a, d.mid) _ _ (ca most t.mid d.mid sh.1 inner (omega arith) (λ y. sh.2.0))
    (if_true _ _ _ _ is (if_false _ _ _ _ sh.2.1
    (bind_some _ g.mid _ _ (behind_finds s.Else d.mid g.mid other)
    (bind_some _ (b, rest) _ _ (cb most g.mid rest sh.2.2 g.back (omega arith) cl) refl))))))

pub form_while : (c : Tree) (a : StmtTree) → CompleteStmt a → CompleteForm (while c a)
form_while c a ca most l ts rest sh st sp hi cl =
    let f = cut (sign w.While) (sign w.OpenRound ++ (spell c ++ (sign w.CloseRound ++ spell_stmt a (else_ahead rest)))) sp in
    let t = test_finds most c (spell_stmt a (else_ahead rest)) f.mid rest sh.0 f.back (omega arith) in
    by_stmt most l w.While ts f.mid (stmt (here l) (while c a), rest) st (one_is w.While f.front)
    (bind_some _ (c, t.mid) _ _ t.read (bind_some _ (a, rest) _ _ (ca most t.mid rest sh.1 t.back (omega arith) cl) refl))

pub form_each : (t : Ty) (n : List ℕ) (e : Tree) (a : StmtTree) → CompleteStmt a → CompleteForm (each t n e a)
form_each t n e a ca most l ts rest sh st sp hi cl =
    let c1 = cut (sign w.For) _ sp in
    let c2 = cut (sign w.OpenRound) (spell_type t ++ (spell_name n ++ (sign w.Colon ++ (spell e ++ (sign w.CloseRound ++ spell_stmt a (else_ahead rest)))))) c1.back in
    let c3 = cut (spell_type t) (spell_name n ++ (sign w.Colon ++ (spell e ++ (sign w.CloseRound ++ spell_stmt a (else_ahead rest))))) c2.back in
    let c4 = cut (spell_name n) (sign w.Colon ++ (spell e ++ (sign w.CloseRound ++ spell_stmt a (else_ahead rest)))) c3.back in
    let c5 = cut (sign w.Colon) (spell e ++ (sign w.CloseRound ++ spell_stmt a (else_ahead rest))) c4.back in
    let c6 = cut (spell e) (sign w.CloseRound ++ spell_stmt a (else_ahead rest)) c5.back in
    let c7 = cut (sign w.CloseRound) (spell_stmt a (else_ahead rest)) c6.back in
    let name = one_is (w.Name n) c4.front in
    let close = one_is w.CloseRound c7.front in
    let front : each_front most c2.mid ≡ Some ((t, n), c5.mid) =
    bind_some _ (t, c3.mid) _ _ (type_finds t most n c2.mid c3.mid c4.mid sh.0 c3.front (omega arith) name)
    (bind_some _ (n, c4.mid) _ _ (name_finds n c3.mid c4.mid name) (bind_some _ c5.mid _ _ (behind_finds s.Colon c4.mid c5.mid (one_is w.Colon c5.front)) refl)) in
    by_stmt most l w.For ts c1.mid (stmt (here l) (each t n e a), rest) st (one_is w.For c1.front)
    (bind_some _ c2.mid _ _ (behind_finds s.OpenRound c1.mid c2.mid (one_is w.OpenRound c2.front))
    (ap (for_by most (statement most) l c2.mid) front
    ∙ bind_some _ (e, c6.mid) _ _ (expr_finds e most c5.mid c6.mid sh.1 c6.front (omega arith) (ahead_of_sign w.CloseRound stops c6.mid c7.mid refl close))
    (bind_some _ c7.mid _ _ (behind_finds s.CloseRound c6.mid c7.mid close)
    (bind_some _ (a, rest) _ _ (ca most c7.mid rest sh.2 c7.back (omega arith) cl) refl))))

-- the head of a `for` with two `;` isn't one with a `:`
not_each : (most : ℕ) (ts : List Token) (p : (Option SmallTree × Option Tree × Option SmallTree) × List Token) → for_parts most ts ≡ Some p → each_front most ts ≡ None
not_each most ts p e = none_of _ (λ x f. against x f)
  where
    against : (x : (Ty × List ℕ) × List Token) → each_front most ts ≡ Some x → ⊥
    against x f =
        let t = bind_ok (type_at most ts) (λ t. name_at t.1 >>= λ n. behind (is_sign s.Colon) n.1 >>= λ rest. Some ((t.0, n.0), rest)) x f in
        let n = bind_ok (name_at t.0.1) (λ n. behind (is_sign s.Colon) n.1 >>= λ rest. Some ((t.0.0, n.0), rest)) x t.2 in
        let b = bind_ok (behind (is_sign s.Colon) n.0.1) _ x n.2 in
        let colon = behind_sound s.Colon n.0.1 b.0 b.1 in
        let first = bind_ok (maybe_small most ts) (λ f. behind (is_sign s.Semicolon) f.1 >>= λ a. maybe_expr most a >>= λ c. behind (is_sign s.Semicolon) c.1 >>= λ b. maybe_small most b >>= λ n. behind (is_sign s.CloseRound) n.1 >>= λ rest. Some ((f.0, c.0, n.0), rest)) p e in
        let next = bind_ok (behind (is_sign s.Semicolon) first.0.1) _ _ first.2 in
        let read : head most ts ≡ Some (declares t.0.0 n.0.0, n.0.1) = by_type most ts t.0 t.1 ∙ bind_some _ t.0 _ _ t.1 (bind_some _ n.0 _ _ n.1 refl) in
        let there : nothing_ahead ts ≡ false = not_true _ (λ yes. no_head most ts (declares t.0.0 n.0.0, n.0.1) yes read) in
        let part : maybe_small most ts ≡ Some (Some (record { at = here (line_ahead ts); form = small_declare t.0.0 n.0.0 None }), n.0.1) =
        if_false _ _ _ _ there (bind_some _ (record { at = here (line_ahead ts); form = small_declare t.0.0 n.0.0 None }, n.0.1) _ _
        (bind_some _ (declares t.0.0 n.0.0, n.0.1) _ _ read (bind_some _ (small_declare t.0.0 n.0.0 None, n.0.1) _ _
        (bind_some _ (None, n.0.1) _ _ (if_false _ _ _ _ (ahead_is s.Assign false w.Colon n.0.1 b.0 colon refl) refl) refl) refl)) refl) in
        let same = some_same _ _ (sym part ∙ first.1) in
        let semicolon : behind (is_sign s.Semicolon) n.0.1 ≡ Some next.0 = subst (λ (y : Option SmallTree × List Token). behind (is_sign s.Semicolon) y.1 ≡ Some next.0) (sym same) next.1 in
        let stop = behind_sound s.Semicolon n.0.1 next.0 semicolon in
        true≢false (sym (ahead_is s.Semicolon true w.Semicolon n.0.1 next.0 stop refl) ∙ ahead_is s.Semicolon false w.Colon n.0.1 b.0 colon refl)

pub form_for : (first : Option SmallTree) (c : Option Tree) (next : Option SmallTree) (a : StmtTree) → CompleteStmt a → CompleteForm (for first c next a)
form_for first c next a ca most l ts rest sh st sp hi cl =
    let c1 = cut (sign w.For) _ sp in
    let c2 = cut (sign w.OpenRound) (spell_small first ++ (sign w.Semicolon ++ (spell_maybe c ++ (sign w.Semicolon ++ (spell_small next ++ (sign w.CloseRound ++ spell_stmt a (else_ahead rest))))))) c1.back in
    let c3 = cut (spell_small first) (sign w.Semicolon ++ (spell_maybe c ++ (sign w.Semicolon ++ (spell_small next ++ (sign w.CloseRound ++ spell_stmt a (else_ahead rest)))))) c2.back in
    let c4 = cut (sign w.Semicolon) (spell_maybe c ++ (sign w.Semicolon ++ (spell_small next ++ (sign w.CloseRound ++ spell_stmt a (else_ahead rest))))) c3.back in
    let c5 = cut (spell_maybe c) (sign w.Semicolon ++ (spell_small next ++ (sign w.CloseRound ++ spell_stmt a (else_ahead rest)))) c4.back in
    let c6 = cut (sign w.Semicolon) (spell_small next ++ (sign w.CloseRound ++ spell_stmt a (else_ahead rest))) c5.back in
    let c7 = cut (spell_small next) (sign w.CloseRound ++ spell_stmt a (else_ahead rest)) c6.back in
    let c8 = cut (sign w.CloseRound) (spell_stmt a (else_ahead rest)) c7.back in
    let end1 = one_is w.Semicolon c4.front in
    let end2 = one_is w.Semicolon c6.front in
    let end3 = one_is w.CloseRound c8.front in
    let read : for_parts most c2.mid ≡ Some ((first, c, next), c8.mid) =
    bind_some _ (first, c3.mid) _ _ (maybe_small_finds first most c2.mid c3.mid sh.0 c3.front (omega arith) (no_stop true w.Semicolon c3.mid c4.mid end1 refl))
    (bind_some _ c4.mid _ _ (behind_finds s.Semicolon c3.mid c4.mid end1)
    (bind_some _ (c, c5.mid) _ _ (maybe_finds c most c4.mid c5.mid sh.1 c5.front (omega arith) (no_stop true w.Semicolon c5.mid c6.mid end2 refl))
    (bind_some _ c6.mid _ _ (behind_finds s.Semicolon c5.mid c6.mid end2)
    (bind_some _ (next, c7.mid) _ _ (maybe_small_finds next most c6.mid c7.mid sh.2 c7.front (omega arith) (no_stop true w.CloseRound c7.mid c8.mid end3 refl))
    (bind_some _ c8.mid _ _ (behind_finds s.CloseRound c7.mid c8.mid end3) refl))))) in
    by_stmt most l w.For ts c1.mid (stmt (here l) (for first c next a), rest) st (one_is w.For c1.front)
    (bind_some _ c2.mid _ _ (behind_finds s.OpenRound c1.mid c2.mid (one_is w.OpenRound c2.front))
    (ap (for_by most (statement most) l c2.mid) (not_each most c2.mid ((first, c, next), c8.mid) read)
    ∙ bind_some _ ((first, c, next), c8.mid) _ _ read (bind_some _ (a, rest) _ _ (ca most c8.mid rest sh.3 c8.back (omega arith) cl) refl)))
