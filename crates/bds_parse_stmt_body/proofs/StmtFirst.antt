-- What no statement begins with.
use Rattle.std.proofs.Common.{◌≡◌, ◌≢◌, ℕ, zero, suc, true, false, List, [], ◌∷◌, Some, refl, sym, ap, ◌∙◌, subst, true≢false}
use Rattle.bds_tree.specs.declared.token.Word.{Word}
use Rattle.bds_tree.specs.declared.token.Word.TheVariants as w
use Rattle.bds_tree.specs.declared.token.Token.{Token}
use Rattle.bds_tree.specs.StmtTree.{StmtTree, LineTree}
use Rattle.bds_parse_expr.specs.Reading.{first_of, begins_none}
use Rattle.bds_parse_expr.proofs.Steps.{begins}
use Rattle.bds_parse_expr.proofs.Sound.{bind_ok}
use Rattle.bds_parse_stmt_parts.specs.declared.words.Sign.TheVariants as s
use Rattle.bds_parse_stmt_parts.specs.declared.words.StmtKind.TheVariants as stmt_kinds
use Rattle.bds_parse_stmt_parts.specs.declared.words.LineKind.TheVariants as line_kinds
use Rattle.bds_parse_stmt_parts.specs.declared.words.HeadKind.TheVariants as head_kinds
use Rattle.bds_parse_stmt_parts.specs.Words.{ends_stmts, sign_ahead, end_ahead, stmt_kind, line_kind, head_kind}
use Rattle.bds_parse_stmt_parts.specs.Heads.{HeadTree}
use Rattle.bds_parse_stmt_parts.specs.Reading.{called, head_by, head, line_by_kind, line_by, statement_by_kind, reads, statement, block}
use Rattle.bds_parse_stmt_parts.proofs.Fronting.{expr_of}
use Rattle.bds_parse_stmt_parts.proofs.SignLaws.{not_true, sign_is, expr_sound}

called_first : (most : ℕ) (t : Token) (ts : List Token) (x : HeadTree × List Token) → called most (t ∷ ts) ≡ Some x → first_of t.word ≢ begins_none
called_first most t ts x e =
    let p = bind_ok _ _ _ e in
    let r = expr_sound most (t ∷ ts) p.0 p.1 in
    let b = begins p.0.0 (t ∷ ts) p.0.1 (expr_of p.0.0 r.spelled) in
    let same : t ≡ b.0 = let all : t ∷ ts ≡ b.0 ∷ b.1 = b.2 in cc in
    λ n. b.3 (ap (λ (u : Token). first_of u.word) (sym same) ∙ n)

-- a word with which nothing begins
pub record BeginsNothing (word : Word) : Type 0 where
  pub stmt : stmt_kind word ≡ stmt_kinds.Line
  pub line : line_kind word ≡ line_kinds.Head
  pub head : head_kind word ≡ head_kinds.Other
  pub expr : first_of word ≡ begins_none

pub no_stmt : (most : ℕ) (t : Token) (ts : List Token) (x : StmtTree × List Token) → BeginsNothing t.word → statement most (t ∷ ts) ≡ Some x → ⊥
unfolding reads
no_stmt zero t ts x b e = cc
no_stmt (suc most) t ts x b e =
    let l = bind_ok _ _ _ (sym (ap (λ k. statement_by_kind most (block most) (statement most) t.line k (t ∷ ts) ts) b.stmt) ∙ e) in
    let h = bind_ok _ _ _ (sym (ap (λ k. line_by_kind most (block most) k (t ∷ ts) ts) b.line) ∙ l.1) in
    called_first most t ts h.0 (sym (ap (λ k. head_by most k (t ∷ ts) ts) b.head) ∙ h.1) b.expr

else_begins : BeginsNothing w.Else
else_begins = record { stmt = refl; line = refl; head = refl; expr = refl }

end_begins : (word : Word) → ends_stmts word ≡ true → BeginsNothing word
end_begins w.CloseBlock e = record { stmt = refl; line = refl; head = refl; expr = refl }
end_begins w.Case e = record { stmt = refl; line = refl; head = refl; expr = refl }
end_begins w.Default e = record { stmt = refl; line = refl; head = refl; expr = refl }
end_begins _ e = absurd (true≢false (sym e))

pub no_else : (most : ℕ) (ts : List Token) (x : StmtTree × List Token) → statement most ts ≡ Some x → sign_ahead s.Else ts ≡ false
no_else most [] x e = refl
no_else most (t ∷ ts) x e = not_true _ (λ yes. no_stmt most t ts x (subst BeginsNothing (sym (sign_is s.Else t.word yes)) else_begins) e)

pub no_end : (most : ℕ) (ts : List Token) (x : StmtTree × List Token) → statement most ts ≡ Some x → end_ahead ts ≡ false
no_end most [] x e = refl
no_end most (t ∷ ts) x e = not_true _ (λ yes. no_stmt most t ts x (end_begins t.word yes) e)

pub head_line : (most : ℕ) (t : Token) (ts : List Token) (h : HeadTree × List Token) → head most (t ∷ ts) ≡ Some h → line_kind t.word ≡ line_kinds.Head
head_line most t ts h e = by_word t.word refl
  where
    against : (u : Word) → t.word ≡ u → head_kind u ≡ head_kinds.Other → first_of u ≡ begins_none → ⊥
    against u is k f = called_first most t ts h (sym (ap (λ j. head_by most j (t ∷ ts) ts) (ap head_kind is ∙ k)) ∙ e) (ap first_of is ∙ f)

    by_word : (u : Word) → t.word ≡ u → line_kind u ≡ line_kinds.Head
    by_word w.Print is = absurd (against w.Print is refl refl)
    by_word w.Println is = absurd (against w.Println is refl refl)
    by_word w.Error is = absurd (against w.Error is refl refl)
    by_word w.Exit is = absurd (against w.Exit is refl refl)
    by_word w.Break is = absurd (against w.Break is refl refl)
    by_word w.Continue is = absurd (against w.Continue is refl refl)
    by_word w.Return is = absurd (against w.Return is refl refl)
    by_word w.Wait is = absurd (against w.Wait is refl refl)
    by_word w.Checkpoint is = absurd (against w.Checkpoint is refl refl)
    by_word (w.Sys ps) is = absurd (against (w.Sys ps) is refl refl)
    by_word w.Task is = absurd (against w.Task is refl refl)
    by_word w.Dep is = absurd (against w.Dep is refl refl)
    by_word w.Goal is = absurd (against w.Goal is refl refl)
    by_word w.Par is = absurd (against w.Par is refl refl)
    by_word _ is = refl

pub line_stmt : (most : ℕ) (t : Token) (ts : List Token) (l : LineTree × List Token) → line_by most (block most) (t ∷ ts) ≡ Some l → stmt_kind t.word ≡ stmt_kinds.Line
line_stmt most t ts l e = by_word t.word refl
  where
    against : (u : Word) → t.word ≡ u → line_kind u ≡ line_kinds.Head → head_kind u ≡ head_kinds.Other → first_of u ≡ begins_none → ⊥
    against u is j k f =
        let h = bind_ok _ _ _ (sym (ap (λ i. line_by_kind most (block most) i (t ∷ ts) ts) (ap line_kind is ∙ j)) ∙ e) in
        called_first most t ts h.0 (sym (ap (λ i. head_by most i (t ∷ ts) ts) (ap head_kind is ∙ k)) ∙ h.1) (ap first_of is ∙ f)

    by_word : (u : Word) → t.word ≡ u → stmt_kind u ≡ stmt_kinds.Line
    by_word w.OpenBlock is = absurd (against w.OpenBlock is refl refl refl)
    by_word w.Semicolon is = absurd (against w.Semicolon is refl refl refl)
    by_word w.If is = absurd (against w.If is refl refl refl)
    by_word w.While is = absurd (against w.While is refl refl refl)
    by_word w.For is = absurd (against w.For is refl refl refl)
    by_word w.Switch is = absurd (against w.Switch is refl refl refl)
    by_word _ is = refl
