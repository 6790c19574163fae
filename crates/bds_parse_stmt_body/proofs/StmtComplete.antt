-- Each statement that is spelled is read.
use Rattle.std.proofs.Common.{◌≡◌, ℕ, zero, suc, ◌+◌, ◌≤◌, Bool, true, false, List, [], ◌∷◌, ◌++◌, Option, Some, None, refl, sym, ap, ◌∙◌, subst, arith, true≢false}
use Rattle.bds_value.specs.declared.value.At.{At}
use Rattle.bds_tree.specs.declared.token.Word.TheVariants as w
use Rattle.bds_tree.specs.declared.token.Token.{Token}
use Rattle.bds_tree.specs.Tree.{Tree}
use Rattle.bds_tree.specs.Spelling.{Mark, any, sign, spell}
use Rattle.bds_tree.specs.StmtTree.{StmtTree, StmtFormTree, LineTree, RightTree, ActTree, ActFormTree, BlockTree, StmtTrees, stmt, inner_block, empty, line, when, while, for, each, declare, infer, assign, update, step, call_line, print, println, error, exit, break, continue, return, wait, checkpoint, act_line, right_expr, right_act, act, sys, task as task_form, dep, goal, par_call, par_block, block as block_tree, no_stmts, more_stmts, no_stmt, a_stmt, no_right, a_right, to_stmts, switch, CaseTree, CaseTrees, a_case, no_cases, more_cases, to_cases}
use Rattle.bds_tree.specs.StmtShape.{IsStmtShaped, IsBlockShaped, AreStmtsShaped, is_closed, stmt_height, block_height, over_stmts, IsMaybeShaped, IsCaseShaped, AreCasesShaped, over_maybe, over_case, over_cases}
use Rattle.bds_tree.specs.StmtSpelling.{spell_type, spell_name, spell_maybe, spell_place, spell_update_op, spell_stmt, spell_stmt_form, spell_line, spell_right, spell_maybe_right, spell_start_right, spell_act, spell_act_form, spell_block, spell_stmts, line_ends_in_brace, spell_label, spell_case, spell_cases}
use Rattle.bds_parse_expr.specs.Spells.{Sign}
use Rattle.bds_parse_expr.specs.declared.words.Next.TheVariants.{Stops as stops}
use Rattle.bds_parse_expr.specs.Reading.{line_ahead}
use Rattle.bds_parse_expr.proofs.Fronts.{Nonempty, spelled as expr_spelled}
use Rattle.bds_parse_expr.proofs.Steps.{bind_some, sign_ahead as ahead_of_sign, if_true, if_false}
use Rattle.bds_parse_stmt_parts.specs.declared.words.Sign.TheVariants as s
use Rattle.bds_parse_stmt_parts.specs.Words.{sign_ahead, end_ahead}
use Rattle.bds_parse_stmt_parts.specs.Reading.{here, next_stmt, reads, statement, block, many_onto, label, case_by, next_case, cases_by}
use Rattle.bds_parse_stmt_parts.proofs.Fronting.{Spelled, cut, nothing_is, one_is, unbegun, longer, behind_any, begun_nonempty, spelled_shorter, first_is}
use Rattle.bds_parse_stmt_parts.proofs.Many.{Chain, Takes, onto_finds}
use Rattle.bds_parse_stmt_parts.proofs.SignLaws.{behind_finds, ahead_is, expr_finds, end_is, end_no_else}
use Rattle.bds_parse_stmt_parts.proofs.SmallLaws.{place_nonempty, step_nonempty}
use Rattle.bds_parse_stmt_body.proofs.StmtFirst.{no_else, no_end}
use Rattle.bds_parse_stmt_body.proofs.StmtSound.{end_marks}
use Rattle.bds_parse_stmt_body.proofs.BlockSound.{else_ahead}
use Rattle.bds_parse_stmt_body.proofs.LineComplete.{CompleteBlock, CompleteAct, CompleteActForm, CompleteRight, CompleteLine, CompleteStmt, CompleteForm, here_is, act_sys, act_task, act_dep, act_goal, act_par_call, act_par_block, act_form_spelled, by_act_form, complete_right_expr, complete_right_act, complete_declare, complete_declare_right, complete_infer, complete_assign, complete_update, complete_step, complete_call, complete_print, complete_println, complete_error, complete_exit, complete_break, complete_continue, complete_return, complete_return_right, complete_wait, complete_checkpoint, complete_alone}
use Rattle.bds_parse_stmt_body.proofs.FormComplete.{by_stmt, form_block, form_empty, form_line, test_finds, form_when, form_fork, form_while, form_each, form_for}

-- each spelling has a token

block_spelled : (b : BlockTree) → Nonempty (spell_block b)
block_spelled (block_tree at ss) = begun_nonempty at.line (sign w.OpenBlock ++ (spell_stmts ss ++ sign w.CloseBlock)) (any w.OpenBlock, spell_stmts ss ++ sign w.CloseBlock, refl)

act_spelled : (a : ActTree) → Nonempty (spell_act a)
act_spelled (act at f) = begun_nonempty at.line (spell_act_form f) (act_form_spelled f)

line_spelled : (x : LineTree) → Nonempty (spell_line x)
line_spelled (declare t n r) = behind_any (spell_type t) (spell_name n ++ spell_start_right r) (any (w.Name n), spell_start_right r, refl)
line_spelled (infer n r) = (any (w.Name n), sign w.Declare ++ spell_right r, refl)
line_spelled (assign p r) = longer (spell_place p) (sign w.Assign ++ spell_right r) (place_nonempty p)
line_spelled (update p o r) = longer (spell_place p) (spell_update_op o ++ spell_right r) (place_nonempty p)
line_spelled (step x) = step_nonempty x
line_spelled (call_line e) = expr_spelled e
line_spelled (print e) = (any w.Print, spell e, refl)
line_spelled (println e) = (any w.Println, spell_maybe e, refl)
line_spelled (error e) = (any w.Error, spell e, refl)
line_spelled (exit e) = (any w.Exit, spell e, refl)
line_spelled break = (any w.Break, [], refl)
line_spelled continue = (any w.Continue, [], refl)
line_spelled (return r) = (any w.Return, spell_maybe_right r, refl)
line_spelled (wait e) = (any w.Wait, spell_maybe e, refl)
line_spelled (checkpoint e) = (any w.Checkpoint, spell_maybe e, refl)
line_spelled (act_line a) = act_spelled a

form_spelled : (f : StmtFormTree) (b : Bool) → Nonempty (spell_stmt_form f b)
form_spelled (inner_block x) b = block_spelled x
form_spelled empty b = (any w.Semicolon, [], refl)
form_spelled (line x) b = longer (spell_line x) (end_marks b (line_ends_in_brace x)) (line_spelled x)
form_spelled (when c a e) b = (any w.If, _, refl)
form_spelled (while c a) b = (any w.While, _, refl)
form_spelled (for first c next a) b = (any w.For, _, refl)
form_spelled (each t n e a) b = (any w.For, _, refl)
form_spelled (switch e cs) b = (any w.Switch, _, refl)

pub stmt_spelled : (x : StmtTree) (b : Bool) → Nonempty (spell_stmt x b)
stmt_spelled (stmt at f) b = begun_nonempty at.line (spell_stmt_form f b) (form_spelled f b)

by_form : (at : At) (f : StmtFormTree) → CompleteForm f → CompleteStmt (stmt at f)
unfolding reads
by_form at f c zero ts rest sh sp hi cl = absurd (omega arith)
by_form at f c (suc most) ts rest sh sp hi cl =
    let u = unbegun at.line (spell_stmt_form f (else_ahead rest)) (form_spelled f (else_ahead rest)) sp in
    c most at.line ts rest sh.1 u.0 u.1 (omega arith) cl ∙ ap (λ a. Some (stmt a f, rest)) (here_is at sh.0)

listed : StmtTrees → List StmtTree
listed no_stmts = []
listed (more_stmts x ss) = x ∷ listed ss

listed_back : (ss : StmtTrees) → to_stmts (listed ss) ≡ ss
unfolding listed
listed_back no_stmts = refl
listed_back (more_stmts x ss) = ap (more_stmts x) (listed_back ss)

record AreTaken (most : ℕ) (ss : StmtTrees) (ts end : List Token) : Type 0 where
  chain : Chain (Takes (next_stmt (statement most))) (listed ss) ts end
  free : else_ahead ts ≡ false

abbrev CompleteStmts : StmtTrees → Type 0
CompleteStmts ss = (most : ℕ) (ts end : List Token)
    → AreStmtsShaped ss → Spelled (spell_stmts ss) ts end → end_ahead end ≡ true → over_stmts ss ≤ most
    → AreTaken most ss ts end

stmts_none : CompleteStmts no_stmts
unfolding listed
stmts_none most ts end sh sp stop hi =
    let none = nothing_is sp in
    record { chain = none; free = ap else_ahead none ∙ end_no_else end stop }

stmts_more : (x : StmtTree) (ss : StmtTrees) → CompleteStmt x → CompleteStmts ss → CompleteStmts (more_stmts x ss)
unfolding listed
stmts_more x ss cx css most ts end sh sp stop hi =
    let c = cut (spell_stmt x false) (spell_stmts ss) sp in
    let r = css most c.mid end sh.1 c.back stop (omega arith) in
    let front : Spelled (spell_stmt x (else_ahead c.mid)) ts c.mid =
    subst (λ b. Spelled (spell_stmt x b) ts c.mid) (sym r.free) c.front in
    let read = cx most ts c.mid sh.0 front (omega arith) (λ y. absurd (true≢false (sym y ∙ r.free))) in
    let taken : next_stmt (statement most) ts ≡ Some (Some (x, c.mid)) =
    if_false _ _ _ _ (no_end most ts (x, c.mid) read) (bind_some _ (x, c.mid) _ _ read refl) in
    let short = spelled_shorter (spell_stmt x false) ts c.mid (stmt_spelled x false) c.front in
    record { chain = (c.mid, (taken, short), r.chain); free = no_else most ts (x, c.mid) read }

stmts_find : (ss : StmtTrees) → CompleteStmts ss → (most : ℕ) (ts end : List Token)
    → AreStmtsShaped ss → Spelled (spell_stmts ss) ts end → end_ahead end ≡ true → over_stmts ss ≤ most
    → many_onto (next_stmt (statement most)) [] ts ≡ Some (listed ss, end)
stmts_find ss css most ts end sh sp stop hi =
    let r = css most ts end sh sp stop hi in
    onto_finds (next_stmt (statement most)) [] (listed ss) ts end r.chain (if_true _ _ _ _ stop refl)

by_stmts : (at : At) (ss : StmtTrees) → CompleteStmts ss → CompleteBlock (block_tree at ss)
unfolding reads
by_stmts at ss css zero ts rest sh sp hi = absurd (omega arith)
by_stmts at ss css (suc most) ts rest sh sp hi =
    let u = unbegun at.line (sign w.OpenBlock ++ (spell_stmts ss ++ sign w.CloseBlock)) (any w.OpenBlock, spell_stmts ss ++ sign w.CloseBlock, refl) sp in
    let c = cut (sign w.OpenBlock) (spell_stmts ss ++ sign w.CloseBlock) u.1 in
    let d = cut (spell_stmts ss) (sign w.CloseBlock) c.back in
    let close = one_is w.CloseBlock d.back in
    let line : here (line_ahead ts) ≡ at = ap here (first_is at.line ts u.0) ∙ here_is at sh.0 in
    let stop = end_is true w.CloseBlock d.mid rest close refl in
    bind_some _ c.mid _ _ (behind_finds s.OpenBlock ts c.mid (one_is w.OpenBlock c.front))
    (bind_some _ (listed ss, d.mid) _ _ (stmts_find ss css most c.mid d.mid sh.1 d.front stop (omega arith))
    (bind_some _ rest _ _ (behind_finds s.CloseBlock d.mid rest close) (ap (λ a. Some (block_tree a (to_stmts (listed ss)), rest)) line ∙ ap (λ x. Some (block_tree at x, rest)) (listed_back ss))))

-- cases

record Labelled (most : ℕ) (l : Option Tree) (ms : List Mark) (ts rest : List Token) : Type 0 where
  mid : List Token
  read : label most ts ≡ Some (l, mid)
  back : Spelled ms mid rest

label_finds : (l : Option Tree) (most : ℕ) (ms : List Mark) (ts rest : List Token)
    → IsMaybeShaped l → Spelled (spell_label l ++ (sign w.CaseColon ++ ms)) ts rest → over_maybe l ≤ most
    → Labelled most l ms ts rest
label_finds None most ms ts rest sh sp hi =
    let a = cut (sign w.Default) (sign w.CaseColon ++ ms) sp in
    let b = cut (sign w.CaseColon) ms a.back in
    let word = one_is w.Default a.front in
    record {
      mid = b.mid;
      read = if_true _ _ _ _ (ahead_is s.Default true w.Default ts a.mid word refl)
          (bind_some _ a.mid _ _ (behind_finds s.Default ts a.mid word)
          (bind_some _ b.mid _ _ (behind_finds s.CaseColon a.mid b.mid (one_is w.CaseColon b.front)) refl));
      back = b.back;
    }
label_finds (Some e) most ms ts rest sh sp hi =
    let a = cut (sign w.Case) (spell e ++ (sign w.CaseColon ++ ms)) sp in
    let b = cut (spell e) (sign w.CaseColon ++ ms) a.back in
    let d = cut (sign w.CaseColon) ms b.back in
    let word = one_is w.Case a.front in
    let colon = one_is w.CaseColon d.front in
    let ends = ahead_of_sign w.CaseColon stops b.mid d.mid refl colon in
    record {
      mid = d.mid;
      read = if_false _ _ _ _ (ahead_is s.Default false w.Case ts a.mid word refl)
          (bind_some _ a.mid _ _ (behind_finds s.Case ts a.mid word)
          (bind_some _ (e, b.mid) _ _ (expr_finds e most a.mid b.mid sh b.front hi ends)
          (bind_some _ d.mid _ _ (behind_finds s.CaseColon b.mid d.mid colon) refl)));
      back = d.back;
    }

label_spelled : (l : Option Tree) (ms : List Mark) → Nonempty (spell_label l ++ ms)
label_spelled None ms = (any w.Default, ms, refl)
label_spelled (Some e) ms = (any w.Case, spell e ++ ms, refl)

-- the spelling of a case, but for its line
abbrev case_marks : Option Tree → StmtTrees → List Mark
case_marks l ss = spell_label l ++ (sign w.CaseColon ++ spell_stmts ss)

marks_spelled : (l : Option Tree) (ss : StmtTrees) → Nonempty (case_marks l ss)
marks_spelled l ss = label_spelled l (sign w.CaseColon ++ spell_stmts ss)

case_spelled : (c : CaseTree) → Nonempty (spell_case c)
case_spelled (a_case at l ss) = begun_nonempty at.line (case_marks l ss) (marks_spelled l ss)

-- a case begins where the statements of the one before it end
abbrev Opens : List Token → Type 0
Opens ts = (sign_ahead s.CloseBlock ts ≡ false) × (end_ahead ts ≡ true)

label_opens : (l : Option Tree) (ms : List Mark) (ts rest : List Token) → Spelled (spell_label l ++ ms) ts rest → Opens ts
label_opens None ms ts rest f =
    let a = cut (sign w.Default) ms f in
    let word = one_is w.Default a.front in
    (ahead_is s.CloseBlock false w.Default ts a.mid word refl, end_is true w.Default ts a.mid word refl)
label_opens (Some e) ms ts rest f =
    let a = cut (sign w.Case) (spell e ++ ms) f in
    let word = one_is w.Case a.front in
    (ahead_is s.CloseBlock false w.Case ts a.mid word refl, end_is true w.Case ts a.mid word refl)

case_opens : (c : CaseTree) (ts rest : List Token) → Spelled (spell_case c) ts rest → Opens ts
case_opens (a_case at l ss) ts rest sp =
    let u = unbegun at.line (case_marks l ss) (marks_spelled l ss) sp in
    label_opens l (sign w.CaseColon ++ spell_stmts ss) ts rest u.1

abbrev CompleteCase : CaseTree → Type 0
CompleteCase c = (most : ℕ) (ts rest : List Token)
    → IsCaseShaped c → Spelled (spell_case c) ts rest → end_ahead rest ≡ true → over_case c ≤ most
    → case_by most (statement most) ts ≡ Some (c, rest)

by_label : (at : At) (l : Option Tree) (ss : StmtTrees) → CompleteStmts ss → CompleteCase (a_case at l ss)
by_label at l ss css most ts rest sh sp stop hi =
    let u = unbegun at.line (case_marks l ss) (marks_spelled l ss) sp in
    let f = label_finds l most (spell_stmts ss) ts rest sh.1 u.1 (omega arith) in
    let line : here (line_ahead ts) ≡ at = ap here (first_is at.line ts u.0) ∙ here_is at sh.0 in
    bind_some _ (l, f.mid) _ _ f.read
    (bind_some _ (listed ss, rest) _ _ (stmts_find ss css most f.mid rest sh.2 f.back stop (omega arith))
    (ap (λ a. Some (a_case a l (to_stmts (listed ss)), rest)) line
    ∙ ap (λ x. Some (a_case at l x, rest)) (listed_back ss)))

listed_cases : CaseTrees → List CaseTree
listed_cases no_cases = []
listed_cases (more_cases c cs) = c ∷ listed_cases cs

cases_back : (cs : CaseTrees) → to_cases (listed_cases cs) ≡ cs
unfolding listed_cases
cases_back no_cases = refl
cases_back (more_cases c cs) = ap (more_cases c) (cases_back cs)

record AreCasesTaken (most : ℕ) (cs : CaseTrees) (ts rest : List Token) : Type 0 where
  end : List Token
  close : Sign w.CloseBlock end rest
  chain : Chain (Takes (next_case most (statement most))) (listed_cases cs) ts end
  stop : end_ahead ts ≡ true

abbrev CompleteCases : CaseTrees → Type 0
CompleteCases cs = (most : ℕ) (ts rest : List Token)
    → AreCasesShaped cs → Spelled (spell_cases cs) ts rest → over_cases cs ≤ most → AreCasesTaken most cs ts rest

cases_none : CompleteCases no_cases
unfolding listed_cases
cases_none most ts rest sh sp hi =
    let close = one_is w.CloseBlock sp in
    record { end = ts; close = close; chain = refl; stop = end_is true w.CloseBlock ts rest close refl }

cases_more : (c : CaseTree) (cs : CaseTrees) → CompleteCase c → CompleteCases cs → CompleteCases (more_cases c cs)
unfolding listed_cases
cases_more c cs cc ccs most ts rest sh sp hi =
    let d = cut (spell_case c) (spell_cases cs) sp in
    let r = ccs most d.mid rest sh.1 d.back (omega arith) in
    let opens = case_opens c ts d.mid d.front in
    let read = cc most ts d.mid sh.0 d.front r.stop (omega arith) in
    let taken : next_case most (statement most) ts ≡ Some (Some (c, d.mid)) =
    if_false _ _ _ _ opens.0 (bind_some _ (c, d.mid) _ _ read refl) in
    let short = spelled_shorter (spell_case c) ts d.mid (case_spelled c) d.front in
    record { end = r.end; close = r.close; chain = (d.mid, (taken, short), r.chain); stop = opens.1 }

cases_find : (cs : CaseTrees) → CompleteCases cs → (most : ℕ) (ts rest : List Token)
    → AreCasesShaped cs → Spelled (sign w.OpenBlock ++ spell_cases cs) ts rest → over_cases cs ≤ most
    → cases_by most (statement most) ts ≡ Some (listed_cases cs, rest)
cases_find cs ccs most ts rest sh sp hi =
    let next = next_case most (statement most) in
    let o = cut (sign w.OpenBlock) (spell_cases cs) sp in
    let r = ccs most o.mid rest sh o.back hi in
    let stop : next r.end ≡ Some None =
    if_true _ _ _ _ (ahead_is s.CloseBlock true w.CloseBlock r.end rest r.close refl) refl in
    bind_some _ o.mid _ _ (behind_finds s.OpenBlock ts o.mid (one_is w.OpenBlock o.front))
    (bind_some _ (listed_cases cs, r.end) _ _ (onto_finds next [] (listed_cases cs) o.mid r.end r.chain stop)
    (bind_some _ rest _ _ (behind_finds s.CloseBlock r.end rest r.close) refl))

form_switch : (e : Tree) (cs : CaseTrees) → CompleteCases cs → CompleteForm (switch e cs)
form_switch e cs ccs most l ts rest sh st sp hi cl =
    let f = cut (sign w.Switch)
    (sign w.OpenRound ++ (spell e ++ (sign w.CloseRound ++ (sign w.OpenBlock ++ spell_cases cs)))) sp in
    let t = test_finds most e (sign w.OpenBlock ++ spell_cases cs) f.mid rest sh.0 f.back (omega arith) in
    by_stmt most l w.Switch ts f.mid (stmt (here l) (switch e cs), rest) st (one_is w.Switch f.front)
    (bind_some _ (e, t.mid) _ _ t.read
    (bind_some _ (listed_cases cs, rest) _ _ (cases_find cs ccs most t.mid rest sh.1 t.back (omega arith))
    (ap (λ x. Some (stmt (here l) (switch e x), rest)) (cases_back cs))))

mutual
  pub complete_stmt : (x : StmtTree) → CompleteStmt x
  complete_stmt (stmt at f) = by_form at f (complete_form f)

  complete_form : (f : StmtFormTree) → CompleteForm f
  complete_form (inner_block b) = form_block b (complete_block b)
  complete_form empty = form_empty
  complete_form (line x) = form_line x (complete_line x)
  complete_form (when c a no_stmt) = form_when c a (complete_stmt a)
  complete_form (when c a (a_stmt b)) = form_fork c a b (complete_stmt a) (complete_stmt b)
  complete_form (while c a) = form_while c a (complete_stmt a)
  complete_form (for first c next a) = form_for first c next a (complete_stmt a)
  complete_form (each t n e a) = form_each t n e a (complete_stmt a)
  complete_form (switch e cs) = form_switch e cs (complete_cases cs)

  complete_cases : (cs : CaseTrees) → CompleteCases cs
  complete_cases no_cases = cases_none
  complete_cases (more_cases c cs) = cases_more c cs (complete_case c) (complete_cases cs)

  complete_case : (c : CaseTree) → CompleteCase c
  complete_case (a_case at l ss) = by_label at l ss (complete_stmts ss)

  complete_line : (x : LineTree) → CompleteLine x
  complete_line (declare t n no_right) = complete_declare t n
  complete_line (declare t n (a_right r)) = complete_declare_right t n r (complete_right r)
  complete_line (infer n r) = complete_infer n r (complete_right r)
  complete_line (assign p r) = complete_assign p r (complete_right r)
  complete_line (update p o r) = complete_update p o r (complete_right r)
  complete_line (step x) = complete_step x
  complete_line (call_line e) = complete_call e
  complete_line (print e) = complete_print e
  complete_line (println e) = complete_println e
  complete_line (error e) = complete_error e
  complete_line (exit e) = complete_exit e
  complete_line break = complete_break
  complete_line continue = complete_continue
  complete_line (return no_right) = complete_return
  complete_line (return (a_right r)) = complete_return_right r (complete_right r)
  complete_line (wait e) = complete_wait e
  complete_line (checkpoint e) = complete_checkpoint e
  complete_line (act_line a) = complete_alone a (complete_act a)

  complete_right : (r : RightTree) → CompleteRight r
  complete_right (right_expr e) = complete_right_expr e
  complete_right (right_act a) = complete_right_act a (complete_act a)

  complete_act : (a : ActTree) → CompleteAct a
  complete_act (act at f) = by_act_form at f (complete_act_form f)

  complete_act_form : (f : ActFormTree) → CompleteActForm f
  complete_act_form (sys ps) = act_sys ps
  complete_act_form (task_form os b) = act_task os b
  complete_act_form (dep os b) = act_dep os b
  complete_act_form (goal e) = act_goal e
  complete_act_form (par_call n es) = act_par_call n es
  complete_act_form (par_block b) = act_par_block b (complete_block b)

  pub complete_block : (b : BlockTree) → CompleteBlock b
  complete_block (block_tree at ss) = by_stmts at ss (complete_stmts ss)

  complete_stmts : (ss : StmtTrees) → CompleteStmts ss
  complete_stmts no_stmts = stmts_none
  complete_stmts (more_stmts x ss) = stmts_more x ss (complete_stmt x) (complete_stmts ss)

pub stmt_finds : (x : StmtTree) (most : ℕ) (ts rest : List Token) → IsStmtShaped x → Spelled (spell_stmt x (else_ahead rest)) ts rest → stmt_height x + 1 ≤ most → (else_ahead rest ≡ true → is_closed x ≡ true) → statement most ts ≡ Some (x, rest)
stmt_finds = complete_stmt

pub block_finds : (b : BlockTree) (most : ℕ) (ts rest : List Token) → IsBlockShaped b → Spelled (spell_block b) ts rest → block_height b + 1 ≤ most → block most ts ≡ Some (b, rest)
block_finds = complete_block
