-- Each act and each line that is spelled is read.
use Rattle.std.proofs.Common.{◌≡◌, ◌≢◌, ℕ, ◌+◌, ◌≤◌, true, false, List, [], ◌∷◌, ◌++◌, Option, Some, None, refl, sym, ap, ◌∙◌, subst, arith}
use Rattle.bds_value.specs.declared.value.At.{At}
use Rattle.bds_value.specs.declared.value.Ty.{Ty}
use Rattle.bds_tree.specs.declared.token.Word.{Word}
use Rattle.bds_tree.specs.declared.token.Word.TheVariants as w
use Rattle.bds_tree.specs.declared.token.Token.{Token}
use Rattle.bds_tree.specs.declared.token.Piece.{Piece}
use Rattle.bds_tree.specs.declared.stmt.Body.{Body}
use Rattle.bds_tree.specs.declared.stmt.UpdateOp.{UpdateOp}
use Rattle.bds_tree.specs.Tree.{Tree, Trees}
use Rattle.bds_tree.specs.Shape.{Shaped}
use Rattle.bds_tree.specs.Spelling.{any, sign, spell, spell_all}
use Rattle.bds_tree.specs.StmtTree.{SettingTree, StmtTree, StmtFormTree, LineTree, RightTree, ActTree, ActFormTree, BlockTree, PlaceTree, StepTree, stmt, declare, infer, assign, update, step, call_line, print, println, error, exit, break, continue, return, wait, checkpoint, act_line, right_expr, right_act, act, sys, task as task_form, dep, goal, par_call, par_block, block as block_tree, no_right, a_right}
use Rattle.bds_tree.specs.StmtShape.{IsBodyShaped, IsStmtShaped, IsStmtFormShaped, IsLineShaped, IsRightShaped, IsActShaped, IsActFormShaped, IsBlockShaped, is_closed, is_closed_form, over, over_line, over_right, over_act, over_act_form, over_stmt_form, stmt_height, block_height}
use Rattle.bds_tree.specs.StmtSpelling.{spell_type, spell_name, spell_maybe, spell_place, spell_update_op, spell_settings, spell_maybe_settings, spell_body, spell_stmt, spell_stmt_form, spell_line, spell_right, spell_act, spell_act_form, spell_block, spell_stmts, form_ends_in_brace, act_ends_in_brace, right_ends_in_brace, line_ends_in_brace}
use Rattle.bds_parse_expr.specs.Spells.{token, Sign, Starts}
use Rattle.bds_parse_expr.specs.Reading.{is_close_round, expression, first_of, begins_none, line_ahead}
use Rattle.bds_parse_expr.proofs.Fronts.{Nonempty}
use Rattle.bds_parse_expr.proofs.Steps.{bind_some, if_true, if_false, begins as expr_begins}
use Rattle.bds_parse_expr.proofs.Complete.{finds_all, by_round}
use Rattle.bds_parse_stmt_parts.specs.declared.words.Sign.TheVariants as s
use Rattle.bds_parse_stmt_parts.specs.declared.words.LineKind.TheVariants as line_kinds
use Rattle.bds_parse_stmt_parts.specs.Words.{is_sign, is_act, is_stop, sign_ahead, nothing_ahead, line_kind}
use Rattle.bds_parse_stmt_parts.specs.Heads.{HeadTree, declares, infers, assigns, updates, steps, calls}
use Rattle.bds_parse_stmt_parts.specs.Reading.{here, body, act_by_word, act_by, act_ahead, right_by, maybe_right, line_by_head, line_by_kind, line_by, head, statement_by, statement, block}
use Rattle.bds_parse_stmt_parts.proofs.Fronting.{Spelled, join, cut, nothing_is, one_is, unbegun, all_of, expr_of, first_is}
use Rattle.bds_parse_stmt_parts.proofs.SignLaws.{behind_finds, ahead_is, nothing_is as no_stop, stop_ahead, expr_there, expr_finds, name_finds}
use Rattle.bds_parse_stmt_parts.proofs.HeadLaws.{head_finds}
use Rattle.bds_parse_stmt_parts.proofs.SmallLaws.{maybe_finds, stop_no_assign}
use Rattle.bds_parse_stmt_parts.proofs.ActLaws.{settings_finds, body_finds}
use Rattle.bds_parse_stmt_body.proofs.StmtFirst.{head_line}
use Rattle.bds_parse_stmt_body.proofs.BlockSound.{else_ahead}

abbrev pub CompleteBlock : BlockTree → Type 0
CompleteBlock b = (most : ℕ) (ts rest : List Token) → IsBlockShaped b → Spelled (spell_block b) ts rest → block_height b + 1 ≤ most → block most ts ≡ Some (b, rest)

abbrev pub CompleteAct : ActTree → Type 0
CompleteAct a = (most : ℕ) (ts rest : List Token) → IsActShaped a → Spelled (spell_act a) ts rest → over_act a ≤ most → (act_ends_in_brace a ≡ false → nothing_ahead rest ≡ true) → act_by most (block most) ts ≡ Some (a, rest)

-- an act as it is read
abbrev pub CompleteActForm : ActFormTree → Type 0
CompleteActForm f = (most l : ℕ) (ts rest : List Token) → IsActFormShaped f → Starts l ts → Spelled (spell_act_form f) ts rest → over_act_form f ≤ most → (form_ends_in_brace f ≡ false → nothing_ahead rest ≡ true) → act_by most (block most) ts ≡ Some (act (here l) f, rest)

abbrev pub CompleteRight : RightTree → Type 0
CompleteRight r = (most : ℕ) (ts rest : List Token) → IsRightShaped r → Spelled (spell_right r) ts rest → over_right r ≤ most → (right_ends_in_brace r ≡ false → nothing_ahead rest ≡ true) → right_by most (block most) ts ≡ Some (r, rest)

abbrev pub CompleteLine : LineTree → Type 0
CompleteLine l = (most : ℕ) (ts rest : List Token) → IsLineShaped l → Spelled (spell_line l) ts rest → over_line l ≤ most → (line_ends_in_brace l ≡ false → nothing_ahead rest ≡ true) → line_by most (block most) ts ≡ Some (l, rest)

abbrev pub CompleteStmt : StmtTree → Type 0
CompleteStmt x = (most : ℕ) (ts rest : List Token) → IsStmtShaped x → Spelled (spell_stmt x (else_ahead rest)) ts rest → stmt_height x + 1 ≤ most → (else_ahead rest ≡ true → is_closed x ≡ true) → statement most ts ≡ Some (x, rest)

abbrev pub CompleteForm : StmtFormTree → Type 0
CompleteForm f = (most l : ℕ) (ts rest : List Token) → IsStmtFormShaped f → Starts l ts → Spelled (spell_stmt_form f (else_ahead rest)) ts rest → over_stmt_form f ≤ most → (else_ahead rest ≡ true → is_closed_form f ≡ true) → statement_by most (block most) (statement most) ts ≡ Some (stmt (here l) f, rest)

pub here_is : (at : At) → at.file ≡ 0 → here at.line ≡ at
here_is at e = ap (λ k. record { file = k; line = at.line }) (sym e)

-- the line of the first token
pub line_is : (l : ℕ) (word : Word) (ts a : List Token) → Starts l ts → (f : Sign word ts a) → f.0 ≡ l
line_is l word ts a st f = sym (ap line_ahead f.1) ∙ first_is l ts st

-- acts

-- an act, by its first word
by_act : (most l : ℕ) (word : Word) (ts a rest : List Token) (x : ActFormTree) → Starts l ts → Sign word ts a → act_by_word most (block most) l word a ≡ Some (act (here l) x, rest) → act_by most (block most) ts ≡ Some (act (here l) x, rest)
by_act most l word ts a rest x st f e = ap (act_by most (block most)) f.1 ∙ ap (λ k. act_by_word most (block most) k word a) (line_is l word ts a st f) ∙ e

pub act_sys : (ps : List Piece) → CompleteActForm (sys ps)
act_sys ps most l ts rest sh st sp hi end = by_act most l (w.Sys ps) ts rest rest (sys ps) st (one_is (w.Sys ps) sp) refl

body_closed : (b : Body) (ts rest : List Token) → IsBodyShaped b → Spelled (spell_body b) ts rest → sign_ahead s.OpenRound ts ≡ false
body_closed b ts rest sh sp = by_read ts (body_finds b ts rest sh sp)
  where
    by_read : (us : List Token) → body us ≡ Some (b, rest) → sign_ahead s.OpenRound us ≡ false
    by_read [] e = refl
    by_read (t ∷ us) e = by_word t.word refl e
      where
        by_word : (u : Word) → t.word ≡ u → body (t ∷ us) ≡ Some (b, rest) → is_sign s.OpenRound u ≡ false
        by_word w.OpenRound is e = let f : body (token t.line w.OpenRound ∷ us) ≡ Some (b, rest) = subst (λ v. body (token t.line v ∷ us) ≡ Some (b, rest)) is e in cc
        by_word _ is e = refl

pub act_task : (os : Option (List SettingTree)) (b : Body) → CompleteActForm (task_form os b)
act_task None b most l ts rest sh st sp hi end =
    let c = cut (sign w.Task) (spell_body b) sp in
    by_act most l w.Task ts c.mid rest (task_form None b) st (one_is w.Task c.front)
    (if_false _ _ _ _ (body_closed b c.mid rest sh.1 c.back) (bind_some _ (b, rest) _ _ (body_finds b c.mid rest sh.1 c.back) refl))
act_task (Some os) b most l ts rest sh st sp hi end =
    let c = cut (sign w.Task) (spell_settings os ++ spell_body b) sp in
    let d = cut (spell_settings os) (spell_body b) c.back in
    by_act most l w.Task ts c.mid rest (task_form (Some os) b) st (one_is w.Task c.front)
    (if_true _ _ _ _ (settings_open os c.mid d.mid d.front)
    (bind_some _ (os, d.mid) _ _ (settings_finds os most c.mid d.mid sh.0 d.front hi) (bind_some _ (b, rest) _ _ (body_finds b d.mid rest sh.1 d.back) refl)))
  where
    settings_open : (os : List SettingTree) (ts rest : List Token) → Spelled (spell_settings os) ts rest → sign_ahead s.OpenRound ts ≡ true
    settings_open [] ts rest sp = let c = cut (sign w.OpenRound) (sign w.CloseRound) sp in ahead_is s.OpenRound true w.OpenRound ts c.mid (one_is w.OpenRound c.front) refl
    settings_open (x ∷ os) ts rest sp = let c = cut (sign w.OpenRound) _ sp in ahead_is s.OpenRound true w.OpenRound ts c.mid (one_is w.OpenRound c.front) refl

pub act_dep : (os : List SettingTree) (b : Body) → CompleteActForm (dep os b)
act_dep os b most l ts rest sh st sp hi end =
    let c = cut (sign w.Dep) (spell_settings os ++ spell_body b) sp in
    let d = cut (spell_settings os) (spell_body b) c.back in
    by_act most l w.Dep ts c.mid rest (dep os b) st (one_is w.Dep c.front)
    (bind_some _ (os, d.mid) _ _ (settings_finds os most c.mid d.mid sh.0 d.front hi) (bind_some _ (b, rest) _ _ (body_finds b d.mid rest sh.1 d.back) refl))

pub act_goal : (e : Tree) → CompleteActForm (goal e)
act_goal e most l ts rest sh st sp hi end =
    let c = cut (sign w.Goal) (spell e) sp in
    by_act most l w.Goal ts c.mid rest (goal e) st (one_is w.Goal c.front) (bind_some _ (e, rest) _ _ (expr_finds e most c.mid rest sh c.back hi (stop_ahead rest (end refl))) refl)

pub act_par_call : (n : List ℕ) (es : Trees) → CompleteActForm (par_call n es)
act_par_call n es most l ts rest sh st sp hi end =
    let c = cut (sign w.Par) (spell_name n ++ (sign w.OpenRound ++ spell_all w.CloseRound es)) sp in
    let d = cut (spell_name n) (sign w.OpenRound ++ spell_all w.CloseRound es) c.back in
    let f = cut (sign w.OpenRound) (spell_all w.CloseRound es) d.back in
    let name = one_is (w.Name n) d.front in
    by_act most l w.Par ts c.mid rest (par_call n es) st (one_is w.Par c.front)
    (if_false _ _ _ _ (ahead_is s.OpenBlock false (w.Name n) c.mid d.mid name refl)
    (bind_some _ (n, d.mid) _ _ (name_finds n c.mid d.mid name)
    (bind_some _ f.mid _ _ (behind_finds s.OpenRound d.mid f.mid (one_is w.OpenRound f.front))
    (bind_some _ (es, rest) _ _ (finds_all es most w.CloseRound is_close_round f.mid rest by_round sh (all_of es w.CloseRound f.back) hi) refl))))

pub block_opens : (b : BlockTree) (ts rest : List Token) → Spelled (spell_block b) ts rest → (l : ℕ) × (a : List Token) × Starts l ts × Sign w.OpenBlock ts a
block_opens (block_tree at ss) ts rest sp =
    let u = unbegun at.line (sign w.OpenBlock ++ (spell_stmts ss ++ sign w.CloseBlock)) (any w.OpenBlock, spell_stmts ss ++ sign w.CloseBlock, refl) sp in
    let c = cut (sign w.OpenBlock) (spell_stmts ss ++ sign w.CloseBlock) u.1 in
    (at.line, c.mid, u.0, one_is w.OpenBlock c.front)

pub act_par_block : (b : BlockTree) → CompleteBlock b → CompleteActForm (par_block b)
act_par_block b cb most l ts rest sh st sp hi end =
    let c = cut (sign w.Par) (spell_block b) sp in
    let o = block_opens b c.mid rest c.back in
    by_act most l w.Par ts c.mid rest (par_block b) st (one_is w.Par c.front)
    (if_true _ _ _ _ (ahead_is s.OpenBlock true w.OpenBlock c.mid o.1 o.3 refl) (bind_some _ (b, rest) _ _ (cb most c.mid rest sh c.back hi) refl))

pub act_form_spelled : (f : ActFormTree) → Nonempty (spell_act_form f)
act_form_spelled (sys ps) = (any (w.Sys ps), [], refl)
act_form_spelled (task_form os b) = (any w.Task, spell_maybe_settings os ++ spell_body b, refl)
act_form_spelled (dep os b) = (any w.Dep, spell_settings os ++ spell_body b, refl)
act_form_spelled (goal e) = (any w.Goal, spell e, refl)
act_form_spelled (par_call n es) = (any w.Par, spell_name n ++ (sign w.OpenRound ++ spell_all w.CloseRound es), refl)
act_form_spelled (par_block b) = (any w.Par, spell_block b, refl)

pub by_act_form : (at : At) (f : ActFormTree) → CompleteActForm f → CompleteAct (act at f)
by_act_form at f c most ts rest sh sp hi end =
    let u = unbegun at.line (spell_act_form f) (act_form_spelled f) sp in
    c most at.line ts rest sh.1 u.0 u.1 hi end ∙ ap (λ a. Some (act a f, rest)) (here_is at sh.0)

-- the first word of an act
act_word : (f : ActFormTree) (ts rest : List Token) → Spelled (spell_act_form f) ts rest → (word : Word) × (a : List Token) × Sign word ts a × (is_act word ≡ true) × (is_stop word ≡ false) × (line_kind word ≡ line_kinds.Act)
act_word (sys ps) ts rest sp = (w.Sys ps, rest, one_is (w.Sys ps) sp, refl, refl, refl)
act_word (task_form os b) ts rest sp = let c = cut (sign w.Task) (spell_maybe_settings os ++ spell_body b) sp in (w.Task, c.mid, one_is w.Task c.front, refl, refl, refl)
act_word (dep os b) ts rest sp = let c = cut (sign w.Dep) (spell_settings os ++ spell_body b) sp in (w.Dep, c.mid, one_is w.Dep c.front, refl, refl, refl)
act_word (goal e) ts rest sp = let c = cut (sign w.Goal) (spell e) sp in (w.Goal, c.mid, one_is w.Goal c.front, refl, refl, refl)
act_word (par_call n es) ts rest sp = let c = cut (sign w.Par) (spell_name n ++ (sign w.OpenRound ++ spell_all w.CloseRound es)) sp in (w.Par, c.mid, one_is w.Par c.front, refl, refl, refl)
act_word (par_block b) ts rest sp = let c = cut (sign w.Par) (spell_block b) sp in (w.Par, c.mid, one_is w.Par c.front, refl, refl, refl)

act_first : (a : ActTree) (ts rest : List Token) → Spelled (spell_act a) ts rest → (word : Word) × (b : List Token) × Sign word ts b × (is_act word ≡ true) × (is_stop word ≡ false) × (line_kind word ≡ line_kinds.Act)
act_first (act at f) ts rest sp = act_word f ts rest (unbegun at.line (spell_act_form f) (act_form_spelled f) sp).1

-- right sides

expr_word : (word : Word) → first_of word ≢ begins_none → is_act word ≡ false
expr_word (w.Sys ps) h = absurd (h refl)
expr_word w.Task h = absurd (h refl)
expr_word w.Dep h = absurd (h refl)
expr_word w.Goal h = absurd (h refl)
expr_word w.Par h = absurd (h refl)
expr_word _ h = refl

pub complete_right_expr : (e : Tree) → CompleteRight (right_expr e)
complete_right_expr e most ts rest sh sp hi end =
    let b = expr_begins e ts rest (expr_of e sp) in
    if_false _ _ _ _ (ap act_ahead b.2 ∙ expr_word b.0.word b.3) (bind_some _ (e, rest) _ _ (expr_finds e most ts rest sh sp hi (stop_ahead rest (end refl))) refl)

pub complete_right_act : (a : ActTree) → CompleteAct a → CompleteRight (right_act a)
complete_right_act a ca most ts rest sh sp hi end =
    let f = act_first a ts rest sp in
    if_true _ _ _ _ (ap act_ahead f.2.1 ∙ f.3) (bind_some _ (a, rest) _ _ (ca most ts rest sh sp hi end) refl)

right_there : (r : RightTree) (ts rest : List Token) → Spelled (spell_right r) ts rest → nothing_ahead ts ≡ false
right_there (right_expr e) ts rest sp = expr_there e ts rest sp
right_there (right_act a) ts rest sp = let f = act_first a ts rest sp in no_stop false f.0 ts f.1 f.2 f.4

-- lines

-- a line, by its first word
by_word : (most : ℕ) (word : Word) (ts a : List Token) → Sign word ts a → (x : LineTree × List Token) → line_by_kind most (block most) (line_kind word) ts a ≡ Some x → line_by most (block most) ts ≡ Some x
by_word most word ts a f x e = ap (line_by most (block most)) f.1 ∙ sym (ap (λ u. line_by_kind most (block most) (line_kind word) u a) f.1) ∙ e

line_expr : (most : ℕ) (e : Tree) (ts a rest : List Token) → Shaped e → Spelled (spell e) a rest → over e ≤ most → nothing_ahead rest ≡ true → expression most 1 a ≡ Some (e, rest)
line_expr most e ts a rest sh sp hi end = expr_finds e most a rest sh sp hi (stop_ahead rest end)

-- a head begins no other line
head_word : (most : ℕ) (h : HeadTree × List Token) (ts : List Token) → head most ts ≡ Some h → line_by most (block most) ts ≡ line_by_head (right_by most (block most)) h.0 h.1
head_word most h [] e = cc
head_word most h (t ∷ ts) e = ap (λ k. line_by_kind most (block most) k (t ∷ ts) ts) (head_line most t ts h e) ∙ bind_some _ h _ _ e refl

complete_maybe_right : (r : RightTree) → CompleteRight r → (most : ℕ) (ts rest : List Token) → IsRightShaped r → Spelled (spell_right r) ts rest → over_right r ≤ most → (right_ends_in_brace r ≡ false → nothing_ahead rest ≡ true) → maybe_right (right_by most (block most)) ts ≡ Some (Some r, rest)
complete_maybe_right r cr most ts rest sh sp hi end = if_false _ _ _ _ (right_there r ts rest sp) (bind_some _ (r, rest) _ _ (cr most ts rest sh sp hi end) refl)

pub complete_declare : (t : Ty) (n : List ℕ) → CompleteLine (declare t n no_right)
complete_declare t n most ts rest sh sp hi end =
    let c = cut (spell_type t) (spell_name n ++ []) sp in
    let d = cut (spell_name n) [] c.back in
    let name : Spelled (spell_name n) c.mid rest = subst (λ u. Spelled (spell_name n) c.mid u) (nothing_is d.back) d.front in
    head_word most (declares t n, rest) ts (head_finds (declares t n) most ts rest sh.0 (join c.front name) (omega arith) tt)
    ∙ bind_some _ (None, rest) _ _ (if_false _ _ _ _ (stop_no_assign rest (end refl)) refl) refl

pub complete_declare_right : (t : Ty) (n : List ℕ) (r : RightTree) → CompleteRight r → CompleteLine (declare t n (a_right r))
complete_declare_right t n r cr most ts rest sh sp hi end =
    let c = cut (spell_type t) (spell_name n ++ (sign w.Assign ++ spell_right r)) sp in
    let d = cut (spell_name n) (sign w.Assign ++ spell_right r) c.back in
    let f = cut (sign w.Assign) (spell_right r) d.back in
    let assigned = one_is w.Assign f.front in
    head_word most (declares t n, d.mid) ts (head_finds (declares t n) most ts d.mid sh.0 (join c.front d.front) (omega arith) tt)
    ∙ bind_some _ (Some r, rest) _ _
    (if_true _ _ _ _ (ahead_is s.Assign true w.Assign d.mid f.mid assigned refl)
    (bind_some _ f.mid _ _ (behind_finds s.Assign d.mid f.mid assigned) (bind_some _ (r, rest) _ _ (cr most f.mid rest sh.1 f.back (omega arith) end) refl))) refl

pub complete_infer : (n : List ℕ) (r : RightTree) → CompleteRight r → CompleteLine (infer n r)
complete_infer n r cr most ts rest sh sp hi end =
    let c = cut (spell_name n) (sign w.Declare ++ spell_right r) sp in
    let d = cut (sign w.Declare) (spell_right r) c.back in
    head_word most (infers n, d.mid) ts (head_finds (infers n) most ts d.mid tt (join c.front d.front) (omega arith) tt)
    ∙ bind_some _ (r, rest) _ _ (cr most d.mid rest sh d.back hi end) refl

pub complete_assign : (p : PlaceTree) (r : RightTree) → CompleteRight r → CompleteLine (assign p r)
complete_assign p r cr most ts rest sh sp hi end =
    let c = cut (spell_place p) (sign w.Assign ++ spell_right r) sp in
    let d = cut (sign w.Assign) (spell_right r) c.back in
    head_word most (assigns p, d.mid) ts (head_finds (assigns p) most ts d.mid sh.0 (join c.front d.front) (omega arith) tt)
    ∙ bind_some _ (r, rest) _ _ (cr most d.mid rest sh.1 d.back (omega arith) end) refl

pub complete_update : (p : PlaceTree) (o : UpdateOp) (r : RightTree) → CompleteRight r → CompleteLine (update p o r)
complete_update p o r cr most ts rest sh sp hi end =
    let c = cut (spell_place p) (spell_update_op o ++ spell_right r) sp in
    let d = cut (spell_update_op o) (spell_right r) c.back in
    head_word most (updates p o, d.mid) ts (head_finds (updates p o) most ts d.mid sh.0 (join c.front d.front) (omega arith) tt)
    ∙ bind_some _ (r, rest) _ _ (cr most d.mid rest sh.1 d.back (omega arith) end) refl

pub complete_step : (x : StepTree) → CompleteLine (step x)
complete_step x most ts rest sh sp hi end = head_word most (steps x, rest) ts (head_finds (steps x) most ts rest sh sp hi (end refl))

pub complete_call : (e : Tree) → CompleteLine (call_line e)
complete_call e most ts rest sh sp hi end = head_word most (calls e, rest) ts (head_finds (calls e) most ts rest sh sp hi (end refl))

pub complete_print : (e : Tree) → CompleteLine (print e)
complete_print e most ts rest sh sp hi end =
    let c = cut (sign w.Print) (spell e) sp in
    by_word most w.Print ts c.mid (one_is w.Print c.front) (print e, rest) (bind_some _ (e, rest) _ _ (line_expr most e ts c.mid rest sh c.back hi (end refl)) refl)

pub complete_println : (e : Option Tree) → CompleteLine (println e)
complete_println e most ts rest sh sp hi end =
    let c = cut (sign w.Println) (spell_maybe e) sp in
    by_word most w.Println ts c.mid (one_is w.Println c.front) (println e, rest) (bind_some _ (e, rest) _ _ (maybe_finds e most c.mid rest sh c.back hi (end refl)) refl)

pub complete_error : (e : Tree) → CompleteLine (error e)
complete_error e most ts rest sh sp hi end =
    let c = cut (sign w.Error) (spell e) sp in
    by_word most w.Error ts c.mid (one_is w.Error c.front) (error e, rest) (bind_some _ (e, rest) _ _ (line_expr most e ts c.mid rest sh c.back hi (end refl)) refl)

pub complete_exit : (e : Tree) → CompleteLine (exit e)
complete_exit e most ts rest sh sp hi end =
    let c = cut (sign w.Exit) (spell e) sp in
    by_word most w.Exit ts c.mid (one_is w.Exit c.front) (exit e, rest) (bind_some _ (e, rest) _ _ (line_expr most e ts c.mid rest sh c.back hi (end refl)) refl)

pub complete_break : CompleteLine break
complete_break most ts rest sh sp hi end = by_word most w.Break ts rest (one_is w.Break sp) (break, rest) refl

pub complete_continue : CompleteLine continue
complete_continue most ts rest sh sp hi end = by_word most w.Continue ts rest (one_is w.Continue sp) (continue, rest) refl

pub complete_return : CompleteLine (return no_right)
complete_return most ts rest sh sp hi end =
    let c = cut (sign w.Return) [] sp in
    let f : Sign w.Return ts rest = subst (λ u. Sign w.Return ts u) (nothing_is c.back) (one_is w.Return c.front) in
    by_word most w.Return ts rest f (return no_right, rest) (bind_some _ (None, rest) _ _ (if_true _ _ _ _ (end refl) refl) refl)

pub complete_return_right : (r : RightTree) → CompleteRight r → CompleteLine (return (a_right r))
complete_return_right r cr most ts rest sh sp hi end =
    let c = cut (sign w.Return) (spell_right r) sp in
    by_word most w.Return ts c.mid (one_is w.Return c.front) (return (a_right r), rest) (bind_some _ (Some r, rest) _ _ (complete_maybe_right r cr most c.mid rest sh c.back hi end) refl)

pub complete_wait : (e : Option Tree) → CompleteLine (wait e)
complete_wait e most ts rest sh sp hi end =
    let c = cut (sign w.Wait) (spell_maybe e) sp in
    by_word most w.Wait ts c.mid (one_is w.Wait c.front) (wait e, rest) (bind_some _ (e, rest) _ _ (maybe_finds e most c.mid rest sh c.back hi (end refl)) refl)

pub complete_checkpoint : (e : Option Tree) → CompleteLine (checkpoint e)
complete_checkpoint e most ts rest sh sp hi end =
    let c = cut (sign w.Checkpoint) (spell_maybe e) sp in
    by_word most w.Checkpoint ts c.mid (one_is w.Checkpoint c.front) (checkpoint e, rest) (bind_some _ (e, rest) _ _ (maybe_finds e most c.mid rest sh c.back hi (end refl)) refl)

pub complete_alone : (a : ActTree) → CompleteAct a → CompleteLine (act_line a)
complete_alone a ca most ts rest sh sp hi end =
    let f = act_first a ts rest sp in
    ap (line_by most (block most)) f.2.1 ∙ ap (λ k. line_by_kind most (block most) k (token f.2.0 f.0 ∷ f.1) f.1) f.5
    ∙ bind_some _ (a, rest) _ _ (sym (ap (act_by most (block most)) f.2.1) ∙ ca most ts rest sh sp hi end) refl
