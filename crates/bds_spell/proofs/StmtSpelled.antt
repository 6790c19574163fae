-- The words of statements and scripts that are written are those of the spelling.
use Rattle.std.proofs.Common.{◌≡◌, Bool, true, false, ◌||◌, List, [], ◌∷◌, ◌++◌, Option, Some, None, refl, sym, ap, ◌∙◌, append_assoc, if◌then◌else◌}
use Rattle.bds_tree.specs.declared.token.Word.{Word}
use Rattle.bds_tree.specs.declared.token.Word.TheVariants as w
use Rattle.bds_value.specs.declared.value.Ty.{Ty}
use Rattle.bds_value.specs.declared.value.Ty.TheVariants as ty
use Rattle.bds_value.proofs.Folds.{ty_fold-Bool, ty_fold-Int, ty_fold-Text, ty_fold-List, ty_fold-Map, ty_fold-Void}
use Rattle.bds_value.proofs.Induction.{ty_induction}
use Rattle.bds_tree.specs.declared.stmt.Body.{Body}
use Rattle.bds_tree.specs.declared.stmt.Body.TheVariants as body
use Rattle.bds_tree.specs.declared.stmt.Command.{Command}
use Rattle.bds_tree.specs.declared.stmt.Parameter.{Parameter}
use Rattle.bds_tree.specs.declared.stmt.StepOp.{StepOp}
use Rattle.bds_tree.specs.declared.stmt.StepOp.TheVariants as step_op
use Rattle.bds_tree.specs.declared.stmt.UpdateOp.{UpdateOp}
use Rattle.bds_tree.specs.declared.stmt.UpdateOp.TheVariants as update_op
use Rattle.bds_tree.specs.Tree.{Tree}
use Rattle.bds_tree.specs.Spelling.{Mark, sign, spell}
use Rattle.bds_tree.specs.StmtTree.{SuffixTree, at_index, at_key, PlaceTree, StepTree, step_after, step_before, SmallFormTree, small_declare, small_infer, small_assign, small_update, small_step, small_call, SmallTree, SettingFormTree, setting_named, setting_plain, SettingTree, StmtTree, StmtFormTree, LineTree, RightTree, ActTree, ActFormTree, BlockTree, StmtTrees, MaybeStmt, MaybeRight, PartTree, ScriptTree, stmt, inner_block, empty, line, when, while, for, each, declare, infer, assign, update, step, call_line, print, println, error, exit, break, continue, return, wait, checkpoint, act_line, right_expr, right_act, act, sys, task, dep, goal, par_call, par_block, block, no_stmts, more_stmts, no_stmt, a_stmt, no_right, a_right, a_function, an_include, a_statement, switch, CaseTrees, CaseTree, no_cases, more_cases, a_case}
use Rattle.bds_tree.specs.StmtSpelling as s
use Rattle.bds_tree.specs.Words.{words_of}
use Rattle.bds_spell.specs.ExprWords.{expr_words}
use Rattle.bds_spell.specs.StmtWords as t
use Rattle.bds_spell.proofs.Spelled.{both, on_line, expr_spelled, all_spelled}

words_of-append : (a b : List Mark) → words_of (a ++ b) ≡ words_of a ++ words_of b
words_of-append a b = both a b (words_of a) (words_of b) refl refl

three : (a b c : List Mark) (x y z : List Word) → words_of a ≡ x → words_of b ≡ y → words_of c ≡ z → words_of (a ++ (b ++ c)) ≡ (x ++ y) ++ z
three a b c x y z p q r = both a (b ++ c) x (y ++ z) p (both b c y z q r) ∙ sym (append_assoc x y z)

maybe_spelled : (e : Option Tree) → words_of (s.spell_maybe e) ≡ t.maybe_words e
maybe_spelled None = refl
maybe_spelled (Some e) = expr_spelled e

label_spelled : (l : Option Tree) → words_of (s.spell_label l) ≡ t.label_words l
label_spelled None = refl
label_spelled (Some e) = ap (λ u. w.Case ∷ u) (expr_spelled e)

suffixes_spelled : (ss : List SuffixTree) → words_of (s.spell_suffixes ss) ≡ t.suffixes_words ss
suffixes_spelled [] = refl
suffixes_spelled (at_index e ∷ ss) = simp (words_of-append, expr_spelled, suffixes_spelled ss) refl
suffixes_spelled (at_key e ∷ ss) = simp (words_of-append, expr_spelled, suffixes_spelled ss) refl

place_spelled : (p : PlaceTree) → words_of (s.spell_place p) ≡ t.place_words p
place_spelled p = on_line p.at.line (s.spell_name p.name ++ s.spell_suffixes p.suffixes) ∙ ap (λ u. w.Name p.name ∷ u) (suffixes_spelled p.suffixes)

abbrev TypeSpelled : Ty → Type 0
TypeSpelled u = words_of (s.spell_type u) ≡ t.type_words u

same_type : (u : Ty) (m : List Mark) (x : List Word) → s.spell_type u ≡ m → t.type_words u ≡ x → words_of m ≡ x → TypeSpelled u
same_type u m x p q r = ap words_of p ∙ r ∙ sym q

type_spelled : (u : Ty) → TypeSpelled u
type_spelled = ty_induction TypeSpelled
    (same_type ty.Bool (sign w.Bool) (w.Bool ∷ []) (ty_fold-Bool s.type_step) (ty_fold-Bool t.type_words_step) refl)
    (same_type ty.Int (sign w.Int) (w.Int ∷ []) (ty_fold-Int s.type_step) (ty_fold-Int t.type_words_step) refl)
    (same_type ty.Text (sign w.String) (w.String ∷ []) (ty_fold-Text s.type_step) (ty_fold-Text t.type_words_step) refl)
    (λ u is. same_type (ty.List u) (s.spell_type u ++ (sign w.OpenSquare ++ sign w.CloseSquare)) (t.type_words u ++ (w.OpenSquare ∷ w.CloseSquare ∷ [])) (ty_fold-List s.type_step u) (ty_fold-List t.type_words_step u) (both (s.spell_type u) (sign w.OpenSquare ++ sign w.CloseSquare) (t.type_words u) (w.OpenSquare ∷ w.CloseSquare ∷ []) is refl))
    (λ u is. same_type (ty.Map u) (s.spell_type u ++ (sign w.OpenValue ++ sign w.CloseValue)) (t.type_words u ++ (w.OpenValue ∷ w.CloseValue ∷ [])) (ty_fold-Map s.type_step u) (ty_fold-Map t.type_words_step u) (both (s.spell_type u) (sign w.OpenValue ++ sign w.CloseValue) (t.type_words u) (w.OpenValue ∷ w.CloseValue ∷ []) is refl))
    (same_type ty.Void (sign w.Void) (w.Void ∷ []) (ty_fold-Void s.type_step) (ty_fold-Void t.type_words_step) refl)

step_op_spelled : (o : StepOp) → words_of (s.spell_step_op o) ≡ t.step_op_words o
step_op_spelled step_op.Increment = refl
step_op_spelled step_op.Decrement = refl

step_spelled : (p : StepTree) → words_of (s.spell_step p) ≡ t.step_words p
step_spelled (step_after p o) = both (s.spell_place p) (s.spell_step_op o) (t.place_words p) (t.step_op_words o) (place_spelled p) (step_op_spelled o)
step_spelled (step_before o p) = both (s.spell_step_op o) (s.spell_place p) (t.step_op_words o) (t.place_words p) (step_op_spelled o) (place_spelled p)

update_op_spelled : (o : UpdateOp) → words_of (s.spell_update_op o) ≡ t.update_op_words o
update_op_spelled update_op.Add = refl
update_op_spelled update_op.Sub = refl
update_op_spelled update_op.Mul = refl
update_op_spelled update_op.Div = refl
update_op_spelled update_op.Rem = refl

start_spelled : (e : Option Tree) → words_of (s.spell_start e) ≡ t.start_words e
start_spelled None = refl
start_spelled (Some e) = ap (λ u. w.Assign ∷ u) (expr_spelled e)

small_form_spelled : (f : SmallFormTree) → words_of (s.spell_small_form f) ≡ t.small_form_words f
small_form_spelled (small_declare u n e) = both (s.spell_type u) (s.spell_name n ++ s.spell_start e) (t.type_words u) (t.name_words n ++ t.start_words e) (type_spelled u) (ap (λ u. w.Name n ∷ u) (start_spelled e))
small_form_spelled (small_infer n e) = ap (λ u. w.Name n ∷ w.Declare ∷ u) (expr_spelled e)
small_form_spelled (small_assign p e) = both (s.spell_place p) (sign w.Assign ++ spell e) (t.place_words p) (w.Assign ∷ expr_words e) (place_spelled p) (ap (λ u. w.Assign ∷ u) (expr_spelled e))
small_form_spelled (small_update p o e) = both (s.spell_place p) (s.spell_update_op o ++ spell e) (t.place_words p) (t.update_op_words o ++ expr_words e) (place_spelled p)
    (both (s.spell_update_op o) (spell e) (t.update_op_words o) (expr_words e) (update_op_spelled o) (expr_spelled e))
small_form_spelled (small_step p) = step_spelled p
small_form_spelled (small_call e) = expr_spelled e

small_spelled : (m : Option SmallTree) → words_of (s.spell_small m) ≡ t.small_words m
small_spelled None = refl
small_spelled (Some m) = on_line m.at.line (s.spell_small_form m.form) ∙ small_form_spelled m.form

setting_form_spelled : (f : SettingFormTree) → words_of (s.spell_setting_form f) ≡ t.setting_form_words f
setting_form_spelled (setting_named n e) = ap (λ u. w.Name n ∷ w.Declare ∷ u) (expr_spelled e)
setting_form_spelled (setting_plain e) = expr_spelled e

setting_spelled : (o : SettingTree) → words_of (s.spell_setting o) ≡ t.setting_words o
setting_spelled o = on_line o.at.line (s.spell_setting_form o.form) ∙ setting_form_spelled o.form

more_settings_spelled : (os : List SettingTree) → words_of (s.spell_more_settings os) ≡ t.settings_words false os
more_settings_spelled [] = refl
more_settings_spelled (o ∷ os) = ap (λ u. w.Comma ∷ u) (both (s.spell_setting o) (s.spell_more_settings os) (t.setting_words o) (t.settings_words false os) (setting_spelled o) (more_settings_spelled os))

settings_spelled : (os : List SettingTree) → words_of (s.spell_settings os) ≡ w.OpenRound ∷ t.settings_words true os
settings_spelled [] = refl
settings_spelled (o ∷ os) = ap (λ u. w.OpenRound ∷ u) (both (s.spell_setting o) (s.spell_more_settings os) (t.setting_words o) (t.settings_words false os) (setting_spelled o) (more_settings_spelled os))

maybe_settings_spelled : (os : Option (List SettingTree)) → words_of (s.spell_maybe_settings os) ≡ t.maybe_settings_words os
maybe_settings_spelled None = refl
maybe_settings_spelled (Some os) = settings_spelled os

commands_spelled : (cs : List Command) → words_of (s.spell_commands cs) ≡ t.commands_words cs
commands_spelled [] = refl
commands_spelled (c ∷ cs) = ap (λ u. w.Sys c.text ∷ w.Semicolon ∷ u) (commands_spelled cs)

body_spelled : (b : Body) → words_of (s.spell_body b) ≡ t.body_words b
body_spelled (body.Sys c) = refl
body_spelled (body.Block cs) = ap (λ u. w.OpenBlock ∷ u) (commands_spelled cs)

line_end_spelled : (before_else : Bool) (l : LineTree) → words_of (s.line_end before_else l) ≡ t.line_end_words before_else l
line_end_spelled true l = refl
line_end_spelled false l = ended (s.line_ends_in_brace l)
  where
    ended : (b : Bool) → words_of (if b then [] else sign w.Semicolon) ≡ (if b then [] else (w.Semicolon ∷ []))
    ended true = refl
    ended false = refl

mutual
  pub stmt_spelled : (u : StmtTree) (before_else : Bool) → words_of (s.spell_stmt u before_else) ≡ t.stmt_words u before_else
  stmt_spelled (stmt at f) before_else = on_line at.line (s.spell_stmt_form f before_else) ∙ stmt_form_spelled f before_else

  stmt_form_spelled : (f : StmtFormTree) (before_else : Bool) → words_of (s.spell_stmt_form f before_else) ≡ t.stmt_form_words f before_else
  stmt_form_spelled (inner_block b) before_else = block_spelled b
  stmt_form_spelled empty before_else = refl
  stmt_form_spelled (line l) before_else = both (s.spell_line l) (s.line_end before_else l) (t.line_words l) (t.line_end_words before_else l) (line_spelled l) (line_end_spelled before_else l)
  stmt_form_spelled (when c a b) before_else = simp (words_of-append, expr_spelled c, stmt_spelled a (s.has_else b || before_else), else_spelled b before_else, append_assoc) refl
  stmt_form_spelled (while c u) before_else = simp (words_of-append, expr_spelled c, stmt_spelled u before_else, append_assoc) refl
  stmt_form_spelled (for first c next u) before_else = simp (words_of-append, small_spelled first, maybe_spelled c, small_spelled next, stmt_spelled u before_else, append_assoc) refl
  stmt_form_spelled (each ty n e u) before_else = simp (words_of-append, type_spelled ty, expr_spelled e, stmt_spelled u before_else, append_assoc) refl
  stmt_form_spelled (switch e cs) before_else = simp (words_of-append, expr_spelled e, cases_spelled cs, append_assoc) refl

  cases_spelled : (cs : CaseTrees) → words_of (s.spell_cases cs) ≡ t.cases_words cs ++ (w.CloseBlock ∷ [])
  cases_spelled no_cases = refl
  cases_spelled (more_cases c cs) =
      both (s.spell_case c) (s.spell_cases cs) (t.case_words c) (t.cases_words cs ++ (w.CloseBlock ∷ [])) (case_spelled c) (cases_spelled cs)
      ∙ sym (append_assoc (t.case_words c) (t.cases_words cs) (w.CloseBlock ∷ []))

  case_spelled : (c : CaseTree) → words_of (s.spell_case c) ≡ t.case_words c
  case_spelled (a_case at l us) = on_line at.line (s.spell_label l ++ (sign w.CaseColon ++ s.spell_stmts us)) ∙ simp (words_of-append, label_spelled l, stmts_spelled us) refl

  else_spelled : (m : MaybeStmt) (before_else : Bool) → words_of (s.spell_else m before_else) ≡ t.else_words m before_else
  else_spelled no_stmt before_else = refl
  else_spelled (a_stmt u) before_else = ap (λ h. w.Else ∷ h) (stmt_spelled u before_else)

  line_spelled : (l : LineTree) → words_of (s.spell_line l) ≡ t.line_words l
  line_spelled (declare ty n r) = simp (words_of-append, type_spelled ty, start_right_spelled r, append_assoc) refl
  line_spelled (infer n r) = ap (λ u. w.Name n ∷ w.Declare ∷ u) (right_spelled r)
  line_spelled (assign p r) = three (s.spell_place p) (sign w.Assign) (s.spell_right r) (t.place_words p) (w.Assign ∷ []) (t.right_words r) (place_spelled p) refl (right_spelled r)
  line_spelled (update p o r) = three (s.spell_place p) (s.spell_update_op o) (s.spell_right r) (t.place_words p) (t.update_op_words o) (t.right_words r) (place_spelled p) (update_op_spelled o) (right_spelled r)
  line_spelled (step p) = step_spelled p
  line_spelled (call_line e) = expr_spelled e
  line_spelled (print e) = ap (λ u. w.Print ∷ u) (expr_spelled e)
  line_spelled (println e) = ap (λ u. w.Println ∷ u) (maybe_spelled e)
  line_spelled (error e) = ap (λ u. w.Error ∷ u) (expr_spelled e)
  line_spelled (exit e) = ap (λ u. w.Exit ∷ u) (expr_spelled e)
  line_spelled break = refl
  line_spelled continue = refl
  line_spelled (return r) = ap (λ u. w.Return ∷ u) (maybe_right_spelled r)
  line_spelled (wait e) = ap (λ u. w.Wait ∷ u) (maybe_spelled e)
  line_spelled (checkpoint e) = ap (λ u. w.Checkpoint ∷ u) (maybe_spelled e)
  line_spelled (act_line a) = act_spelled a

  right_spelled : (r : RightTree) → words_of (s.spell_right r) ≡ t.right_words r
  right_spelled (right_expr e) = expr_spelled e
  right_spelled (right_act a) = act_spelled a

  maybe_right_spelled : (r : MaybeRight) → words_of (s.spell_maybe_right r) ≡ t.maybe_right_words r
  maybe_right_spelled no_right = refl
  maybe_right_spelled (a_right r) = right_spelled r

  start_right_spelled : (r : MaybeRight) → words_of (s.spell_start_right r) ≡ t.start_right_words r
  start_right_spelled no_right = refl
  start_right_spelled (a_right r) = ap (λ u. w.Assign ∷ u) (right_spelled r)

  act_spelled : (a : ActTree) → words_of (s.spell_act a) ≡ t.act_words a
  act_spelled (act at f) = on_line at.line (s.spell_act_form f) ∙ act_form_spelled f

  act_form_spelled : (f : ActFormTree) → words_of (s.spell_act_form f) ≡ t.act_form_words f
  act_form_spelled (sys ps) = refl
  act_form_spelled (task os b) = ap (λ u. w.Task ∷ u) (both (s.spell_maybe_settings os) (s.spell_body b) (t.maybe_settings_words os) (t.body_words b) (maybe_settings_spelled os) (body_spelled b))
  act_form_spelled (dep os b) = ap (λ u. w.Dep ∷ u) (both (s.spell_settings os) (s.spell_body b) (w.OpenRound ∷ t.settings_words true os) (t.body_words b) (settings_spelled os) (body_spelled b))
  act_form_spelled (goal e) = ap (λ u. w.Goal ∷ u) (expr_spelled e)
  act_form_spelled (par_call n es) = ap (λ u. w.Par ∷ w.Name n ∷ w.OpenRound ∷ u) (all_spelled w.CloseRound es)
  act_form_spelled (par_block b) = ap (λ u. w.Par ∷ u) (block_spelled b)

  pub block_spelled : (b : BlockTree) → words_of (s.spell_block b) ≡ t.block_words b
  block_spelled (block at us) = on_line at.line (sign w.OpenBlock ++ (s.spell_stmts us ++ sign w.CloseBlock)) ∙ ap (λ u. w.OpenBlock ∷ u) (both (s.spell_stmts us) (sign w.CloseBlock) (t.stmts_words us) (w.CloseBlock ∷ []) (stmts_spelled us) refl)

  stmts_spelled : (us : StmtTrees) → words_of (s.spell_stmts us) ≡ t.stmts_words us
  stmts_spelled no_stmts = refl
  stmts_spelled (more_stmts u us) = both (s.spell_stmt u false) (s.spell_stmts us) (t.stmt_words u false) (t.stmts_words us) (stmt_spelled u false) (stmts_spelled us)

more_parameters_spelled : (ps : List Parameter) → words_of (s.spell_more_parameters ps) ≡ t.parameters_words false ps
more_parameters_spelled [] = refl
more_parameters_spelled (p ∷ ps) = simp (words_of-append, type_spelled p.ty, more_parameters_spelled ps, append_assoc) refl

parameters_spelled : (ps : List Parameter) → words_of (s.spell_parameters ps) ≡ t.parameters_words true ps
parameters_spelled [] = refl
parameters_spelled (p ∷ ps) = simp (words_of-append, type_spelled p.ty, more_parameters_spelled ps, append_assoc) refl

part_spelled : (p : PartTree) → words_of (s.spell_part p) ≡ t.part_words p
part_spelled (a_function f) = on_line f.at.line (s.spell_type f.result ++ (s.spell_name f.name ++ (sign w.OpenRound ++ (s.spell_parameters f.parameters ++ s.spell_block f.body))))
    ∙ simp (words_of-append, type_spelled f.result, parameters_spelled f.parameters, block_spelled f.body) refl
part_spelled (an_include i) = refl
part_spelled (a_statement u) = stmt_spelled u false

parts_spelled : (ps : List PartTree) → words_of (s.spell_parts ps) ≡ t.parts_words ps
parts_spelled [] = refl
parts_spelled (p ∷ ps) = both (s.spell_part p) (s.spell_parts ps) (t.part_words p) (t.parts_words ps) (part_spelled p) (parts_spelled ps)

pub script_spelled : (r : ScriptTree) → words_of (s.spell_script r) ≡ t.parts_words r.parts
script_spelled r = on_line r.at.line (s.spell_parts r.parts) ∙ parts_spelled r.parts
