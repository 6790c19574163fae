-- What a walk writes, from what its calls write. The words of the definitions are unfolded here alone.
use Rattle.std.proofs.Common.{◌≡◌, ◌<◌, ◌≤◌, ◌+◌, ℕ, true, false, Option, List, [], ◌∷◌, length, drop, get_or, refl, sym, ◌∙◌, ap, ap₂, Some, None, suc}
use Rattle.std.proofs.lemmas.List.{drop_all, drop_more}
use Rattle.bds_value.specs.declared.value.At.{At}
use Rattle.bds_value.specs.declared.value.Ty.{Ty}
use Rattle.bds_tree.specs.StmtTree.{PlaceTree, SmallTree, StmtTree, StmtFormTree, LineTree, RightTree, ActTree, ActFormTree, BlockTree, stmt, when, while, for, each, declare, infer, assign, update, step, call_line, print, println, error, exit, break, continue, return, wait, checkpoint, act_line, act, sys, task, dep, goal, par_call, par_block, block, no_stmt, a_stmt, no_right, a_right, switch, CaseTrees, CaseTree, no_cases, more_cases, a_case, StmtTrees}
use Rattle.bds_tree.specs.Tree.{Tree, type_of}
use Rattle.bds_check_rules.specs.StmtBreaks.{right_type}
use Rattle.bds_check_size.specs.ParSize.{is_par}
use Rattle.bds_gen_stmt.specs.FunctionCode.{at_of_block}
use Rattle.bds_gen_stmt.specs.PlaceCode.{kinds_of, change_number}
use Rattle.bds_gen_stmt_code.specs.Bodies.{with_function, with_body, before_of, entered_body, left_body, opened, around_of, closed, slots_of}
use Rattle.bds_gen_stmt_code.specs.GenParts.{steps_above}
use Rattle.bds_gen_stmt_code.specs.GenLoops.{if_begun, if_test, if_ended, else_begun, else_jump, else_ended, while_begun, while_opened, while_ended, for_begun, for_opened, for_ended, each_begun, each_opened, each_ended}
use Rattle.bds_gen_stmt_code.specs.GenStmts.{has_no_right, plain_act, plain_line, stepped_to, taken, declared_with, returned, dropped, gen_stmt, gen_stmt_form, gen_inner, gen_within, gen_line, gen_right, gen_act, gen_act_form, gen_block, gen_stmts, gen_cases, gen_case}
use Rattle.bds_gen_stmt_code.specs.declared.blocks.Before.{Before}
use Rattle.bds_gen_stmt_code.specs.declared.blocks.Outer.{Outer}
use Rattle.bds_gen_stmt_code.specs.declared.body.Body.{Body}
use Rattle.bds_gen_stmt_code.specs.declared.body.Unfinished.{Unfinished}
use Rattle.bds_gen_stmt_code.specs.declared.control.Opened.{Opened}
use Rattle.bds_gen_stmt_code.specs.declared.control.OpenedList.{OpenedList}
use Rattle.bds_tree.specs.declared.stmt.Act.{Act, fold_out-Act}
use Rattle.bds_tree.specs.declared.stmt.Block.{Block, out-Block, fold_out-Block}
use Rattle.bds_tree.specs.declared.stmt.Line.{Line}
use Rattle.bds_tree.specs.declared.stmt.Stmt.{Stmt, fold_out-Stmt}
use Rattle.bds_tree.specs.declared.stmt.StmtForm.{StmtForm}
use Rattle.bds_tree.specs.declared.stmt.StmtForm.TheVariants as form
use Rattle.bds_tree.specs.StmtView.{place_of, act_form_step, line_step, right_step, stmt_form_step, act_step, block_step, stmt_step, stmt_of, stmt_form_of, line_of, right_of, act_of, act_form_of, block_of, stmts_of, case_step, case_of, cases_of}
use Rattle.bds_tree.specs.View.{tree_of}
use Rattle.bds_tree.specs.declared.expr.Expr.{Expr}
use Rattle.bds_tree.specs.declared.stmt.ActForm.TheVariants as act_form
use Rattle.bds_tree.specs.declared.stmt.Line.TheVariants as lines
use Rattle.bds_tree.specs.declared.stmt.Place.{Place}
use Rattle.bds_tree.specs.declared.stmt.RightSide.{RightSide}
use Rattle.bds_tree.specs.declared.stmt.RightSide.TheVariants as side
use Rattle.bds_tree.specs.declared.stmt.UpdateOp.{UpdateOp}
use Rattle.bds_tree.proofs.StmtViews.{stmt_form_of-Block, stmt_form_of-Empty, stmt_form_of-Line, right_of-Expr, right_of-Act, act_form_of-ParBlock, line_of-Assign, line_of-Update}
use Rattle.bds_value.specs.declared.change_numbers.TheConstants.{ASSIGN}
use Rattle.bds_code.specs.declared.unit.Function.{Function}
use Rattle.bds_gen_expr.specs.Gen.{gen}
use Rattle.std.specs.Option.{option_map}
use Rattle.bds_tree.specs.declared.stmt.Case.{Case, out-Case, fold_out-Case}
use Rattle.bds_gen_stmt_code.specs.GenSwitches.{label_of, jump_to, other_behind, switch_begun, switch_opened, case_begun, switch_ended, gen_label, label_jumps, kept}
use Rattle.bds_gen_stmt_code.specs.declared.switches.OpenedSwitch.{OpenedSwitch}
use Rattle.bds_tree.proofs.StmtViews.{stmt_form_of-Switch}
use Rattle.bds_gen_expr.specs.declared.scope.Scope.{Scope}

-- Statements within others

pub inner_is : (s : StmtTree) (u v : Unfinished) (b d : Body) (before : Before) → b ≡ entered_body u.body → before ≡ before_of u.body → v ≡ gen_stmt s (with_body u b) → d ≡ left_body before.count before.at_top v.body → with_body v d ≡ gen_inner s u
unfolding gen_inner before_of
inner_is s u v b d before e1 e2 e3 e4 =
    ap (with_body v) (e4 ∙ ap (λ (x : Before). left_body x.count x.at_top v.body) e2)
    ∙ ap (λ x. with_body x (left_body (length u.body.scope.locals) u.body.at_top x.body)) (e3 ∙ ap (λ x. gen_stmt s (with_body u x)) e1)

pub within_is : (k : BlockTree) (u v : Unfinished) (b d : Body) (before : Before) → b ≡ entered_body u.body → before ≡ before_of u.body → v ≡ gen_block k (with_body u b) → d ≡ left_body before.count before.at_top v.body → with_body v d ≡ gen_within k u
unfolding gen_within before_of
within_is k u v b d before e1 e2 e3 e4 =
    ap (with_body v) (e4 ∙ ap (λ (x : Before). left_body x.count x.at_top v.body) e2)
    ∙ ap (λ x. with_body x (left_body (length u.body.scope.locals) u.body.at_top x.body)) (e3 ∙ ap (λ x. gen_block k (with_body u x)) e1)

pub if_is : (c : Tree) (a : StmtTree) (at : At) (u u1 v w : Unfinished) (test : ℕ) → u1 ≡ if_begun c at u → test ≡ if_test c u → v ≡ gen_inner a u1 → w ≡ if_ended test v → w ≡ gen_stmt_form (when c a no_stmt) at u
unfolding gen_stmt_form gen_inner
if_is c a at u u1 v w test e1 e2 e3 e4 = e4 ∙ ap₂ if_ended e2 (e3 ∙ ap (gen_inner a) e1)

pub if_else_is : (c : Tree) (a b : StmtTree) (at : At) (u u1 v v1 x w : Unfinished) (test jump : ℕ) → u1 ≡ if_begun c at u → test ≡ if_test c u → v ≡ gen_inner a u1 → v1 ≡ else_begun test at v → jump ≡ else_jump v → x ≡ gen_inner b v1 → w ≡ else_ended jump x
    → w ≡ gen_stmt_form (when c a (a_stmt b)) at u
unfolding gen_stmt_form gen_inner
if_else_is c a b at u u1 v v1 x w test jump e1 e2 e3 e4 e5 e6 e7 =
    e7 ∙ ap₂ else_ended e5 (e6 ∙ ap (gen_inner b) (e4 ∙ ap (λ n. else_begun n at v) e2))
    ∙ ap (λ y. else_ended (else_jump y) (gen_inner b (else_begun (if_test c u) at y))) (e3 ∙ ap (gen_inner a) e1)

pub while_is : (c : Tree) (s : StmtTree) (at : At) (u u1 v w : Unfinished) (o : Opened) → u1 ≡ while_begun c at u → o ≡ while_opened c at u → v ≡ gen_inner s u1 → w ≡ while_ended at o v → w ≡ gen_stmt_form (while c s) at u
unfolding gen_stmt_form gen_inner
while_is c s at u u1 v w o e1 e2 e3 e4 = e4 ∙ ap₂ (while_ended at) e2 (e3 ∙ ap (gen_inner s) e1)

pub for_is : (first : Option SmallTree) (c : Option Tree) (next : Option SmallTree) (s : StmtTree) (at : At) (u u1 v w : Unfinished) (before : Before) (o : Opened) → before ≡ before_of u.body → u1 ≡ for_begun first c at u → o ≡ for_opened first c at u
    → v ≡ gen_inner s u1 → w ≡ for_ended next at before o v → w ≡ gen_stmt_form (for first c next s) at u
unfolding gen_stmt_form gen_inner
for_is first c next s at u u1 v w before o e0 e1 e2 e3 e4 = e4 ∙ ap (λ x. for_ended next at x o v) e0 ∙ ap₂ (for_ended next at (before_of u.body)) e2 (e3 ∙ ap (gen_inner s) e1)

pub each_is : (t : Ty) (x : List ℕ) (e : Tree) (s : StmtTree) (at : At) (u u1 v w : Unfinished) (before : Before) (o : OpenedList) → before ≡ before_of u.body → u1 ≡ each_begun t x e at u → o ≡ each_opened t e at u
    → v ≡ gen_inner s u1 → w ≡ each_ended at before o v → w ≡ gen_stmt_form (each t x e s) at u
unfolding gen_stmt_form gen_inner
each_is t x e s at u u1 v w before o e0 e1 e2 e3 e4 = e4 ∙ ap (λ y. each_ended at y o v) e0 ∙ ap₂ (each_ended at (before_of u.body)) e2 (e3 ∙ ap (gen_inner s) e1)

pub switch_is : (e : Tree) (cs : CaseTrees) (at : At) (u u1 v w : Unfinished) (o : OpenedSwitch) (jumps : List ℕ) → u1 ≡ switch_begun e cs at u → o ≡ switch_opened e cs at u → jumps ≡ o.jumps → v ≡ gen_cases cs jumps (Some o.other) u1
    → w ≡ switch_ended cs o v → w ≡ gen_stmt_form (switch e cs) at u
unfolding gen_stmt_form
switch_is e cs at u u1 v w o jumps e1 e2 e3 e4 e5 =
    e5 ∙ ap (switch_ended cs o) (e4 ∙ ap₂ (λ js x. gen_cases cs js (Some o.other) x) e3 e1) ∙ ap (λ (x : OpenedSwitch). switch_ended cs x (gen_cases cs x.jumps (Some x.other) (switch_begun e cs at u))) e2

-- a case, whose statements are a block
case-within : (at : At) (l : Option Tree) (ss : StmtTrees) (jump : Option ℕ) (u u1 v : Unfinished) (b d : Body) (before : Before) → u1 ≡ case_begun jump u → b ≡ entered_body u1.body → before ≡ before_of u1.body → v ≡ gen_stmts ss (with_body u1 b)
    → d ≡ left_body before.count before.at_top v.body → with_body v d ≡ gen_case (a_case at l ss) jump u
unfolding gen_case before_of
case-within at l ss jump u u1 v b d before e0 e1 e2 e3 e4 =
    ap (with_body v) (e4 ∙ ap (λ (x : Before). left_body x.count x.at_top v.body) e2)
    ∙ ap (λ x. with_body x (left_body (length u1.body.scope.locals) u1.body.at_top x.body)) (e3 ∙ ap (λ x. gen_stmts ss (with_body u1 x)) e1)
    ∙ ap (λ (x : Unfinished). with_body (gen_stmts ss (with_body x (entered_body x.body))) (left_body (length x.body.scope.locals) x.body.at_top (gen_stmts ss (with_body x (entered_body x.body))).body)) e0

-- Lines and acts

pub taking_is : (q : PlaceTree) (what : ℕ) (r : RightTree) (at : At) (u u1 v w : Unfinished) (shape : List Ty) → u1 ≡ stepped_to q u → shape ≡ steps_above (kinds_of q) [] → v ≡ gen_right r shape u1 → w ≡ taken q what at v
    → w ≡ taken q what at (gen_right r (steps_above (kinds_of q) []) (stepped_to q u))
taking_is q what r at u u1 v w shape e1 e2 e3 e4 = e4 ∙ ap (taken q what at) (e3 ∙ ap₂ (gen_right r) e2 e1)

pub declared_is : (t : Ty) (x : List ℕ) (r : RightTree) (at : At) (u v w : Unfinished) (shape : List Ty) → shape ≡ [] → v ≡ gen_right r shape u → w ≡ declared_with at x t v → w ≡ gen_line (declare t x (a_right r)) at u
unfolding gen_line
declared_is t x r at u v w shape e1 e2 e3 = e3 ∙ ap (declared_with at x t) (e2 ∙ ap (λ s. gen_right r s u) e1)

pub inferred_is : (t : Ty) (x : List ℕ) (r : RightTree) (at : At) (u v w : Unfinished) (shape : List Ty) → shape ≡ [] → v ≡ gen_right r shape u → t ≡ right_type r → w ≡ declared_with at x t v → w ≡ gen_line (infer x r) at u
unfolding gen_line
inferred_is t x r at u v w shape e1 e2 e3 e4 = e4 ∙ ap₂ (declared_with at x) e3 (e2 ∙ ap (λ s. gen_right r s u) e1)

pub returned_is : (r : RightTree) (at : At) (u v w : Unfinished) (shape : List Ty) → shape ≡ [] → v ≡ gen_right r shape u → w ≡ returned at v → w ≡ gen_line (return (a_right r)) at u
unfolding gen_line
returned_is r at u v w shape e1 e2 e3 = e3 ∙ ap (returned at) (e2 ∙ ap (λ s. gen_right r s u) e1)

pub alone_is : (a : ActTree) (at : At) (u v w : Unfinished) (shape : List Ty) → shape ≡ [] → v ≡ gen_act a shape u → w ≡ dropped a at v → w ≡ gen_line (act_line a) at u
unfolding gen_line
alone_is a at u v w shape e1 e2 e3 = e3 ∙ ap (dropped a at) (e2 ∙ ap (λ s. gen_act a s u) e1)

pub par_is : (k : BlockTree) (at place : At) (u u1 v w : Unfinished) (o : Outer) → u1 ≡ opened u → o ≡ around_of u → v ≡ gen_block k u1 → place ≡ at_of_block k → w ≡ closed o at place v → w ≡ closed (around_of u) at (at_of_block k) (gen_block k (opened u))
par_is k at place u u1 v w o e1 e2 e3 e4 e5 = e5 ∙ ap₂ (λ x y. closed x at y v) e2 e4 ∙ ap (closed (around_of u) at (at_of_block k)) (e3 ∙ ap (gen_block k) e1)

-- A node by its fields

stmt-view : (s : Stmt) → stmt_of s ≡ stmt s.at (stmt_form_of s.form)
stmt-view s = fold_out-Stmt ActFormTree LineTree RightTree StmtFormTree ActTree BlockTree CaseTree StmtTree act_form_step line_step right_step stmt_form_step act_step block_step case_step stmt_step s

act-view : (a : Act) → act_of a ≡ act a.at (act_form_of a.form)
act-view a = fold_out-Act ActFormTree LineTree RightTree StmtFormTree ActTree BlockTree CaseTree StmtTree act_form_step line_step right_step stmt_form_step act_step block_step case_step stmt_step a

pub stmt_is : (s : Stmt) (u w : Unfinished) → w ≡ gen_stmt_form (stmt_form_of s.form) s.at u → w ≡ gen_stmt (stmt_of s) u
unfolding gen_stmt
stmt_is s u w e = e ∙ ap (λ x. gen_stmt x u) (sym (stmt-view s))

block-view : (b : Block) → block_of b ≡ block (out-Block b).at (stmts_of (out-Block b).stmts)
block-view b = fold_out-Block ActFormTree LineTree RightTree StmtFormTree ActTree BlockTree CaseTree StmtTree act_form_step line_step right_step stmt_form_step act_step block_step case_step stmt_step b

pub block_is : (b : Block) (ss : List Stmt) (u w : Unfinished) → ss ≡ (out-Block b).stmts → w ≡ gen_stmts (stmts_of ss) u → w ≡ gen_block (block_of b) u
unfolding gen_block
block_is b ss u w h e = e ∙ ap (λ l. gen_stmts (stmts_of l) u) h ∙ ap (λ x. gen_block x u) (sym (block-view b))

pub block_at : (b : Block) → (out-Block b).at ≡ at_of_block (block_of b)
block_at b = ap at_of_block (sym (block-view b))

pub case-view : (c : Case) → case_of c ≡ a_case (out-Case c).at (option_map tree_of (out-Case c).label) (stmts_of (out-Case c).stmts)
case-view c = fold_out-Case ActFormTree LineTree RightTree StmtFormTree ActTree BlockTree CaseTree StmtTree act_form_step line_step right_step stmt_form_step act_step block_step case_step stmt_step c

pub case_is : (c : Case) (ss : List Stmt) (jump : Option ℕ) (u u1 v : Unfinished) (b d : Body) (before : Before) → u1 ≡ case_begun jump u → b ≡ entered_body u1.body → before ≡ before_of u1.body → ss ≡ (out-Case c).stmts
    → v ≡ gen_stmts (stmts_of ss) (with_body u1 b) → d ≡ left_body before.count before.at_top v.body → with_body v d ≡ gen_case (case_of c) jump u
case_is c ss jump u u1 v b d before e0 e1 e2 h e3 e4 =
    case-within (out-Case c).at (option_map tree_of (out-Case c).label) (stmts_of (out-Case c).stmts) jump u u1 v b d before e0 e1 e2 (e3 ∙ ap (λ l. gen_stmts (stmts_of l) (with_body u1 b)) h) e4
    ∙ ap (λ x. gen_case x jump u) (sym (case-view c))

-- The arms of a statement's form

pub form_block : (f : StmtForm) (b : Block) (at : At) (u w : Unfinished) → f ≡ form.Block b → w ≡ gen_within (block_of b) u → w ≡ gen_stmt_form (stmt_form_of f) at u
unfolding gen_within gen_stmt_form
form_block f b at u w h e = e ∙ ap (λ x. gen_stmt_form x at u) (sym (ap stmt_form_of h ∙ stmt_form_of-Block b))

pub form_empty : (f : StmtForm) (at : At) (u : Unfinished) → f ≡ form.Empty → u ≡ gen_stmt_form (stmt_form_of f) at u
unfolding gen_stmt_form
form_empty f at u h = ap (λ x. gen_stmt_form x at u) (sym (ap stmt_form_of h ∙ stmt_form_of-Empty))

pub form_line : (f : StmtForm) (l : Line) (at : At) (u w : Unfinished) → f ≡ form.Line l → w ≡ gen_line (line_of l) at u → w ≡ gen_stmt_form (stmt_form_of f) at u
unfolding gen_stmt_form
form_line f l at u w h e = e ∙ ap (λ x. gen_stmt_form x at u) (sym (ap stmt_form_of h ∙ stmt_form_of-Line l))

pub form_switch : (f : StmtForm) (x : Expr) (cs ds : List Case) (at : At) (u w : Unfinished) → f ≡ form.Switch x cs → ds ≡ cs → w ≡ gen_stmt_form (switch (tree_of x) (cases_of ds)) at u → w ≡ gen_stmt_form (stmt_form_of f) at u
form_switch f x cs ds at u w h same e = e ∙ ap (λ l. gen_stmt_form (switch (tree_of x) (cases_of l)) at u) same ∙ ap (λ y. gen_stmt_form y at u) (sym (ap stmt_form_of h ∙ stmt_form_of-Switch x cs))

-- The other arms

pub right_expr_is : (r : RightSide) (x : Expr) (s : List Ty) (u : Unfinished) (f : Function) → r ≡ side.Expr x → f ≡ gen (tree_of x) u.body.scope s u.body.function → with_function u f ≡ gen_right (right_of r) s u
unfolding gen_right
right_expr_is r x s u f h e = ap (with_function u) e ∙ ap (λ y. gen_right y s u) (sym (ap right_of h ∙ right_of-Expr x))

pub right_act_is : (r : RightSide) (a : Act) (s : List Ty) (u w : Unfinished) → r ≡ side.Act a → w ≡ gen_act (act_of a) s u → w ≡ gen_right (right_of r) s u
unfolding gen_right
right_act_is r a s u w h e = e ∙ ap (λ y. gen_right y s u) (sym (ap right_of h ∙ right_of-Act a))

pub act_par_is : (a : Act) (b : Block) (s : List Ty) (u w : Unfinished) → a.form ≡ act_form.ParBlock b → w ≡ closed (around_of u) a.at (at_of_block (block_of b)) (gen_block (block_of b) (opened u)) → w ≡ gen_act (act_of a) s u
unfolding gen_act gen_act_form
act_par_is a b s u w h e = e ∙ ap (λ y. gen_act y s u) (sym (act-view a ∙ ap (act a.at) (ap act_form_of h ∙ act_form_of-ParBlock b)))

abbrev ByPlain : LineTree → At → Unfinished → Type 0
ByPlain l at u = has_no_right l ≡ true → plain_line l at u ≡ gen_line l at u

by-plain : (l : LineTree) (at : At) (u : Unfinished) → ByPlain l at u
unfolding gen_line
by-plain (declare t x no_right) at u h = refl
by-plain (declare t x (a_right r)) at u h = absurd (cc)
by-plain (infer x r) at u h = absurd (cc)
by-plain (assign q r) at u h = absurd (cc)
by-plain (update q o r) at u h = absurd (cc)
by-plain (return no_right) at u h = refl
by-plain (return (a_right r)) at u h = absurd (cc)
by-plain (act_line a) at u h = absurd (cc)
by-plain _ at u h = refl

pub line_plain_is : (l : LineTree) (at : At) (u w : Unfinished) → has_no_right l ≡ true → w ≡ plain_line l at u → w ≡ gen_line l at u
line_plain_is l at u w h e = e ∙ by-plain l at u h

by-plain-act : (f : ActFormTree) (at : At) (s : List Ty) (u : Unfinished) → is_par f ≡ false → plain_act f at s u ≡ gen_act_form f at s u
unfolding gen_act_form
by-plain-act (sys ps) at s u h = refl
by-plain-act (task os b) at s u h = refl
by-plain-act (dep os b) at s u h = refl
by-plain-act (goal e) at s u h = refl
by-plain-act (par_call x es) at s u h = refl
by-plain-act (par_block b) at s u h = absurd (cc)

pub act_plain_is : (a : Act) (s : List Ty) (u w : Unfinished) → is_par (act_form_of a.form) ≡ false → w ≡ plain_act (act_form_of a.form) a.at s u → w ≡ gen_act (act_of a) s u
unfolding gen_act
act_plain_is a s u w h e = e ∙ by-plain-act (act_form_of a.form) a.at s u h ∙ ap (λ y. gen_act y s u) (sym (act-view a))

pub line_assign_is : (l : Line) (q : Place) (r : RightSide) (at : At) (u w : Unfinished) → l ≡ lines.Assign q r → w ≡ taken (place_of q) ASSIGN at (gen_right (right_of r) (steps_above (kinds_of (place_of q)) []) (stepped_to (place_of q) u)) → w ≡ gen_line (line_of l) at u
unfolding gen_line
line_assign_is l q r at u w h e = e ∙ ap (λ y. gen_line y at u) (sym (ap line_of h ∙ line_of-Assign q r))

pub line_update_is : (l : Line) (q : Place) (o : UpdateOp) (r : RightSide) (at : At) (u w : Unfinished) (what : ℕ) → l ≡ lines.Update q o r → what ≡ change_number o
    → w ≡ taken (place_of q) what at (gen_right (right_of r) (steps_above (kinds_of (place_of q)) []) (stepped_to (place_of q) u)) → w ≡ gen_line (line_of l) at u
unfolding gen_line
line_update_is l q o r at u w what h n e =
    e ∙ ap (λ k. taken (place_of q) k at (gen_right (right_of r) (steps_above (kinds_of (place_of q)) []) (stepped_to (place_of q) u))) n ∙ ap (λ y. gen_line y at u) (sym (ap line_of h ∙ line_of-Update q o r))

-- One statement behind the other

pub stmts_none : (ss : List Stmt) (i : ℕ) (u w : Unfinished) → length ss ≤ i → gen_stmts (stmts_of (drop i ss)) u ≡ w → u ≡ w
unfolding gen_stmts
stmts_none ss i u w h e = ap (λ l. gen_stmts (stmts_of l) u) (sym (drop_all i ss h)) ∙ e

pub stmts_next : (ss : List Stmt) (i : ℕ) (s : Stmt) (u v w : Unfinished) → i < length ss → s ≡ get_or ss i s → v ≡ gen_stmt (stmt_of s) u → gen_stmts (stmts_of (drop i ss)) u ≡ w → gen_stmts (stmts_of (drop (i + 1) ss)) v ≡ w
unfolding gen_stmts
stmts_next ss i s u v w h is e inv = ap (gen_stmts (stmts_of (drop (i + 1) ss))) e ∙ ap (λ l. gen_stmts (stmts_of l) u) (sym (drop_more ss i s h ∙ ap (λ x. x ∷ drop (i + 1) ss) (sym is))) ∙ inv

-- One case behind the other

jumps-many : (cs : List Case) (at : At) (value_slot : ℕ) (sc : Scope) (f : Function) → length (label_jumps (cases_of cs) at value_slot sc f) ≡ length cs
jumps-many [] at value_slot sc f = refl
jumps-many (c ∷ cs) at value_slot sc f = ap suc (jumps-many cs at value_slot sc (gen_label (label_of (case_of c)) at value_slot sc f))

-- there is a jump for each
pub jumps_fit : (e : Tree) (cs : List Case) (at : At) (u : Unfinished) (o : OpenedSwitch) (jumps : List ℕ) → o ≡ switch_opened e (cases_of cs) at u → jumps ≡ o.jumps → length jumps ≡ length cs
unfolding switch_opened
jumps_fit e cs at u o jumps h j =
    let value : Function = gen e u.body.scope [] u.body.function in
    ap length (j ∙ ap (λ (x : OpenedSwitch). x.jumps) h) ∙ jumps-many cs at (slots_of value) u.body.scope (kept value at (type_of e))

pub cases_none : (cs : List Case) (jumps : List ℕ) (i : ℕ) (other : Option ℕ) (u w : Unfinished) → length cs ≤ i → gen_cases (cases_of (drop i cs)) (drop i jumps) other u ≡ w → u ≡ w
unfolding gen_cases
cases_none cs jumps i other u w h e = ap (λ l. gen_cases (cases_of l) (drop i jumps) other u) (sym (drop_all i cs h)) ∙ e

pub cases_next : (cs : List Case) (jumps : List ℕ) (i : ℕ) (c : Case) (other other2 jump : Option ℕ) (u v w : Unfinished) → i < length cs → i < length jumps → c ≡ get_or cs i c
    → jump ≡ jump_to (option_map tree_of (out-Case c).label) (get_or jumps i 0) other → other2 ≡ other_behind (option_map tree_of (out-Case c).label) other → v ≡ gen_case (case_of c) jump u
    → gen_cases (cases_of (drop i cs)) (drop i jumps) other u ≡ w → gen_cases (cases_of (drop (i + 1) cs)) (drop (i + 1) jumps) other2 v ≡ w
unfolding gen_cases
cases_next cs jumps i c other other2 jump u v w h k is j o e inv =
    let n : ℕ = get_or jumps i 0 in
    let rest : List Case = drop (i + 1) cs in
    let more : List ℕ = drop (i + 1) jumps in
    let label_is : option_map tree_of (out-Case c).label ≡ label_of (case_of c) = ap label_of (sym (case-view c)) in
    ap₂ (λ x y. gen_cases (cases_of rest) more x y) (o ∙ ap (λ l. other_behind l other) label_is) (e ∙ ap (λ x. gen_case (case_of c) x u) (j ∙ ap (λ l. jump_to l n other) label_is))
    ∙ ap₂ (λ xs ns. gen_cases (cases_of xs) ns other u) (sym (drop_more cs i c h ∙ ap (λ x. x ∷ rest) (sym is))) (sym (drop_more jumps i 0 k))
    ∙ inv
