-- The tree of each kind of statement.
use Rattle.std.proofs.Common.{◌≡◌, ℕ, List, Option, Some, None, sym, ap, ◌∙◌}
use Rattle.std.specs.Option.{option_map}
use Rattle.bds_value.specs.declared.value.Ty.{Ty}
use Rattle.bds_tree.specs.declared.token.Piece.{Piece}
use Rattle.bds_tree.specs.declared.expr.Expr.{Expr}
use Rattle.bds_tree.specs.declared.stmt.Body.{Body}
use Rattle.bds_tree.specs.declared.stmt.UpdateOp.{UpdateOp}
use Rattle.bds_tree.specs.declared.stmt.Place.{Place}
use Rattle.bds_tree.specs.declared.stmt.Step.{Step}
use Rattle.bds_tree.specs.declared.stmt.Small.{Small}
use Rattle.bds_tree.specs.declared.stmt.Setting.{Setting}
use Rattle.bds_tree.specs.declared.stmt.ActForm.TheVariants as act_form
use Rattle.bds_tree.specs.declared.stmt.Line.TheVariants as line_form
use Rattle.bds_tree.specs.declared.stmt.RightSide.TheVariants as right_side
use Rattle.bds_tree.specs.declared.stmt.StmtForm.TheVariants as stmt_form
use Rattle.bds_tree.specs.declared.stmt.ActForm.{ActForm, fold-roll-ActForm}
use Rattle.bds_tree.specs.declared.stmt.Line.{Line, fold-roll-Line}
use Rattle.bds_tree.specs.declared.stmt.RightSide.{RightSide, fold-roll-RightSide}
use Rattle.bds_tree.specs.declared.stmt.StmtForm.{StmtForm, fold-roll-StmtForm}
use Rattle.bds_tree.specs.declared.stmt.Act.{Act, fold-roll-Act, roll-Act}
use Rattle.bds_tree.specs.declared.stmt.Block.{Block, fold-roll-Block, roll-Block}
use Rattle.bds_tree.specs.declared.stmt.Case.{Case, fold-roll-Case, roll-Case}
use Rattle.bds_tree.specs.declared.stmt.Stmt.{Stmt, fold-roll-Stmt, roll-Stmt}
use Rattle.bds_tree.specs.declared.stmt.ActForm.TheOpen.{ActForm-F, Act-F, RightSide-F, Line-F, StmtForm-F, Stmt-F, Block-F, Case-F}
use Rattle.bds_tree.specs.View.{tree_of, trees_of}
use Rattle.bds_tree.specs.StmtTree.{StmtTree, StmtFormTree, LineTree, RightTree, ActTree, ActFormTree, BlockTree, stmt, inner_block, empty, line, when, while, for, each, declare, infer, assign, update, step, call_line, print, println, error, exit, break, continue, return, wait, checkpoint, act_line, right_expr, right_act, act, sys, task, dep, goal, par_call, par_block, block, to_maybe_stmt, to_maybe_right, switch, CaseTree, a_case}
use Rattle.bds_tree.specs.StmtView.{place_of, step_of, small_of, settings_of, act_form_step, line_step, right_step, stmt_form_step, act_step, block_step, case_step, stmt_step, stmt_of, stmt_form_of, line_of, right_of, act_of, act_form_of, block_of, case_of, stmts_of, cases_of}

pub stmt_of-roll : (s : Stmt-F ActForm Line RightSide StmtForm Act Block Case Stmt) → stmt_of (roll-Stmt s) ≡ stmt s.at (stmt_form_of s.form)
stmt_of-roll s = fold-roll-Stmt ActFormTree LineTree RightTree StmtFormTree ActTree BlockTree CaseTree StmtTree act_form_step line_step right_step stmt_form_step act_step block_step case_step stmt_step s

pub block_of-roll : (b : Block-F ActForm Line RightSide StmtForm Act Block Case Stmt) → block_of (roll-Block b) ≡ block b.at (stmts_of b.stmts)
block_of-roll b = fold-roll-Block ActFormTree LineTree RightTree StmtFormTree ActTree BlockTree CaseTree StmtTree act_form_step line_step right_step stmt_form_step act_step block_step case_step stmt_step b

pub case_of-roll : (c : Case-F ActForm Line RightSide StmtForm Act Block Case Stmt) → case_of (roll-Case c) ≡ a_case c.at (option_map tree_of c.label) (stmts_of c.stmts)
case_of-roll c = fold-roll-Case ActFormTree LineTree RightTree StmtFormTree ActTree BlockTree CaseTree StmtTree act_form_step line_step right_step stmt_form_step act_step block_step case_step stmt_step c

pub act_of-roll : (a : Act-F ActForm Line RightSide StmtForm Act Block Case Stmt) → act_of (roll-Act a) ≡ act a.at (act_form_of a.form)
act_of-roll a = fold-roll-Act ActFormTree LineTree RightTree StmtFormTree ActTree BlockTree CaseTree StmtTree act_form_step line_step right_step stmt_form_step act_step block_step case_step stmt_step a

pub act_form_of-Sys : (ps : List Piece) → act_form_of (act_form.Sys ps) ≡ sys ps
act_form_of-Sys ps = ap act_form_of (sym (act_form.rolls-Sys ps)) ∙ fold-roll-ActForm ActFormTree LineTree RightTree StmtFormTree ActTree BlockTree CaseTree StmtTree act_form_step line_step right_step stmt_form_step act_step block_step case_step stmt_step (ActForm-F.Sys ps)

pub act_form_of-Task : (os : Option (List Setting)) (b : Body) → act_form_of (act_form.Task os b) ≡ task (option_map settings_of os) b
act_form_of-Task os b = ap act_form_of (sym (act_form.rolls-Task os b)) ∙ fold-roll-ActForm ActFormTree LineTree RightTree StmtFormTree ActTree BlockTree CaseTree StmtTree act_form_step line_step right_step stmt_form_step act_step block_step case_step stmt_step (ActForm-F.Task os b)

pub act_form_of-Dep : (os : List Setting) (b : Body) → act_form_of (act_form.Dep os b) ≡ dep (settings_of os) b
act_form_of-Dep os b = ap act_form_of (sym (act_form.rolls-Dep os b)) ∙ fold-roll-ActForm ActFormTree LineTree RightTree StmtFormTree ActTree BlockTree CaseTree StmtTree act_form_step line_step right_step stmt_form_step act_step block_step case_step stmt_step (ActForm-F.Dep os b)

pub act_form_of-Goal : (e : Expr) → act_form_of (act_form.Goal e) ≡ goal (tree_of e)
act_form_of-Goal e = ap act_form_of (sym (act_form.rolls-Goal e)) ∙ fold-roll-ActForm ActFormTree LineTree RightTree StmtFormTree ActTree BlockTree CaseTree StmtTree act_form_step line_step right_step stmt_form_step act_step block_step case_step stmt_step (ActForm-F.Goal e)

pub act_form_of-ParCall : (n : List ℕ) (es : List Expr) → act_form_of (act_form.ParCall n es) ≡ par_call n (trees_of es)
act_form_of-ParCall n es = ap act_form_of (sym (act_form.rolls-ParCall n es)) ∙ fold-roll-ActForm ActFormTree LineTree RightTree StmtFormTree ActTree BlockTree CaseTree StmtTree act_form_step line_step right_step stmt_form_step act_step block_step case_step stmt_step (ActForm-F.ParCall n es)

pub act_form_of-ParBlock : (b : Block) → act_form_of (act_form.ParBlock b) ≡ par_block (block_of b)
act_form_of-ParBlock b = ap act_form_of (sym (act_form.rolls-ParBlock b)) ∙ fold-roll-ActForm ActFormTree LineTree RightTree StmtFormTree ActTree BlockTree CaseTree StmtTree act_form_step line_step right_step stmt_form_step act_step block_step case_step stmt_step (ActForm-F.ParBlock b)

pub line_of-Declare : (t : Ty) (n : List ℕ) (r : Option RightSide) → line_of (line_form.Declare t n r) ≡ declare t n (to_maybe_right (option_map right_of r))
line_of-Declare t n None = ap line_of (sym (line_form.rolls-Declare t n None)) ∙ fold-roll-Line ActFormTree LineTree RightTree StmtFormTree ActTree BlockTree CaseTree StmtTree act_form_step line_step right_step stmt_form_step act_step block_step case_step stmt_step (Line-F.Declare t n None)
line_of-Declare t n (Some r) = ap line_of (sym (line_form.rolls-Declare t n (Some r))) ∙ fold-roll-Line ActFormTree LineTree RightTree StmtFormTree ActTree BlockTree CaseTree StmtTree act_form_step line_step right_step stmt_form_step act_step block_step case_step stmt_step (Line-F.Declare t n (Some r))

pub line_of-Infer : (n : List ℕ) (r : RightSide) → line_of (line_form.Infer n r) ≡ infer n (right_of r)
line_of-Infer n r = ap line_of (sym (line_form.rolls-Infer n r)) ∙ fold-roll-Line ActFormTree LineTree RightTree StmtFormTree ActTree BlockTree CaseTree StmtTree act_form_step line_step right_step stmt_form_step act_step block_step case_step stmt_step (Line-F.Infer n r)

pub line_of-Assign : (p : Place) (r : RightSide) → line_of (line_form.Assign p r) ≡ assign (place_of p) (right_of r)
line_of-Assign p r = ap line_of (sym (line_form.rolls-Assign p r)) ∙ fold-roll-Line ActFormTree LineTree RightTree StmtFormTree ActTree BlockTree CaseTree StmtTree act_form_step line_step right_step stmt_form_step act_step block_step case_step stmt_step (Line-F.Assign p r)

pub line_of-Update : (p : Place) (o : UpdateOp) (r : RightSide) → line_of (line_form.Update p o r) ≡ update (place_of p) o (right_of r)
line_of-Update p o r = ap line_of (sym (line_form.rolls-Update p o r)) ∙ fold-roll-Line ActFormTree LineTree RightTree StmtFormTree ActTree BlockTree CaseTree StmtTree act_form_step line_step right_step stmt_form_step act_step block_step case_step stmt_step (Line-F.Update p o r)

pub line_of-Step : (s : Step) → line_of (line_form.Step s) ≡ step (step_of s)
line_of-Step s = ap line_of (sym (line_form.rolls-Step s)) ∙ fold-roll-Line ActFormTree LineTree RightTree StmtFormTree ActTree BlockTree CaseTree StmtTree act_form_step line_step right_step stmt_form_step act_step block_step case_step stmt_step (Line-F.Step s)

pub line_of-Call : (e : Expr) → line_of (line_form.Call e) ≡ call_line (tree_of e)
line_of-Call e = ap line_of (sym (line_form.rolls-Call e)) ∙ fold-roll-Line ActFormTree LineTree RightTree StmtFormTree ActTree BlockTree CaseTree StmtTree act_form_step line_step right_step stmt_form_step act_step block_step case_step stmt_step (Line-F.Call e)

pub line_of-Print : (e : Expr) → line_of (line_form.Print e) ≡ print (tree_of e)
line_of-Print e = ap line_of (sym (line_form.rolls-Print e)) ∙ fold-roll-Line ActFormTree LineTree RightTree StmtFormTree ActTree BlockTree CaseTree StmtTree act_form_step line_step right_step stmt_form_step act_step block_step case_step stmt_step (Line-F.Print e)

pub line_of-Println : (e : Option Expr) → line_of (line_form.Println e) ≡ println (option_map tree_of e)
line_of-Println e = ap line_of (sym (line_form.rolls-Println e)) ∙ fold-roll-Line ActFormTree LineTree RightTree StmtFormTree ActTree BlockTree CaseTree StmtTree act_form_step line_step right_step stmt_form_step act_step block_step case_step stmt_step (Line-F.Println e)

pub line_of-Error : (e : Expr) → line_of (line_form.Error e) ≡ error (tree_of e)
line_of-Error e = ap line_of (sym (line_form.rolls-Error e)) ∙ fold-roll-Line ActFormTree LineTree RightTree StmtFormTree ActTree BlockTree CaseTree StmtTree act_form_step line_step right_step stmt_form_step act_step block_step case_step stmt_step (Line-F.Error e)

pub line_of-Exit : (e : Expr) → line_of (line_form.Exit e) ≡ exit (tree_of e)
line_of-Exit e = ap line_of (sym (line_form.rolls-Exit e)) ∙ fold-roll-Line ActFormTree LineTree RightTree StmtFormTree ActTree BlockTree CaseTree StmtTree act_form_step line_step right_step stmt_form_step act_step block_step case_step stmt_step (Line-F.Exit e)

pub line_of-Break : line_of line_form.Break ≡ break
line_of-Break = ap line_of (sym line_form.rolls-Break) ∙ fold-roll-Line ActFormTree LineTree RightTree StmtFormTree ActTree BlockTree CaseTree StmtTree act_form_step line_step right_step stmt_form_step act_step block_step case_step stmt_step Line-F.Break

pub line_of-Continue : line_of line_form.Continue ≡ continue
line_of-Continue = ap line_of (sym line_form.rolls-Continue) ∙ fold-roll-Line ActFormTree LineTree RightTree StmtFormTree ActTree BlockTree CaseTree StmtTree act_form_step line_step right_step stmt_form_step act_step block_step case_step stmt_step Line-F.Continue

pub line_of-Return : (r : Option RightSide) → line_of (line_form.Return r) ≡ return (to_maybe_right (option_map right_of r))
line_of-Return None = ap line_of (sym (line_form.rolls-Return None)) ∙ fold-roll-Line ActFormTree LineTree RightTree StmtFormTree ActTree BlockTree CaseTree StmtTree act_form_step line_step right_step stmt_form_step act_step block_step case_step stmt_step (Line-F.Return None)
line_of-Return (Some r) = ap line_of (sym (line_form.rolls-Return (Some r))) ∙ fold-roll-Line ActFormTree LineTree RightTree StmtFormTree ActTree BlockTree CaseTree StmtTree act_form_step line_step right_step stmt_form_step act_step block_step case_step stmt_step (Line-F.Return (Some r))

pub line_of-Wait : (e : Option Expr) → line_of (line_form.Wait e) ≡ wait (option_map tree_of e)
line_of-Wait e = ap line_of (sym (line_form.rolls-Wait e)) ∙ fold-roll-Line ActFormTree LineTree RightTree StmtFormTree ActTree BlockTree CaseTree StmtTree act_form_step line_step right_step stmt_form_step act_step block_step case_step stmt_step (Line-F.Wait e)

pub line_of-Checkpoint : (e : Option Expr) → line_of (line_form.Checkpoint e) ≡ checkpoint (option_map tree_of e)
line_of-Checkpoint e = ap line_of (sym (line_form.rolls-Checkpoint e)) ∙ fold-roll-Line ActFormTree LineTree RightTree StmtFormTree ActTree BlockTree CaseTree StmtTree act_form_step line_step right_step stmt_form_step act_step block_step case_step stmt_step (Line-F.Checkpoint e)

pub line_of-Alone : (a : Act) → line_of (line_form.Alone a) ≡ act_line (act_of a)
line_of-Alone a = ap line_of (sym (line_form.rolls-Alone a)) ∙ fold-roll-Line ActFormTree LineTree RightTree StmtFormTree ActTree BlockTree CaseTree StmtTree act_form_step line_step right_step stmt_form_step act_step block_step case_step stmt_step (Line-F.Alone a)

pub right_of-Expr : (e : Expr) → right_of (right_side.Expr e) ≡ right_expr (tree_of e)
right_of-Expr e = ap right_of (sym (right_side.rolls-Expr e)) ∙ fold-roll-RightSide ActFormTree LineTree RightTree StmtFormTree ActTree BlockTree CaseTree StmtTree act_form_step line_step right_step stmt_form_step act_step block_step case_step stmt_step (RightSide-F.Expr e)

pub right_of-Act : (a : Act) → right_of (right_side.Act a) ≡ right_act (act_of a)
right_of-Act a = ap right_of (sym (right_side.rolls-Act a)) ∙ fold-roll-RightSide ActFormTree LineTree RightTree StmtFormTree ActTree BlockTree CaseTree StmtTree act_form_step line_step right_step stmt_form_step act_step block_step case_step stmt_step (RightSide-F.Act a)

pub stmt_form_of-Block : (b : Block) → stmt_form_of (stmt_form.Block b) ≡ inner_block (block_of b)
stmt_form_of-Block b = ap stmt_form_of (sym (stmt_form.rolls-Block b)) ∙ fold-roll-StmtForm ActFormTree LineTree RightTree StmtFormTree ActTree BlockTree CaseTree StmtTree act_form_step line_step right_step stmt_form_step act_step block_step case_step stmt_step (StmtForm-F.Block b)

pub stmt_form_of-Empty : stmt_form_of stmt_form.Empty ≡ empty
stmt_form_of-Empty = ap stmt_form_of (sym stmt_form.rolls-Empty) ∙ fold-roll-StmtForm ActFormTree LineTree RightTree StmtFormTree ActTree BlockTree CaseTree StmtTree act_form_step line_step right_step stmt_form_step act_step block_step case_step stmt_step StmtForm-F.Empty

pub stmt_form_of-Line : (l : Line) → stmt_form_of (stmt_form.Line l) ≡ line (line_of l)
stmt_form_of-Line l = ap stmt_form_of (sym (stmt_form.rolls-Line l)) ∙ fold-roll-StmtForm ActFormTree LineTree RightTree StmtFormTree ActTree BlockTree CaseTree StmtTree act_form_step line_step right_step stmt_form_step act_step block_step case_step stmt_step (StmtForm-F.Line l)

pub stmt_form_of-If : (c : Expr) (a : Stmt) (b : Option Stmt) → stmt_form_of (stmt_form.If c a b) ≡ when (tree_of c) (stmt_of a) (to_maybe_stmt (option_map stmt_of b))
stmt_form_of-If c a None = ap stmt_form_of (sym (stmt_form.rolls-If c a None)) ∙ fold-roll-StmtForm ActFormTree LineTree RightTree StmtFormTree ActTree BlockTree CaseTree StmtTree act_form_step line_step right_step stmt_form_step act_step block_step case_step stmt_step (StmtForm-F.If c a None)
stmt_form_of-If c a (Some b) = ap stmt_form_of (sym (stmt_form.rolls-If c a (Some b))) ∙ fold-roll-StmtForm ActFormTree LineTree RightTree StmtFormTree ActTree BlockTree CaseTree StmtTree act_form_step line_step right_step stmt_form_step act_step block_step case_step stmt_step (StmtForm-F.If c a (Some b))

pub stmt_form_of-While : (c : Expr) (s : Stmt) → stmt_form_of (stmt_form.While c s) ≡ while (tree_of c) (stmt_of s)
stmt_form_of-While c s = ap stmt_form_of (sym (stmt_form.rolls-While c s)) ∙ fold-roll-StmtForm ActFormTree LineTree RightTree StmtFormTree ActTree BlockTree CaseTree StmtTree act_form_step line_step right_step stmt_form_step act_step block_step case_step stmt_step (StmtForm-F.While c s)

pub stmt_form_of-For : (f : Option Small) (c : Option Expr) (x : Option Small) (s : Stmt) → stmt_form_of (stmt_form.For f c x s) ≡ for (option_map small_of f) (option_map tree_of c) (option_map small_of x) (stmt_of s)
stmt_form_of-For f c x s = ap stmt_form_of (sym (stmt_form.rolls-For f c x s)) ∙ fold-roll-StmtForm ActFormTree LineTree RightTree StmtFormTree ActTree BlockTree CaseTree StmtTree act_form_step line_step right_step stmt_form_step act_step block_step case_step stmt_step (StmtForm-F.For f c x s)

pub stmt_form_of-Each : (t : Ty) (n : List ℕ) (e : Expr) (s : Stmt) → stmt_form_of (stmt_form.Each t n e s) ≡ each t n (tree_of e) (stmt_of s)
stmt_form_of-Each t n e s = ap stmt_form_of (sym (stmt_form.rolls-Each t n e s)) ∙ fold-roll-StmtForm ActFormTree LineTree RightTree StmtFormTree ActTree BlockTree CaseTree StmtTree act_form_step line_step right_step stmt_form_step act_step block_step case_step stmt_step (StmtForm-F.Each t n e s)

pub stmt_form_of-Switch : (e : Expr) (cs : List Case) → stmt_form_of (stmt_form.Switch e cs) ≡ switch (tree_of e) (cases_of cs)
stmt_form_of-Switch e cs = ap stmt_form_of (sym (stmt_form.rolls-Switch e cs)) ∙ fold-roll-StmtForm ActFormTree LineTree RightTree StmtFormTree ActTree BlockTree CaseTree StmtTree act_form_step line_step right_step stmt_form_step act_step block_step case_step stmt_step (StmtForm-F.Switch e cs)

pub ruleset stmt_view_rules = (stmt_of-roll, block_of-roll, case_of-roll, act_of-roll, act_form_of-Sys, act_form_of-Task, act_form_of-Dep, act_form_of-Goal, act_form_of-ParCall, act_form_of-ParBlock, line_of-Declare, line_of-Infer, line_of-Assign, line_of-Update, line_of-Step, line_of-Call, line_of-Print, line_of-Println, line_of-Error, line_of-Exit, line_of-Break, line_of-Continue, line_of-Return, line_of-Wait, line_of-Checkpoint, line_of-Alone, right_of-Expr, right_of-Act, stmt_form_of-Block, stmt_form_of-Empty, stmt_form_of-Line, stmt_form_of-If, stmt_form_of-While, stmt_form_of-For, stmt_form_of-Each, stmt_form_of-Switch)
