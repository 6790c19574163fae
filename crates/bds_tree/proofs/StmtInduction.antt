-- Induction over statements, with a premise for each kind.
use Rattle.std.proofs.Common.{ℕ, List, [], ◌∷◌, Option, Some, None, map, sym, subst}
use Rattle.std.specs.Prelude.{⊤}
use Rattle.std.specs.List.{AllByRecursion}
use Rattle.bds_value.specs.declared.value.Ty.{Ty}
use Rattle.bds_tree.specs.declared.token.Piece.{Piece}
use Rattle.bds_tree.specs.declared.expr.Expr.{Expr}
use Rattle.bds_tree.specs.declared.stmt.Body.{Body}
use Rattle.bds_tree.specs.declared.stmt.UpdateOp.{UpdateOp}
use Rattle.bds_tree.specs.declared.stmt.Place.{Place}
use Rattle.bds_tree.specs.declared.stmt.Step.{Step}
use Rattle.bds_tree.specs.declared.stmt.Small.{Small}
use Rattle.bds_tree.specs.declared.stmt.Setting.{Setting}
use Rattle.bds_tree.specs.declared.stmt.ActForm.TheVariants as act_form
use Rattle.bds_tree.specs.declared.stmt.Line.TheVariants as line_form
use Rattle.bds_tree.specs.declared.stmt.RightSide.TheVariants as right_side
use Rattle.bds_tree.specs.declared.stmt.StmtForm.TheVariants as stmt_form
use Rattle.bds_tree.specs.declared.stmt.ActForm.{ActForm, roll-ActForm, map-ActForm}
use Rattle.bds_tree.specs.declared.stmt.Line.{Line, roll-Line, map-Line}
use Rattle.bds_tree.specs.declared.stmt.RightSide.{RightSide, roll-RightSide, map-RightSide}
use Rattle.bds_tree.specs.declared.stmt.StmtForm.{StmtForm, roll-StmtForm, map-StmtForm}
use Rattle.bds_tree.specs.declared.stmt.Act.{Act, roll-Act, map-Act}
use Rattle.bds_tree.specs.declared.stmt.Block.{Block, ind-Block, roll-Block, map-Block}
use Rattle.bds_tree.specs.declared.stmt.Case.{Case, roll-Case, map-Case}
use Rattle.bds_tree.specs.declared.stmt.Stmt.{Stmt, ind-Stmt, roll-Stmt, map-Stmt}
use Rattle.bds_tree.specs.declared.stmt.ActForm.TheOpen.{ActForm-F, Act-F, RightSide-F, Line-F, StmtForm-F, Stmt-F, Block-F, Case-F}

abbrev pub OfSome : {X : Type 0} → (X → Type 0) → Option X → Type 0
OfSome P None = ⊤
OfSome P (Some x) = P x

module _ (ActFormP : ActForm → Type 0) (LineP : Line → Type 0) (RightP : RightSide → Type 0) (StmtFormP : StmtForm → Type 0) (ActP : Act → Type 0) (BlockP : Block → Type 0) (CaseP : Case → Type 0) (StmtP : Stmt → Type 0) where
  abbrev ActFormWith : Type 0
  ActFormWith = (x : ActForm) × ActFormP x

  abbrev LineWith : Type 0
  LineWith = (x : Line) × LineP x

  abbrev RightSideWith : Type 0
  RightSideWith = (x : RightSide) × RightP x

  abbrev StmtFormWith : Type 0
  StmtFormWith = (x : StmtForm) × StmtFormP x

  abbrev ActWith : Type 0
  ActWith = (x : Act) × ActP x

  abbrev BlockWith : Type 0
  BlockWith = (x : Block) × BlockP x

  abbrev CaseWith : Type 0
  CaseWith = (x : Case) × CaseP x

  abbrev StmtWith : Type 0
  StmtWith = (x : Stmt) × StmtP x

  each_stmt : (ss : List StmtWith) → AllByRecursion StmtP (map (λ s. s.0) ss)
  each_stmt [] = tt
  each_stmt (s ∷ ss) = (s.1, each_stmt ss)

  each_case : (cs : List CaseWith) → AllByRecursion CaseP (map (λ c. c.0) cs)
  each_case [] = tt
  each_case (c ∷ cs) = (c.1, each_case cs)

  pub record StmtSteps : Type 0 where
    pub stmts : (s : Stmt-F ActForm Line RightSide StmtForm Act Block Case Stmt) → StmtFormP s.form → StmtP (roll-Stmt s)
    pub blocks : (b : Block-F ActForm Line RightSide StmtForm Act Block Case Stmt) → AllByRecursion StmtP b.stmts → BlockP (roll-Block b)
    pub cases : (c : Case-F ActForm Line RightSide StmtForm Act Block Case Stmt) → AllByRecursion StmtP c.stmts → CaseP (roll-Case c)
    pub acts : (a : Act-F ActForm Line RightSide StmtForm Act Block Case Stmt) → ActFormP a.form → ActP (roll-Act a)
    pub act_sys : (ps : List Piece) → ActFormP (act_form.Sys ps)
    pub act_task : (os : Option (List Setting)) (b : Body) → ActFormP (act_form.Task os b)
    pub act_dep : (os : List Setting) (b : Body) → ActFormP (act_form.Dep os b)
    pub act_goal : (e : Expr) → ActFormP (act_form.Goal e)
    pub act_parcall : (n : List ℕ) (es : List Expr) → ActFormP (act_form.ParCall n es)
    pub act_parblock : (b : Block) → BlockP b → ActFormP (act_form.ParBlock b)
    pub line_declare : (t : Ty) (n : List ℕ) (r : Option RightSide) → OfSome RightP r → LineP (line_form.Declare t n r)
    pub line_infer : (n : List ℕ) (r : RightSide) → RightP r → LineP (line_form.Infer n r)
    pub line_assign : (p : Place) (r : RightSide) → RightP r → LineP (line_form.Assign p r)
    pub line_update : (p : Place) (o : UpdateOp) (r : RightSide) → RightP r → LineP (line_form.Update p o r)
    pub line_step : (s : Step) → LineP (line_form.Step s)
    pub line_call : (e : Expr) → LineP (line_form.Call e)
    pub line_print : (e : Expr) → LineP (line_form.Print e)
    pub line_println : (e : Option Expr) → LineP (line_form.Println e)
    pub line_error : (e : Expr) → LineP (line_form.Error e)
    pub line_exit : (e : Expr) → LineP (line_form.Exit e)
    pub line_break : LineP line_form.Break
    pub line_continue : LineP line_form.Continue
    pub line_return : (r : Option RightSide) → OfSome RightP r → LineP (line_form.Return r)
    pub line_wait : (e : Option Expr) → LineP (line_form.Wait e)
    pub line_checkpoint : (e : Option Expr) → LineP (line_form.Checkpoint e)
    pub line_alone : (a : Act) → ActP a → LineP (line_form.Alone a)
    pub right_expr : (e : Expr) → RightP (right_side.Expr e)
    pub right_act : (a : Act) → ActP a → RightP (right_side.Act a)
    pub stmt_block : (b : Block) → BlockP b → StmtFormP (stmt_form.Block b)
    pub stmt_empty : StmtFormP stmt_form.Empty
    pub stmt_line : (l : Line) → LineP l → StmtFormP (stmt_form.Line l)
    pub stmt_if : (c : Expr) (a : Stmt) (b : Option Stmt) → StmtP a → OfSome StmtP b → StmtFormP (stmt_form.If c a b)
    pub stmt_while : (c : Expr) (s : Stmt) → StmtP s → StmtFormP (stmt_form.While c s)
    pub stmt_for : (f : Option Small) (c : Option Expr) (x : Option Small) (s : Stmt) → StmtP s → StmtFormP (stmt_form.For f c x s)
    pub stmt_each : (t : Ty) (n : List ℕ) (e : Expr) (s : Stmt) → StmtP s → StmtFormP (stmt_form.Each t n e s)
    pub stmt_switch : (e : Expr) (cs : List Case) → AllByRecursion CaseP cs → StmtFormP (stmt_form.Switch e cs)

  module _ (steps : StmtSteps) where
    stmt_layer : (y : Stmt-F ActFormWith LineWith RightSideWith StmtFormWith ActWith BlockWith CaseWith StmtWith) → StmtP (roll-Stmt (map-Stmt ActFormWith LineWith RightSideWith StmtFormWith ActWith BlockWith CaseWith StmtWith ActForm Line RightSide StmtForm Act Block Case Stmt (λ x. x.0) (λ x. x.0) (λ x. x.0) (λ x. x.0) (λ x. x.0) (λ x. x.0) (λ x. x.0) (λ x. x.0) y))
    stmt_layer y = steps.stmts (map-Stmt ActFormWith LineWith RightSideWith StmtFormWith ActWith BlockWith CaseWith StmtWith ActForm Line RightSide StmtForm Act Block Case Stmt (λ x. x.0) (λ x. x.0) (λ x. x.0) (λ x. x.0) (λ x. x.0) (λ x. x.0) (λ x. x.0) (λ x. x.0) y) y.form.1

    block_layer : (y : Block-F ActFormWith LineWith RightSideWith StmtFormWith ActWith BlockWith CaseWith StmtWith) → BlockP (roll-Block (map-Block ActFormWith LineWith RightSideWith StmtFormWith ActWith BlockWith CaseWith StmtWith ActForm Line RightSide StmtForm Act Block Case Stmt (λ x. x.0) (λ x. x.0) (λ x. x.0) (λ x. x.0) (λ x. x.0) (λ x. x.0) (λ x. x.0) (λ x. x.0) y))
    block_layer y = steps.blocks (map-Block ActFormWith LineWith RightSideWith StmtFormWith ActWith BlockWith CaseWith StmtWith ActForm Line RightSide StmtForm Act Block Case Stmt (λ x. x.0) (λ x. x.0) (λ x. x.0) (λ x. x.0) (λ x. x.0) (λ x. x.0) (λ x. x.0) (λ x. x.0) y) (each_stmt y.stmts)

    case_layer : (y : Case-F ActFormWith LineWith RightSideWith StmtFormWith ActWith BlockWith CaseWith StmtWith) → CaseP (roll-Case (map-Case ActFormWith LineWith RightSideWith StmtFormWith ActWith BlockWith CaseWith StmtWith ActForm Line RightSide StmtForm Act Block Case Stmt (λ x. x.0) (λ x. x.0) (λ x. x.0) (λ x. x.0) (λ x. x.0) (λ x. x.0) (λ x. x.0) (λ x. x.0) y))
    case_layer y = steps.cases (map-Case ActFormWith LineWith RightSideWith StmtFormWith ActWith BlockWith CaseWith StmtWith ActForm Line RightSide StmtForm Act Block Case Stmt (λ x. x.0) (λ x. x.0) (λ x. x.0) (λ x. x.0) (λ x. x.0) (λ x. x.0) (λ x. x.0) (λ x. x.0) y) (each_stmt y.stmts)

    act_layer : (y : Act-F ActFormWith LineWith RightSideWith StmtFormWith ActWith BlockWith CaseWith StmtWith) → ActP (roll-Act (map-Act ActFormWith LineWith RightSideWith StmtFormWith ActWith BlockWith CaseWith StmtWith ActForm Line RightSide StmtForm Act Block Case Stmt (λ x. x.0) (λ x. x.0) (λ x. x.0) (λ x. x.0) (λ x. x.0) (λ x. x.0) (λ x. x.0) (λ x. x.0) y))
    act_layer y = steps.acts (map-Act ActFormWith LineWith RightSideWith StmtFormWith ActWith BlockWith CaseWith StmtWith ActForm Line RightSide StmtForm Act Block Case Stmt (λ x. x.0) (λ x. x.0) (λ x. x.0) (λ x. x.0) (λ x. x.0) (λ x. x.0) (λ x. x.0) (λ x. x.0) y) y.form.1

    act_form_layer : (y : ActForm-F ActFormWith LineWith RightSideWith StmtFormWith ActWith BlockWith CaseWith StmtWith) → ActFormP (roll-ActForm (map-ActForm ActFormWith LineWith RightSideWith StmtFormWith ActWith BlockWith CaseWith StmtWith ActForm Line RightSide StmtForm Act Block Case Stmt (λ x. x.0) (λ x. x.0) (λ x. x.0) (λ x. x.0) (λ x. x.0) (λ x. x.0) (λ x. x.0) (λ x. x.0) y))
    act_form_layer (ActForm-F.Sys ps) = subst ActFormP (sym (act_form.rolls-Sys ps)) (steps.act_sys ps)
    act_form_layer (ActForm-F.Task os b) = subst ActFormP (sym (act_form.rolls-Task os b)) (steps.act_task os b)
    act_form_layer (ActForm-F.Dep os b) = subst ActFormP (sym (act_form.rolls-Dep os b)) (steps.act_dep os b)
    act_form_layer (ActForm-F.Goal e) = subst ActFormP (sym (act_form.rolls-Goal e)) (steps.act_goal e)
    act_form_layer (ActForm-F.ParCall n es) = subst ActFormP (sym (act_form.rolls-ParCall n es)) (steps.act_parcall n es)
    act_form_layer (ActForm-F.ParBlock b) = subst ActFormP (sym (act_form.rolls-ParBlock b.0)) (steps.act_parblock b.0 b.1)

    line_layer : (y : Line-F ActFormWith LineWith RightSideWith StmtFormWith ActWith BlockWith CaseWith StmtWith) → LineP (roll-Line (map-Line ActFormWith LineWith RightSideWith StmtFormWith ActWith BlockWith CaseWith StmtWith ActForm Line RightSide StmtForm Act Block Case Stmt (λ x. x.0) (λ x. x.0) (λ x. x.0) (λ x. x.0) (λ x. x.0) (λ x. x.0) (λ x. x.0) (λ x. x.0) y))
    line_layer (Line-F.Declare t n None) = subst LineP (sym (line_form.rolls-Declare t n None)) (steps.line_declare t n None tt)
    line_layer (Line-F.Declare t n (Some r)) = subst LineP (sym (line_form.rolls-Declare t n (Some r.0))) (steps.line_declare t n (Some r.0) r.1)
    line_layer (Line-F.Infer n r) = subst LineP (sym (line_form.rolls-Infer n r.0)) (steps.line_infer n r.0 r.1)
    line_layer (Line-F.Assign p r) = subst LineP (sym (line_form.rolls-Assign p r.0)) (steps.line_assign p r.0 r.1)
    line_layer (Line-F.Update p o r) = subst LineP (sym (line_form.rolls-Update p o r.0)) (steps.line_update p o r.0 r.1)
    line_layer (Line-F.Step s) = subst LineP (sym (line_form.rolls-Step s)) (steps.line_step s)
    line_layer (Line-F.Call e) = subst LineP (sym (line_form.rolls-Call e)) (steps.line_call e)
    line_layer (Line-F.Print e) = subst LineP (sym (line_form.rolls-Print e)) (steps.line_print e)
    line_layer (Line-F.Println e) = subst LineP (sym (line_form.rolls-Println e)) (steps.line_println e)
    line_layer (Line-F.Error e) = subst LineP (sym (line_form.rolls-Error e)) (steps.line_error e)
    line_layer (Line-F.Exit e) = subst LineP (sym (line_form.rolls-Exit e)) (steps.line_exit e)
    line_layer Line-F.Break = subst LineP (sym line_form.rolls-Break) steps.line_break
    line_layer Line-F.Continue = subst LineP (sym line_form.rolls-Continue) steps.line_continue
    line_layer (Line-F.Return None) = subst LineP (sym (line_form.rolls-Return None)) (steps.line_return None tt)
    line_layer (Line-F.Return (Some r)) = subst LineP (sym (line_form.rolls-Return (Some r.0))) (steps.line_return (Some r.0) r.1)
    line_layer (Line-F.Wait e) = subst LineP (sym (line_form.rolls-Wait e)) (steps.line_wait e)
    line_layer (Line-F.Checkpoint e) = subst LineP (sym (line_form.rolls-Checkpoint e)) (steps.line_checkpoint e)
    line_layer (Line-F.Alone a) = subst LineP (sym (line_form.rolls-Alone a.0)) (steps.line_alone a.0 a.1)

    right_layer : (y : RightSide-F ActFormWith LineWith RightSideWith StmtFormWith ActWith BlockWith CaseWith StmtWith) → RightP (roll-RightSide (map-RightSide ActFormWith LineWith RightSideWith StmtFormWith ActWith BlockWith CaseWith StmtWith ActForm Line RightSide StmtForm Act Block Case Stmt (λ x. x.0) (λ x. x.0) (λ x. x.0) (λ x. x.0) (λ x. x.0) (λ x. x.0) (λ x. x.0) (λ x. x.0) y))
    right_layer (RightSide-F.Expr e) = subst RightP (sym (right_side.rolls-Expr e)) (steps.right_expr e)
    right_layer (RightSide-F.Act a) = subst RightP (sym (right_side.rolls-Act a.0)) (steps.right_act a.0 a.1)

    stmt_form_layer : (y : StmtForm-F ActFormWith LineWith RightSideWith StmtFormWith ActWith BlockWith CaseWith StmtWith) → StmtFormP (roll-StmtForm (map-StmtForm ActFormWith LineWith RightSideWith StmtFormWith ActWith BlockWith CaseWith StmtWith ActForm Line RightSide StmtForm Act Block Case Stmt (λ x. x.0) (λ x. x.0) (λ x. x.0) (λ x. x.0) (λ x. x.0) (λ x. x.0) (λ x. x.0) (λ x. x.0) y))
    stmt_form_layer (StmtForm-F.Block b) = subst StmtFormP (sym (stmt_form.rolls-Block b.0)) (steps.stmt_block b.0 b.1)
    stmt_form_layer StmtForm-F.Empty = subst StmtFormP (sym stmt_form.rolls-Empty) steps.stmt_empty
    stmt_form_layer (StmtForm-F.Line l) = subst StmtFormP (sym (stmt_form.rolls-Line l.0)) (steps.stmt_line l.0 l.1)
    stmt_form_layer (StmtForm-F.If c a None) = subst StmtFormP (sym (stmt_form.rolls-If c a.0 None)) (steps.stmt_if c a.0 None a.1 tt)
    stmt_form_layer (StmtForm-F.If c a (Some b)) = subst StmtFormP (sym (stmt_form.rolls-If c a.0 (Some b.0))) (steps.stmt_if c a.0 (Some b.0) a.1 b.1)
    stmt_form_layer (StmtForm-F.While c s) = subst StmtFormP (sym (stmt_form.rolls-While c s.0)) (steps.stmt_while c s.0 s.1)
    stmt_form_layer (StmtForm-F.For f c x s) = subst StmtFormP (sym (stmt_form.rolls-For f c x s.0)) (steps.stmt_for f c x s.0 s.1)
    stmt_form_layer (StmtForm-F.Each t n e s) = subst StmtFormP (sym (stmt_form.rolls-Each t n e s.0)) (steps.stmt_each t n e s.0 s.1)
    stmt_form_layer (StmtForm-F.Switch e cs) = subst StmtFormP (sym (stmt_form.rolls-Switch e (map (λ c. c.0) cs))) (steps.stmt_switch e (map (λ c. c.0) cs) (each_case cs))

    pub stmt_induction : (s : Stmt) → StmtP s
    stmt_induction = ind-Stmt ActFormP LineP RightP StmtFormP ActP BlockP CaseP StmtP
        (λ x y is. subst (λ z. ActFormP (roll-ActForm z)) is (act_form_layer y))
        (λ x y is. subst (λ z. LineP (roll-Line z)) is (line_layer y))
        (λ x y is. subst (λ z. RightP (roll-RightSide z)) is (right_layer y))
        (λ x y is. subst (λ z. StmtFormP (roll-StmtForm z)) is (stmt_form_layer y))
        (λ x y is. subst (λ z. ActP (roll-Act z)) is (act_layer y))
        (λ x y is. subst (λ z. BlockP (roll-Block z)) is (block_layer y))
        (λ x y is. subst (λ z. CaseP (roll-Case z)) is (case_layer y))
        (λ x y is. subst (λ z. StmtP (roll-Stmt z)) is (stmt_layer y))

    pub block_induction : (b : Block) → BlockP b
    block_induction = ind-Block ActFormP LineP RightP StmtFormP ActP BlockP CaseP StmtP
        (λ x y is. subst (λ z. ActFormP (roll-ActForm z)) is (act_form_layer y))
        (λ x y is. subst (λ z. LineP (roll-Line z)) is (line_layer y))
        (λ x y is. subst (λ z. RightP (roll-RightSide z)) is (right_layer y))
        (λ x y is. subst (λ z. StmtFormP (roll-StmtForm z)) is (stmt_form_layer y))
        (λ x y is. subst (λ z. ActP (roll-Act z)) is (act_layer y))
        (λ x y is. subst (λ z. BlockP (roll-Block z)) is (block_layer y))
        (λ x y is. subst (λ z. CaseP (roll-Case z)) is (case_layer y))
        (λ x y is. subst (λ z. StmtP (roll-Stmt z)) is (stmt_layer y))
