-- Statements and scripts as plain trees: what every definition on them speaks of.
use Rattle.std.specs.Prelude.{ℕ, List, [], ◌∷◌, Option, Some, None}
use Rattle.bds_value.specs.declared.value.At.{At}
use Rattle.bds_value.specs.declared.value.Ty.{Ty}
use Rattle.bds_tree.specs.declared.token.Piece.{Piece}
use Rattle.bds_tree.specs.declared.stmt.Body.{Body}
use Rattle.bds_tree.specs.declared.stmt.Include.{Include}
use Rattle.bds_tree.specs.declared.stmt.Parameter.{Parameter}
use Rattle.bds_tree.specs.declared.stmt.StepOp.{StepOp}
use Rattle.bds_tree.specs.declared.stmt.UpdateOp.{UpdateOp}
use Rattle.bds_tree.specs.Tree.{Tree, Trees}

pub data SuffixTree : Type 0 where
  at_index : Tree → SuffixTree
  at_key : Tree → SuffixTree

-- a variable, or a part of one
pub record PlaceTree : Type 0 where
  pub at : At
  pub name : List ℕ
  pub suffixes : List SuffixTree

pub data StepTree : Type 0 where
  step_after : PlaceTree → StepOp → StepTree
  step_before : StepOp → PlaceTree → StepTree

pub data SmallFormTree : Type 0 where
  small_declare : Ty → List ℕ → Option Tree → SmallFormTree
  small_infer : List ℕ → Tree → SmallFormTree
  small_assign : PlaceTree → Tree → SmallFormTree
  small_update : PlaceTree → UpdateOp → Tree → SmallFormTree
  small_step : StepTree → SmallFormTree
  small_call : Tree → SmallFormTree

-- a part of the head of a `for` with two `;`
pub record SmallTree : Type 0 where
  pub at : At
  pub form : SmallFormTree

pub data SettingFormTree : Type 0 where
  setting_named : List ℕ → Tree → SettingFormTree
  setting_plain : Tree → SettingFormTree

-- an option of a `task` or a `dep`
pub record SettingTree : Type 0 where
  pub at : At
  pub form : SettingFormTree

mutual
  pub data StmtTree : Type 0 where
    stmt : At → StmtFormTree → StmtTree

  pub data StmtFormTree : Type 0 where
    inner_block : BlockTree → StmtFormTree
    empty : StmtFormTree
    line : LineTree → StmtFormTree
    when : Tree → StmtTree → MaybeStmt → StmtFormTree
    while : Tree → StmtTree → StmtFormTree
    for : Option SmallTree → Option Tree → Option SmallTree → StmtTree → StmtFormTree
    each : Ty → List ℕ → Tree → StmtTree → StmtFormTree
    switch : Tree → CaseTrees → StmtFormTree

  pub data LineTree : Type 0 where
    declare : Ty → List ℕ → MaybeRight → LineTree
    infer : List ℕ → RightTree → LineTree
    assign : PlaceTree → RightTree → LineTree
    update : PlaceTree → UpdateOp → RightTree → LineTree
    step : StepTree → LineTree
    call_line : Tree → LineTree
    print : Tree → LineTree
    println : Option Tree → LineTree
    error : Tree → LineTree
    exit : Tree → LineTree
    break : LineTree
    continue : LineTree
    return : MaybeRight → LineTree
    wait : Option Tree → LineTree
    checkpoint : Option Tree → LineTree
    act_line : ActTree → LineTree

  -- what stands on the right
  pub data RightTree : Type 0 where
    right_expr : Tree → RightTree
    right_act : ActTree → RightTree

  pub data ActTree : Type 0 where
    act : At → ActFormTree → ActTree

  pub data ActFormTree : Type 0 where
    sys : List Piece → ActFormTree
    task : Option (List SettingTree) → Body → ActFormTree
    dep : List SettingTree → Body → ActFormTree
    goal : Tree → ActFormTree
    par_call : List ℕ → Trees → ActFormTree
    par_block : BlockTree → ActFormTree

  pub data BlockTree : Type 0 where
    block : At → StmtTrees → BlockTree

  pub data StmtTrees : Type 0 where
    no_stmts : StmtTrees
    more_stmts : StmtTree → StmtTrees → StmtTrees

  -- a case with its label, or `default`, and its statements
  pub data CaseTree : Type 0 where
    a_case : At → Option Tree → StmtTrees → CaseTree

  pub data CaseTrees : Type 0 where
    no_cases : CaseTrees
    more_cases : CaseTree → CaseTrees → CaseTrees

  pub data MaybeStmt : Type 0 where
    no_stmt : MaybeStmt
    a_stmt : StmtTree → MaybeStmt

  pub data MaybeRight : Type 0 where
    no_right : MaybeRight
    a_right : RightTree → MaybeRight

-- the result is `Void` for `void`
pub record FunctionTree : Type 0 where
  pub at : At
  pub result : Ty
  pub name : List ℕ
  pub parameters : List Parameter
  pub body : BlockTree

pub data PartTree : Type 0 where
  a_function : FunctionTree → PartTree
  an_include : Include → PartTree
  a_statement : StmtTree → PartTree

pub record ScriptTree : Type 0 where
  pub at : At
  pub files : List (List ℕ)
  pub parts : List PartTree

abbrev pub to_stmts : List StmtTree → StmtTrees
to_stmts [] = no_stmts
to_stmts (s ∷ ss) = more_stmts s (to_stmts ss)

abbrev pub to_cases : List CaseTree → CaseTrees
to_cases [] = no_cases
to_cases (c ∷ cs) = more_cases c (to_cases cs)

abbrev pub to_maybe_stmt : Option StmtTree → MaybeStmt
to_maybe_stmt None = no_stmt
to_maybe_stmt (Some s) = a_stmt s

abbrev pub to_maybe_right : Option RightTree → MaybeRight
to_maybe_right None = no_right
to_maybe_right (Some r) = a_right r
