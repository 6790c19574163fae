-- Which scripts are checked. This is asked of the tree itself, with its types or without: which form stands under which is of no matter.
use Rattle.std.specs.Prelude.{◌≡◌, ℕ, ◌<◌, ◌≤◌, true, Option, Some, None, List, length, ⊤}
use Rattle.std.specs.List.{AllByRecursion}
use Rattle.bds_value.specs.declared.TheConstants.{MAX_FILES, MAX_NESTING}
use Rattle.bds_value.specs.declared.value.At.{At}
use Rattle.bds_value.specs.declared.value.Ty.{Ty}
use Rattle.bds_value.specs.Fields.{is_solid, nesting}
use Rattle.bds_tree.specs.declared.stmt.Body.{Body}
use Rattle.bds_tree.specs.declared.stmt.Parameter.{Parameter}
use Rattle.bds_tree.specs.Tree.{Tree, FormTree, Trees, TreePairs, node, number, text, truth, name, call, group, list, mapping, item, key, method, prefix, binary, choice, dependency, none, more, no_pairs, more_pairs}
use Rattle.bds_tree.specs.StmtTree.{SuffixTree, at_index, at_key, PlaceTree, StepTree, step_after, step_before, SmallFormTree, small_declare, small_infer, small_assign, small_update, small_step, small_call, SmallTree, SettingFormTree, setting_named, setting_plain, SettingTree, StmtTree, StmtFormTree, LineTree, RightTree, ActTree, ActFormTree, BlockTree, StmtTrees, MaybeStmt, MaybeRight, FunctionTree, PartTree, ScriptTree, stmt, inner_block, empty, line, when, while, for, each, declare, infer, assign, update, step, call_line, print, println, error, exit, break, continue, return, wait, checkpoint, act_line, right_expr, right_act, act, sys, task, dep, goal, par_call, par_block, block, no_stmts, more_stmts, no_stmt, a_stmt, no_right, a_right, a_function, an_include, a_statement, switch, CaseTrees, CaseTree, no_cases, more_cases, a_case}
use Rattle.bds_tree.specs.StmtShape.{is_result, is_call, parts_height}
use Rattle.bds_check_rules.specs.StmtBreaks.{commands_of}
use Rattle.bds_check_typing.specs.Texts.{IsShort, AreShortPieces}

-- a type that is written holds no `Void`, and nests no deeper than types may
abbrev pub IsWrittenType : Ty → Type 0
IsWrittenType t = (is_solid t ≡ true) × (nesting t ≤ MAX_NESTING)

-- a function may have no result
abbrev pub IsWrittenResult : Ty → Type 0
IsWrittenResult t = (is_result t ≡ true) × (nesting t ≤ MAX_NESTING)

abbrev pub IsProperParameter : Parameter → Type 0
IsProperParameter p = IsWrittenType p.ty × IsShort p.name

-- where there are so many files
module _ (files : ℕ) where
  -- the file of a node is one of them
  abbrev pub IsInFile : At → Type 0
  IsInFile at = at.file < files

  abbrev mutual
    pub IsProperExpr : Tree → Type 0
    IsProperExpr (node at t f) = IsInFile at × IsProperForm f

    pub IsProperForm : FormTree → Type 0
    IsProperForm (number v) = ⊤
    IsProperForm (text ps) = AreShortPieces ps
    IsProperForm (truth b) = ⊤
    IsProperForm (name x) = IsShort x
    IsProperForm (call f es) = IsShort f × AreProperExprs es
    IsProperForm (group e) = IsProperExpr e
    IsProperForm (list es) = AreProperExprs es
    IsProperForm (mapping ps) = AreProperPairs ps
    IsProperForm (item a i) = IsProperExpr a × IsProperExpr i
    IsProperForm (key a k) = IsProperExpr a × IsProperExpr k
    IsProperForm (method a m es) = IsShort m × IsProperExpr a × AreProperExprs es
    IsProperForm (prefix o a) = IsProperExpr a
    IsProperForm (binary a o b) = IsProperExpr a × IsProperExpr b
    IsProperForm (choice c a b) = IsProperExpr c × IsProperExpr a × IsProperExpr b
    IsProperForm (dependency a b) = IsProperExpr a × IsProperExpr b

    pub AreProperExprs : Trees → Type 0
    AreProperExprs none = ⊤
    AreProperExprs (more e es) = IsProperExpr e × AreProperExprs es

    pub AreProperPairs : TreePairs → Type 0
    AreProperPairs no_pairs = ⊤
    AreProperPairs (more_pairs k v ps) = IsProperExpr k × IsProperExpr v × AreProperPairs ps

  abbrev pub IsProperMaybe : Option Tree → Type 0
  IsProperMaybe None = ⊤
  IsProperMaybe (Some e) = IsProperExpr e

  abbrev pub IsProperSuffix : SuffixTree → Type 0
  IsProperSuffix (at_index e) = IsProperExpr e
  IsProperSuffix (at_key e) = IsProperExpr e

  abbrev pub IsProperPlace : PlaceTree → Type 0
  IsProperPlace p = IsInFile p.at × IsShort p.name × AllByRecursion IsProperSuffix p.suffixes

  abbrev pub IsProperStep : StepTree → Type 0
  IsProperStep (step_after p o) = IsProperPlace p
  IsProperStep (step_before o p) = IsProperPlace p

  -- an expression that stands alone is a call
  abbrev pub IsProperSmallForm : SmallFormTree → Type 0
  IsProperSmallForm (small_declare t x e) = IsWrittenType t × IsShort x × IsProperMaybe e
  IsProperSmallForm (small_infer x e) = IsShort x × IsProperExpr e
  IsProperSmallForm (small_assign p e) = IsProperPlace p × IsProperExpr e
  IsProperSmallForm (small_update p o e) = IsProperPlace p × IsProperExpr e
  IsProperSmallForm (small_step s) = IsProperStep s
  IsProperSmallForm (small_call e) = (is_call e ≡ true) × IsProperExpr e

  abbrev pub IsProperSmall : Option SmallTree → Type 0
  IsProperSmall None = ⊤
  IsProperSmall (Some s) = IsInFile s.at × IsProperSmallForm s.form

  abbrev pub IsProperSettingForm : SettingFormTree → Type 0
  IsProperSettingForm (setting_named x e) = IsShort x × IsProperExpr e
  IsProperSettingForm (setting_plain e) = IsProperExpr e

  abbrev pub IsProperSetting : SettingTree → Type 0
  IsProperSetting s = IsInFile s.at × IsProperSettingForm s.form

  abbrev pub AreProperMaybeSettings : Option (List SettingTree) → Type 0
  AreProperMaybeSettings None = ⊤
  AreProperMaybeSettings (Some ss) = AllByRecursion IsProperSetting ss

  abbrev pub IsProperBody : Body → Type 0
  IsProperBody b = AllByRecursion (λ c. IsInFile c.at × AreShortPieces c.text) (commands_of b)

  abbrev mutual
    pub IsProperStmt : StmtTree → Type 0
    IsProperStmt (stmt at f) = IsInFile at × IsProperStmtForm f

    pub IsProperStmtForm : StmtFormTree → Type 0
    IsProperStmtForm (inner_block b) = IsProperBlock b
    IsProperStmtForm empty = ⊤
    IsProperStmtForm (line l) = IsProperLine l
    IsProperStmtForm (when c then_part else_part) = IsProperExpr c × IsProperStmt then_part × IsProperElse else_part
    IsProperStmtForm (while c s) = IsProperExpr c × IsProperStmt s
    IsProperStmtForm (for first c next s) = IsProperSmall first × IsProperMaybe c × IsProperSmall next × IsProperStmt s
    IsProperStmtForm (each t x e s) = IsWrittenType t × IsShort x × IsProperExpr e × IsProperStmt s
    IsProperStmtForm (switch e cs) = IsProperExpr e × AreProperCases cs

    pub AreProperCases : CaseTrees → Type 0
    AreProperCases no_cases = ⊤
    AreProperCases (more_cases c cs) = IsProperCase c × AreProperCases cs

    pub IsProperCase : CaseTree → Type 0
    IsProperCase (a_case at l ss) = IsInFile at × IsProperMaybe l × AreProperStmts ss

    pub IsProperElse : MaybeStmt → Type 0
    IsProperElse no_stmt = ⊤
    IsProperElse (a_stmt s) = IsProperStmt s

    pub IsProperLine : LineTree → Type 0
    IsProperLine (declare t x r) = IsWrittenType t × IsShort x × IsProperMaybeRight r
    IsProperLine (infer x r) = IsShort x × IsProperRight r
    IsProperLine (assign p r) = IsProperPlace p × IsProperRight r
    IsProperLine (update p o r) = IsProperPlace p × IsProperRight r
    IsProperLine (step s) = IsProperStep s
    IsProperLine (call_line e) = (is_call e ≡ true) × IsProperExpr e
    IsProperLine (print e) = IsProperExpr e
    IsProperLine (println e) = IsProperMaybe e
    IsProperLine (error e) = IsProperExpr e
    IsProperLine (exit e) = IsProperExpr e
    IsProperLine break = ⊤
    IsProperLine continue = ⊤
    IsProperLine (return r) = IsProperMaybeRight r
    IsProperLine (wait e) = IsProperMaybe e
    IsProperLine (checkpoint e) = IsProperMaybe e
    IsProperLine (act_line a) = IsProperAct a

    pub IsProperRight : RightTree → Type 0
    IsProperRight (right_expr e) = IsProperExpr e
    IsProperRight (right_act a) = IsProperAct a

    pub IsProperMaybeRight : MaybeRight → Type 0
    IsProperMaybeRight no_right = ⊤
    IsProperMaybeRight (a_right r) = IsProperRight r

    pub IsProperAct : ActTree → Type 0
    IsProperAct (act at f) = IsInFile at × IsProperActForm f

    pub IsProperActForm : ActFormTree → Type 0
    IsProperActForm (sys ps) = AreShortPieces ps
    IsProperActForm (task os b) = AreProperMaybeSettings os × IsProperBody b
    IsProperActForm (dep os b) = AllByRecursion IsProperSetting os × IsProperBody b
    IsProperActForm (goal e) = IsProperExpr e
    IsProperActForm (par_call f es) = IsShort f × AreProperExprs es
    IsProperActForm (par_block b) = IsProperBlock b

    pub IsProperBlock : BlockTree → Type 0
    IsProperBlock (block at ss) = IsInFile at × AreProperStmts ss

    pub AreProperStmts : StmtTrees → Type 0
    AreProperStmts no_stmts = ⊤
    AreProperStmts (more_stmts s ss) = IsProperStmt s × AreProperStmts ss

  abbrev pub IsProperFunction : FunctionTree → Type 0
  IsProperFunction f =
      IsInFile f.at × IsWrittenResult f.result × IsShort f.name × AllByRecursion IsProperParameter f.parameters × IsProperBlock f.body

  -- no include stands in it
  abbrev pub IsProperPart : PartTree → Type 0
  IsProperPart (a_function f) = IsProperFunction f
  IsProperPart (an_include i) = ⊥
  IsProperPart (a_statement s) = IsProperStmt s

-- a script in which each include has given place to the parts of its file, and which knows the path of each file
pub record IsProgram (s : ScriptTree) : Type 0 where
  pub paths : AllByRecursion IsShort s.files
  pub few : length s.files ≤ MAX_FILES
  pub file : IsInFile (length s.files) s.at
  pub parts : AllByRecursion (IsProperPart (length s.files)) s.parts
  pub nesting : parts_height s.parts ≤ MAX_NESTING
