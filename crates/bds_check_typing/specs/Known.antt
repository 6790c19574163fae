-- Where each value has a type: one that can be written, so that no `Void` stands in it.
use Rattle.std.specs.Prelude.{◌≡◌, true, Option, Some, None, List, ⊤}
use Rattle.std.specs.List.{AllByRecursion}
use Rattle.bds_value.specs.declared.value.Ty.{Ty}
use Rattle.bds_value.specs.Fields.{is_solid}
use Rattle.bds_tree.specs.Tree.{Tree, FormTree, Trees, TreePairs, node, number, text, truth, name, call, group, list, mapping, item, key, method, prefix, binary, choice, dependency, none, more, no_pairs, more_pairs, type_of, form_of}
use Rattle.bds_tree.specs.StmtTree.{SuffixTree, at_index, at_key, PlaceTree, StepTree, step_after, step_before, SmallFormTree, small_declare, small_infer, small_assign, small_update, small_step, small_call, SmallTree, SettingFormTree, setting_named, setting_plain, SettingTree, StmtTree, StmtFormTree, LineTree, RightTree, ActTree, ActFormTree, BlockTree, StmtTrees, MaybeStmt, MaybeRight, PartTree, ScriptTree, stmt, inner_block, empty, line, when, while, for, each, declare, infer, assign, update, step, call_line, print, println, error, exit, break, continue, return, wait, checkpoint, act_line, right_expr, right_act, act, sys, task, dep, goal, par_call, par_block, block, no_stmts, more_stmts, no_stmt, a_stmt, no_right, a_right, a_function, an_include, a_statement, switch, CaseTrees, CaseTree, no_cases, more_cases, a_case}
use Rattle.bds_tree.specs.StmtShape.{is_result}
use Rattle.bds_check_names.specs.declared.names.Names.{Names}
use Rattle.bds_check_names.specs.declared.names.Head.{Head}
use Rattle.bds_check_names.specs.declared.names.Variable.{Variable}
use Rattle.bds_check_names.specs.declared.names.Asked.{Asked}
use Rattle.bds_check_names.specs.declared.names.Asked.TheVariants.{Whole, Value, This}
use Rattle.bds_check_rules.specs.StmtBreaks.{act_form_type}
use Rattle.bds_check_typing.specs.WellTypedScripts.{globals_in, IsWellTypedUnder}

abbrev pub AreWritten : List Ty → Type 0
AreWritten ts = AllByRecursion (λ t. is_solid t ≡ true) ts

abbrev pub IsHeadWritten : Head → Type 0
IsHeadWritten h = AreWritten h.parameters × (is_result h.result ≡ true)

abbrev pub AreVariablesWritten : List Variable → Type 0
AreVariablesWritten vs = AllByRecursion (λ v. is_solid v.ty ≡ true) vs

-- the names in force have types; a function may have no result
pub record AreNamesWritten (names : Names) : Type 0 where
  pub functions : AllByRecursion IsHeadWritten names.functions
  pub globals : AreVariablesWritten names.globals
  pub locals : AreVariablesWritten names.locals

-- what is asked is a type that can be written, or none
abbrev pub IsAskedWritten : Asked → Type 0
IsAskedWritten Whole = ⊤
IsAskedWritten Value = ⊤
IsAskedWritten (This t) = is_solid t ≡ true

-- The types that a source writes

abbrev pub AreSmallFormTypesWritten : SmallFormTree → Type 0
AreSmallFormTypesWritten (small_declare t x e) = is_solid t ≡ true
AreSmallFormTypesWritten _ = ⊤

abbrev pub AreSmallTypesWritten : Option SmallTree → Type 0
AreSmallTypesWritten None = ⊤
AreSmallTypesWritten (Some s) = AreSmallFormTypesWritten s.form

abbrev mutual
  pub AreStmtTypesWritten : StmtTree → Type 0
  AreStmtTypesWritten (stmt at f) = AreFormTypesWritten f

  pub AreFormTypesWritten : StmtFormTree → Type 0
  AreFormTypesWritten (inner_block b) = AreBlockTypesWritten b
  AreFormTypesWritten empty = ⊤
  AreFormTypesWritten (line l) = AreLineTypesWritten l
  AreFormTypesWritten (when c then_part else_part) = AreStmtTypesWritten then_part × AreElseTypesWritten else_part
  AreFormTypesWritten (while c s) = AreStmtTypesWritten s
  AreFormTypesWritten (for first c next s) = AreSmallTypesWritten first × AreSmallTypesWritten next × AreStmtTypesWritten s
  AreFormTypesWritten (each t x e s) = (is_solid t ≡ true) × AreStmtTypesWritten s
  AreFormTypesWritten (switch e cs) = AreCasesTypesWritten cs

  pub AreCasesTypesWritten : CaseTrees → Type 0
  AreCasesTypesWritten no_cases = ⊤
  AreCasesTypesWritten (more_cases c cs) = AreCaseTypesWritten c × AreCasesTypesWritten cs

  pub AreCaseTypesWritten : CaseTree → Type 0
  AreCaseTypesWritten (a_case at l ss) = AreStmtsTypesWritten ss

  pub AreElseTypesWritten : MaybeStmt → Type 0
  AreElseTypesWritten no_stmt = ⊤
  AreElseTypesWritten (a_stmt s) = AreStmtTypesWritten s

  pub AreLineTypesWritten : LineTree → Type 0
  AreLineTypesWritten (declare t x r) = (is_solid t ≡ true) × AreMaybeRightTypesWritten r
  AreLineTypesWritten (infer x r) = AreRightTypesWritten r
  AreLineTypesWritten (assign p r) = AreRightTypesWritten r
  AreLineTypesWritten (update p o r) = AreRightTypesWritten r
  AreLineTypesWritten (return r) = AreMaybeRightTypesWritten r
  AreLineTypesWritten (act_line a) = AreActTypesWritten a
  AreLineTypesWritten _ = ⊤

  pub AreRightTypesWritten : RightTree → Type 0
  AreRightTypesWritten (right_expr e) = ⊤
  AreRightTypesWritten (right_act a) = AreActTypesWritten a

  pub AreMaybeRightTypesWritten : MaybeRight → Type 0
  AreMaybeRightTypesWritten no_right = ⊤
  AreMaybeRightTypesWritten (a_right r) = AreRightTypesWritten r

  pub AreActTypesWritten : ActTree → Type 0
  AreActTypesWritten (act at f) = AreActFormTypesWritten f

  pub AreActFormTypesWritten : ActFormTree → Type 0
  AreActFormTypesWritten (par_block b) = AreBlockTypesWritten b
  AreActFormTypesWritten _ = ⊤

  pub AreBlockTypesWritten : BlockTree → Type 0
  AreBlockTypesWritten (block at ss) = AreStmtsTypesWritten ss

  pub AreStmtsTypesWritten : StmtTrees → Type 0
  AreStmtsTypesWritten no_stmts = ⊤
  AreStmtsTypesWritten (more_stmts s ss) = AreStmtTypesWritten s × AreStmtsTypesWritten ss

abbrev pub ArePartTypesWritten : PartTree → Type 0
ArePartTypesWritten (a_function f) = (is_result f.result ≡ true) × AllByRecursion (λ p. is_solid p.ty ≡ true) f.parameters × AreBlockTypesWritten f.body
ArePartTypesWritten (an_include i) = ⊤
ArePartTypesWritten (a_statement s) = AreStmtTypesWritten s

-- the type of each declaration, of each parameter and of each variable of a list loop can be written, and each function has such a result or none
abbrev pub HasWrittenTypes : ScriptTree → Type 0
HasWrittenTypes s = AllByRecursion ArePartTypesWritten s.parts

-- Values

abbrev mutual
  -- the value has a type, and so has each value in it
  pub IsValueWritten : Tree → Type 0
  IsValueWritten (node at t f) = (is_solid t ≡ true) × ArePartsWritten f

  -- the parts of an expression are values
  pub ArePartsWritten : FormTree → Type 0
  ArePartsWritten (number v) = ⊤
  ArePartsWritten (text ps) = ⊤
  ArePartsWritten (truth b) = ⊤
  ArePartsWritten (name x) = ⊤
  ArePartsWritten (call f es) = AreValuesWritten es
  ArePartsWritten (group e) = IsValueWritten e
  ArePartsWritten (list es) = AreValuesWritten es
  ArePartsWritten (mapping ps) = ArePairsWritten ps
  ArePartsWritten (item a i) = IsValueWritten a × IsValueWritten i
  ArePartsWritten (key a k) = IsValueWritten a × IsValueWritten k
  ArePartsWritten (method a m es) = IsValueWritten a × AreValuesWritten es
  ArePartsWritten (prefix o a) = IsValueWritten a
  ArePartsWritten (binary a o b) = IsValueWritten a × IsValueWritten b
  ArePartsWritten (choice c a b) = IsValueWritten c × IsValueWritten a × IsValueWritten b
  ArePartsWritten (dependency a b) = IsValueWritten a × IsValueWritten b

  pub AreValuesWritten : Trees → Type 0
  AreValuesWritten none = ⊤
  AreValuesWritten (more e es) = IsValueWritten e × AreValuesWritten es

  pub ArePairsWritten : TreePairs → Type 0
  ArePairsWritten no_pairs = ⊤
  ArePairsWritten (more_pairs k v ps) = IsValueWritten k × IsValueWritten v × ArePairsWritten ps

-- a whole statement is a call that may have no value, or else has a type
abbrev pub IsCallWritten : Tree → Type 0
IsCallWritten e = (is_result (type_of e) ≡ true) × ArePartsWritten (form_of e)

abbrev pub IsMaybeWritten : Option Tree → Type 0
IsMaybeWritten None = ⊤
IsMaybeWritten (Some e) = IsValueWritten e

abbrev pub IsSuffixWritten : SuffixTree → Type 0
IsSuffixWritten (at_index e) = IsValueWritten e
IsSuffixWritten (at_key e) = IsValueWritten e

abbrev pub IsPlaceWritten : PlaceTree → Type 0
IsPlaceWritten p = AllByRecursion IsSuffixWritten p.suffixes

abbrev pub IsStepWritten : StepTree → Type 0
IsStepWritten (step_after p o) = IsPlaceWritten p
IsStepWritten (step_before o p) = IsPlaceWritten p

abbrev pub IsSmallFormWritten : SmallFormTree → Type 0
IsSmallFormWritten (small_declare t x e) = (is_solid t ≡ true) × IsMaybeWritten e
IsSmallFormWritten (small_infer x e) = IsValueWritten e
IsSmallFormWritten (small_assign p e) = IsPlaceWritten p × IsValueWritten e
IsSmallFormWritten (small_update p o e) = IsPlaceWritten p × IsValueWritten e
IsSmallFormWritten (small_step s) = IsStepWritten s
IsSmallFormWritten (small_call e) = IsCallWritten e

abbrev pub IsSmallWritten : Option SmallTree → Type 0
IsSmallWritten None = ⊤
IsSmallWritten (Some s) = IsSmallFormWritten s.form

abbrev pub IsSettingFormWritten : SettingFormTree → Type 0
IsSettingFormWritten (setting_named x e) = IsValueWritten e
IsSettingFormWritten (setting_plain e) = IsValueWritten e

abbrev pub AreSettingsWritten : List SettingTree → Type 0
AreSettingsWritten ss = AllByRecursion (λ s. IsSettingFormWritten s.form) ss

abbrev pub AreMaybeSettingsWritten : Option (List SettingTree) → Type 0
AreMaybeSettingsWritten None = ⊤
AreMaybeSettingsWritten (Some os) = AreSettingsWritten os

abbrev mutual
  pub IsStmtWritten : StmtTree → Type 0
  IsStmtWritten (stmt at f) = IsFormWritten f

  pub IsFormWritten : StmtFormTree → Type 0
  IsFormWritten (inner_block b) = IsBlockWritten b
  IsFormWritten empty = ⊤
  IsFormWritten (line l) = IsLineWritten l
  IsFormWritten (when c then_part else_part) = IsValueWritten c × IsStmtWritten then_part × IsElseWritten else_part
  IsFormWritten (while c s) = IsValueWritten c × IsStmtWritten s
  IsFormWritten (for first c next s) = IsSmallWritten first × IsMaybeWritten c × IsSmallWritten next × IsStmtWritten s
  IsFormWritten (each t x e s) = (is_solid t ≡ true) × IsValueWritten e × IsStmtWritten s
  IsFormWritten (switch e cs) = IsValueWritten e × AreCasesWritten cs

  pub AreCasesWritten : CaseTrees → Type 0
  AreCasesWritten no_cases = ⊤
  AreCasesWritten (more_cases c cs) = IsCaseWritten c × AreCasesWritten cs

  pub IsCaseWritten : CaseTree → Type 0
  IsCaseWritten (a_case at l ss) = IsMaybeWritten l × AreStmtsWritten ss

  pub IsElseWritten : MaybeStmt → Type 0
  IsElseWritten no_stmt = ⊤
  IsElseWritten (a_stmt s) = IsStmtWritten s

  pub IsLineWritten : LineTree → Type 0
  IsLineWritten (declare t x r) = (is_solid t ≡ true) × IsMaybeRightWritten r
  IsLineWritten (infer x r) = IsRightWritten r
  IsLineWritten (assign p r) = IsPlaceWritten p × IsRightWritten r
  IsLineWritten (update p o r) = IsPlaceWritten p × IsRightWritten r
  IsLineWritten (step s) = IsStepWritten s
  IsLineWritten (call_line e) = IsCallWritten e
  IsLineWritten (print e) = IsValueWritten e
  IsLineWritten (println e) = IsMaybeWritten e
  IsLineWritten (error e) = IsValueWritten e
  IsLineWritten (exit e) = IsValueWritten e
  IsLineWritten break = ⊤
  IsLineWritten continue = ⊤
  IsLineWritten (return r) = IsMaybeRightWritten r
  IsLineWritten (wait e) = IsMaybeWritten e
  IsLineWritten (checkpoint e) = IsMaybeWritten e
  IsLineWritten (act_line a) = IsActWritten a

  -- the value of an act too
  pub IsRightWritten : RightTree → Type 0
  IsRightWritten (right_expr e) = IsValueWritten e
  IsRightWritten (right_act a) = IsActValueWritten a

  pub IsMaybeRightWritten : MaybeRight → Type 0
  IsMaybeRightWritten no_right = ⊤
  IsMaybeRightWritten (a_right r) = IsRightWritten r

  pub IsActValueWritten : ActTree → Type 0
  IsActValueWritten (act at f) = (is_solid (act_form_type f) ≡ true) × IsActFormWritten f

  pub IsActWritten : ActTree → Type 0
  IsActWritten (act at f) = IsActFormWritten f

  pub IsActFormWritten : ActFormTree → Type 0
  IsActFormWritten (sys ps) = ⊤
  IsActFormWritten (task os b) = AreMaybeSettingsWritten os
  IsActFormWritten (dep os b) = AreSettingsWritten os
  IsActFormWritten (goal e) = IsValueWritten e
  IsActFormWritten (par_call f es) = AreValuesWritten es
  IsActFormWritten (par_block b) = IsBlockWritten b

  pub IsBlockWritten : BlockTree → Type 0
  IsBlockWritten (block at ss) = AreStmtsWritten ss

  pub AreStmtsWritten : StmtTrees → Type 0
  AreStmtsWritten no_stmts = ⊤
  AreStmtsWritten (more_stmts s ss) = IsStmtWritten s × AreStmtsWritten ss

abbrev pub IsPartWritten : PartTree → Type 0
IsPartWritten (a_function f) = AllByRecursion (λ p. is_solid p.ty ≡ true) f.parameters × (is_result f.result ≡ true) × IsBlockWritten f.body
IsPartWritten (an_include i) = ⊤
IsPartWritten (a_statement s) = IsStmtWritten s

-- each value in it has a type, and so has each variable
abbrev pub IsScriptWritten : ScriptTree → Type 0
IsScriptWritten s = AllByRecursion IsPartWritten s.parts

-- each node has its type and breaks no rule, each value has a type, and functions see just the globals that the top level declares, each with a type
abbrev pub IsFullyTyped : ScriptTree → Type 0
IsFullyTyped s = IsWellTypedUnder s (globals_in s) × AreVariablesWritten (globals_in s) × IsScriptWritten s
