-- What is asked of a script for the unit that is generated from it to have its code: each name is declared once where it stands, each statement and
-- function is as an accepted script has it, and the values that words give fit.
use Rattle.std.specs.Prelude.{◌≡◌, ◌≤◌, ℕ, false, List, [], ◌∷◌, map, length, unwrap_or, ⊤}
use Rattle.bds_value.specs.declared.TheConstants.{MAX_ITEMS}
use Rattle.bds_tree.specs.StmtTree.{StmtTree, LineTree, FunctionTree, PartTree, ScriptTree, stmt, line, declare, infer, no_right, a_right, a_function, a_statement}
use Rattle.bds_code.specs.declared.unit.Unit.{Unit as CodeUnit}
use Rattle.bds_check_typing.specs.Program.{any_twice}
use Rattle.bds_check_typing.specs.WellTypedScripts.{first_names}
use Rattle.bds_check_names.specs.declared.names.Names.{Names as Checked}
use Rattle.bds_check_names.specs.declared.names.Variable.{Variable}
use Rattle.bds_check_names.specs.Scopes.{any_named, with_locals, top, inner, in_function}
use Rattle.bds_check_size.specs.ScriptSize.{Settings}
use Rattle.bds_gen_expr.specs.Numbers.{first_callee, callees_from}
use Rattle.bds_gen_expr.specs.declared.scope.Scope.{Scope}
use Rattle.bds_gen_stmt.specs.FunctionCode.{opening}
use Rattle.bds_check_typing.specs.GivenValues.{FitGlobals, AreShortLists}
use Rattle.bds_gen_stmt.specs.Spots.{Spot}
use Rattle.bds_gen_stmt.specs.StmtCode.{behind as spot_behind}
use Rattle.bds_gen_stmt.specs.UnitCode.{parameter_locals, function_names, function_scope, first_spot, unit_of}
use Rattle.bds_meaning.specs.Opening.{all_names, parameters_of, functions_of}
use Rattle.bds_meaning.specs.OpeningStatements.{behind}
use Rattle.bds_sim_terms.specs.steps.Stands.{Source}
use Rattle.bds_sim_code.specs.StmtHere.{RightHere, LineHere, FormHere, RightParsHere, ParsHere, BlockHere, no_leaps}

-- a script as the source of a unit: its functions, its globals in the order of their numbers, and the number of each function. A name that no function has stands for none of the unit
abbrev pub source_of : ScriptTree → CodeUnit → Source
source_of s u = record {
  program = functions_of (all_names s.parts) s.parts;
  globals = map (λ (v : Variable). v.name) (all_names s.parts).globals;
  number = λ x. unwrap_or (first_callee x (callees_from 1 (function_names s.parts))) (length u.functions);
}

module _ (o : Source) (u : CodeUnit) where
  -- a line of the top level: it declares a global of a name that none before has
  abbrev pub TopLineHere : LineTree → Checked → Scope → Type 0
  TopLineHere (declare t x no_right) names sc = any_named x names.globals ≡ false
  TopLineHere (declare t x (a_right r)) names sc = (any_named x names.globals ≡ false) × RightHere o u names sc r × RightParsHere o u r names sc
  TopLineHere (infer x r) names sc = (any_named x names.globals ≡ false) × RightHere o u names sc r × RightParsHere o u r names sc
  TopLineHere l names sc = LineHere o u names sc (inner names top) no_leaps l × ParsHere o u l names sc

  abbrev pub TopStmtHere : StmtTree → Checked → Spot → Type 0
  TopStmtHere (stmt at (line l)) names sp = TopLineHere l names sp.scope
  TopStmtHere (stmt at f) names sp = FormHere o u f names top sp.scope sp.next no_leaps

  -- the statements of the top level, each under the names that those before it put in force
  abbrev pub TopsHere : List PartTree → Checked → Spot → Type 0
  TopsHere [] names sp = ⊤
  TopsHere (a_statement s ∷ ps) names sp = TopStmtHere s names sp × TopsHere ps (behind names top s) (spot_behind s sp)
  TopsHere (p ∷ ps) names sp = TopsHere ps names sp

  -- a function, where these globals are in force: no parameter is named twice
  abbrev pub FunctionHere : FunctionTree → Checked → Scope → Type 0
  FunctionHere f names sc =
      let own : Spot = opening sc (parameter_locals f.parameters 0) in
      (any_twice f.parameters ≡ false) × BlockHere o u f.body (with_locals names (parameters_of [] f.parameters)) (in_function f.result) own.scope own.next no_leaps

  abbrev pub FunctionsHere : List PartTree → Checked → Scope → Type 0
  FunctionsHere [] names sc = ⊤
  FunctionsHere (a_function f ∷ ps) names sc = FunctionHere f names sc × FunctionsHere ps names sc
  FunctionsHere (p ∷ ps) names sc = FunctionsHere ps names sc

-- a script, and what words give
pub record ScriptHere (ss : Settings) (args : List (List ℕ)) (s : ScriptTree) : Type 0 where
  pub tops : TopsHere (source_of s (unit_of ss args s)) (unit_of ss args s) s.parts (first_names s.parts) (first_spot s.parts)
  pub functions : FunctionsHere (source_of s (unit_of ss args s)) (unit_of ss args s) s.parts (all_names s.parts) (function_scope s.parts)
  pub globals : FitGlobals ss s.parts
  pub lists : AreShortLists ss
  pub words : length args ≤ MAX_ITEMS
