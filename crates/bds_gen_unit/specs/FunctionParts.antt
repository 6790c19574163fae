-- For private contracts alone: what is written of declared functions.
use Rattle.std.specs.Prelude.{◌≡◌, false, List, [], ◌∷◌, ◌++◌, length}
use Rattle.bds_tree.specs.StmtTree.{FunctionTree, PartTree, a_function, an_include, a_statement}
use Rattle.bds_code.specs.declared.unit.Function.{Function}
use Rattle.bds_gen_expr.specs.declared.scope.Scope.{Scope}
use Rattle.bds_gen_stmt.specs.FunctionCode.{types_of, function_of, opening, block_par_functions}
use Rattle.bds_gen_stmt.specs.UnitCode.{parameter_locals, declared_functions, further_functions}
use Rattle.bds_gen_stmt_code.specs.Bodies.{begun, next_number}
use Rattle.bds_gen_stmt_code.specs.declared.body.Unfinished.{Unfinished}

-- what functions see
abbrev pub seen : Scope → Scope
seen sc = record sc { locals = [] }

abbrev pub sees : Unfinished → Scope
sees u = seen u.body.scope

-- this is the function, and the functions of its `par` blocks are finished
pub record FunctionWritten (f : FunctionTree) (before behind : Unfinished) (g : Function) : Type 0 where
  pub function : g ≡ function_of f.name (parameter_locals f.parameters 0) f.result (sees before) f.body (next_number before)
  pub finished : behind.finished ≡ before.finished ++ block_par_functions f.body (opening (sees before) (parameter_locals f.parameters 0)) (next_number before)
  pub scope : sees behind ≡ sees before
  pub first : behind.first ≡ before.first

-- the functions that these parts declare stand behind others
pub record FunctionsWritten (ps : List PartTree) (before behind : Unfinished) (fs gs : List Function) : Type 0 where
  pub functions : gs ≡ fs ++ declared_functions ps (sees before) (next_number before)
  pub finished : behind.finished ≡ before.finished ++ further_functions ps (sees before) (next_number before)
  pub scope : sees behind ≡ sees before

-- a declared function is next: its parameters are in force
abbrev pub opened : FunctionTree → Unfinished → Unfinished
opened f u = record u {
  body = record u.body {
    function = begun f.name (types_of (parameter_locals f.parameters 0)) f.result;
    scope = record u.body.scope { locals = parameter_locals f.parameters 0 };
    first = length (types_of (parameter_locals f.parameters 0));
    at_top = false;
  };
}

-- only a declared function is written
abbrev pub FunctionPushed : PartTree → Unfinished → Unfinished → List Function → List Function → Type 0
FunctionPushed (a_function f) before behind fs gs = (g : Function) × (FunctionWritten f before behind g × (gs ≡ fs ++ g ∷ []))
FunctionPushed (an_include i) before behind fs gs = (behind ≡ before) × (gs ≡ fs)
FunctionPushed (a_statement s) before behind fs gs = (behind ≡ before) × (gs ≡ fs)
