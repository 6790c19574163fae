-- For private contracts alone: what is written at the top level.
use Rattle.std.specs.Prelude.{◌≡◌, ℕ, Bool, true, false, Option, None, List, ◌++◌, length}
use Rattle.bds_value.specs.declared.value.At.{At}
use Rattle.bds_value.specs.declared.value.Value.{Value}
use Rattle.bds_code.specs.declared.instr.Instr.TheVariants.{StoreGlobal}
use Rattle.bds_code.specs.declared.unit.Function.{Function}
use Rattle.bds_tree.specs.StmtTree.{StmtTree, PartTree, stmt, line, declare, infer, a_function, an_include, a_statement}
use Rattle.bds_check_size.specs.ScriptSize.{Settings, set_for}
use Rattle.bds_gen_expr.specs.Marks.{one, written}
use Rattle.bds_gen_stmt.specs.FunctionCode.{ending, par_functions}
use Rattle.bds_gen_stmt.specs.StmtCode.{behind as spot_behind}
use Rattle.bds_gen_stmt.specs.UnitCode.{args_code, value_code, top_stmt_code, top_code, top_functions, behind_parts}
use Rattle.bds_gen_stmt_code.specs.Bodies.{spot_of, next_number, place_in, with_function}
use Rattle.bds_gen_stmt_code.specs.declared.body.Unfinished.{Unfinished}

-- a statement's code stands behind what the function had, what is in force behind it is in force, and the functions of its `par` blocks are finished
pub record TopWritten (ss : Settings) (s : StmtTree) (before behind : Unfinished) : Type 0 where
  pub function : behind.body.function ≡ written before.body.function (top_stmt_code ss s (spot_of before.body) (next_number before) (place_in before))
  pub spot : spot_of behind.body ≡ spot_behind s (spot_of before.body)
  pub finished : behind.finished ≡ before.finished ++ par_functions s (spot_of before.body) (next_number before)
  pub first : behind.first ≡ before.first

-- the same of all statements in these parts
pub record TopsWritten (ss : Settings) (ps : List PartTree) (before behind : Unfinished) : Type 0 where
  pub function : behind.body.function ≡ written before.body.function (top_code ss ps (spot_of before.body) (next_number before) (place_in before))
  pub spot : spot_of behind.body ≡ behind_parts ps (spot_of before.body)
  pub finished : behind.finished ≡ before.finished ++ top_functions ps (spot_of before.body) (next_number before)
  pub first : behind.first ≡ before.first

abbrev pub at_of : StmtTree → At
at_of (stmt at f) = at

-- the value that words give the global of its line
abbrev pub set_in : Settings → StmtTree → Option Value
set_in ss (stmt at (line l)) = set_for ss l
set_in ss _ = None

-- its line declares a global
abbrev pub names_global : StmtTree → Bool
names_global (stmt at (line (declare t x r))) = true
names_global (stmt at (line (infer x r))) = true
names_global _ = false

-- a value that words give a global stands in the place of what is on the right of its line
pub record SetWritten (v : Value) (s : StmtTree) (before behind : Unfinished) : Type 0 where
  pub function : behind.body.function ≡ written before.body.function (value_code (at_of s) v ++ one (at_of s) (StoreGlobal (length before.body.scope.globals)))
  pub spot : spot_of behind.body ≡ spot_behind s (spot_of before.body)
  pub finished : behind.finished ≡ before.finished ++ par_functions s (spot_of before.body) (next_number before)
  pub first : behind.first ≡ before.first

-- only statements write there
abbrev pub PartWritten : Settings → PartTree → Unfinished → Unfinished → Type 0
PartWritten ss (a_statement s) before behind = TopWritten ss s before behind
PartWritten ss (a_function f) before behind = behind ≡ before
PartWritten ss (an_include i) before behind = behind ≡ before

-- the code of the top level stands there: the other words, the statements, and what a function ends with
pub record CodeWritten (ss : Settings) (args : List (List ℕ)) (at : At) (ps : List PartTree) (before behind : Unfinished) : Type 0 where
  pub function : Function
  pub above : Unfinished
  pub args_is : function ≡ written before.body.function (args_code at args)
  pub tops : TopsWritten ss ps (with_function before function) above
  pub ended : behind ≡ with_function above (written above.body.function (ending above.body.function.ret at))
